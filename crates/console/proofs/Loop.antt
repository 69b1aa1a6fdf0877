-- The loop over the readings: a reading adds its commands to those performed, and the bytes read rise, so that the
-- numbers end. Assumes nothing.
use mathlib.Core.Path.{◌∙◌, ◌≡◌, ap, refl, subst, sym}
use mathlib.Core.Bool.{Bool, cond, false, not, true}
use mathlib.Core.List.{List, ◌++◌}
use Prim.Native.Nat.{◌*◌, ◌+◌, ◌-◌, ◌<◌, ◌^◌, ◌≤◌, ℕ}
use native.Mathlib.Omega.{arith}
use native.Mathlib.Nat.{min-le_left}
use lib.Dec.{ltb}
use lib.ListN.{length, length-append, length-take, take}
use lib.Seq.{length-take-le, take_at}
use borrow.Author.Tests.{eqb-false, leb-false, ltb-true}
use borrow.Rule.Slice.PartMut.{put_mid}
use Rattle.std.specs.Prelude.{IfSome, None, Some, is_some}
use Rattle.std.specs.declared.option.Option.{Option}
use Rattle.lists.proofs.Bools.{and_l, and_r, not_is, tf}
use Rattle.cabinet_rules.specs.Images.{Image}
use Rattle.command.specs.Commands.{command_size}
use Rattle.listing.specs.Listing.{InParts, command_count, image_behind}
use Rattle.listing.proofs.Parts.{in_parts}
use Rattle.console.specs.declared.Position.{Position}
use Rattle.console.specs.declared.Step.{Step}
use Rattle.console.specs.Readings.{Advanced, Given, RanSome, ReadSome, Standing, cut, gave, goes_on, is_last, numbers_fit, performed, read_failed}
use Rattle.console.specs.Readings.{standing, standing_after}
use Rattle.console.proofs.AllListed.{whole_parts, whole-size}

-- ---- a reading that the operating system chose
-- a reading behind the bytes that wait leaves them
pub still-waiting : (at : Position) (k : ℕ) (l ys : List ℕ) (g : Image) → at.waiting ≤ length l
    → standing at (put_mid at.waiting k l ys) g ≡ standing at l g
still-waiting at k l ys g h =
    ap (λ (b : List ℕ). record { number = at.number; waiting = b; image = g }) (take_at (take at.waiting l) _ at.waiting (length-take-le at.waiting l h))

pub read_some : {s s' : Standing} {x : Given} {out left b : List ℕ} {step : Step} {g : Image} → s ≡ s' → Advanced s x out step left b g
    → ReadSome s' step.next b g
read_some {s} {s'} {x} {out} {left} {b} {step} {g} e a =
    subst (λ (z : Standing). ReadSome z step.next b g) e
    (record {
      given = x;
      leaves = a.leaves;
      goes = λ h. sym a.goes ∙ h;
      stands = a.stands;
    })

-- ---- the bytes read rise
pub not_last : (s : Standing) (x : Given) → goes_on s x ≡ true → is_last x ≡ false
not_last s x h = not_is (is_last x) (and_l (not (is_last x)) (ltb (s.number + command_count (performed s x)) (2 ^ 64)) h)

more-held : (s : Standing) (x : Given) → is_last x ≡ false → length s.waiting < length (performed s x) + length (cut s x)
more-held s (gave r) h =
    let held : length (performed s (gave r)) + length (cut s (gave r)) ≡ length s.waiting + length r =
    sym (length-append (performed s (gave r)) (cut s (gave r))) ∙ ap length (whole_parts s r) ∙ length-append s.waiting r in
    omega (arith, held, eqb-false (length r) 0 h)
more-held s read_failed h = tf true refl h

rises : (s : Standing) (next : Position) (b : List ℕ) (g : Image) → ReadSome s (Some next) b g
    → s.number * command_size + length s.waiting < next.number * command_size + next.waiting
rises s next b g a =
    let x : Given = a.given in
    let some : is_last x ≡ false = not_last s x (a.goes refl) in
    let n : next.number ≡ s.number + command_count (performed s x) = ap (λ (z : Standing). z.number) a.stands in
    let w : length (take next.waiting b) ≡ length (cut s x) = ap (λ (z : Standing). length z.waiting) a.stands in
    let m : length (take next.waiting b) ≤ next.waiting = subst (λ (k : ℕ). k ≤ next.waiting) (sym (length-take next.waiting b)) (min-le_left next.waiting (length b)) in
    omega (arith, n, w, m, whole-size s x some, more-held s x some)

below : (s : Standing) (next : Position) (b : List ℕ) (g : Image) → ReadSome s (Some next) b g → next.number < 2 ^ 64
below s next b g a =
    let n : ℕ = s.number + command_count (performed s a.given) in
    subst (λ (k : ℕ). k < 2 ^ 64) (sym (ap (λ (x : Standing). x.number) a.stands))
    (ltb-true n (2 ^ 64) (and_r (not (is_last a.given)) (ltb n (2 ^ 64)) (a.goes refl)))

-- how far the numbers can still rise
abbrev pub turns_left : Option Position → ℕ
turns_left None = 0
turns_left (Some at) = 2 ^ 64 * command_size - (at.number * command_size + at.waiting) + 1

pub falls : (s : Standing) (at : Position) (next : Option Position) (b : List ℕ) (g : Image) → s.number ≡ at.number → length s.waiting ≡ at.waiting
    → IfSome next (λ n. n.waiting < command_size) → ReadSome s next b g → turns_left next < turns_left (Some at)
falls s at None b g e f w a = omega arith
falls s at (Some n) b g e f w a = omega (arith, rises s n b g a, below s n b g a)

-- ---- the commands performed
-- the image is the one after an input's commands, which are whole while the program goes on
pub record Performed (first now : Image) (more : Bool) : Type 0 where
  pub input : List ℕ
  pub leaves : now ≡ image_behind input first (command_count input)
  pub whole : more ≡ true → length input ≡ command_count input * command_size

pub more-performed : (g : Image) (s : Standing) (next : Option Position) (b : List ℕ) (h : Image) → Performed g s.image true → ReadSome s next b h
    → Performed g h (is_some next)
more-performed g s next b h p a = go (numbers_fit s a.given) refl
  where
    r : Given
    r = a.given

    l : List ℕ
    l = p.input

    x : List ℕ
    x = performed s a.given

    parts : InParts 1 (command_count p.input) p.input (performed s a.given) g
    parts = in_parts 1 (command_count p.input) p.input (performed s a.given) g (p.whole refl)

    go : (t : Bool) → numbers_fit s a.given ≡ t → Performed g h (is_some next)
    go true e =
        let size : (is_some next) ≡ true → length x ≡ command_count x * command_size = λ m. whole-size s r (not_last s r (a.goes m)) in
        let n : length (l ++ x) ≡ length l + length x = length-append l x in
        let c : command_count (l ++ x) ≡ command_count l + command_count x = parts.counts in
        let k : length l ≡ command_count l * command_size = p.whole refl in
        record {
          input = l ++ x;
          leaves = a.leaves ∙ ap (λ (t : Bool). cond t (standing_after s r).image s.image) e
              ∙ ap (λ (m : Image). image_behind x m (command_count x)) p.leaves
              ∙ sym (parts.leaves (command_count x)) ∙ ap (image_behind (l ++ x) g) (sym c);
          whole = λ m. omega (arith, n, c, k, size m);
        }
    go false e =
        record {
          input = l;
          leaves = a.leaves ∙ ap (λ (t : Bool). cond t (standing_after s r).image s.image) e ∙ p.leaves;
          whole = λ m.
              let below : s.number + command_count x < 2 ^ 64 = ltb-true (s.number + command_count x) (2 ^ 64) (and_r (not (is_last r)) (ltb (s.number + command_count x) (2 ^ 64)) (a.goes m)) in
              absurd (omega (arith, below, leb-false (s.number + command_count x) (2 ^ 64) e));
        }

pub ran-some : {g h : Image} {more : Bool} → Performed g h more → RanSome g h
ran-some p = record { input = p.input; leaves = p.leaves }
