-- A reading performed: the position behind it, and what the code did said of the program's standing. Assumes nothing.
use mathlib.Core.Path.{◌∙◌, ◌≡◌, ap, refl, subst, sym}
use mathlib.Core.Bool.{Bool, ◌&&◌, cond, false, not, true}
use mathlib.Core.List.{List, []}
use Prim.Native.Nat.{◌%◌, ◌*◌, ◌+◌, ◌-◌, ◌/◌, ◌<◌, ◌^◌, ◌≤◌, ℕ}
use native.Mathlib.Omega.{arith}
use lib.Dec.{eqb, leb, ltb}
use lib.ListN.{drop, length, take}
use lib.Seq.{length-take-le}
use borrow.Author.Tests.{le-leb, ltb-true}
use Rattle.std.specs.Prelude.{IfSome, None, Some, is_some}
use Rattle.std.specs.declared.option.Option.{Option}
use Rattle.lists.specs.Segments.{segment, splice}
use Rattle.lists.proofs.Bools.{and_l, and_r, and-when, not_is}
use Rattle.lists.proofs.Segments.{get-put, length-segment}
use Rattle.cabinet_rules.specs.Images.{Image}
use Rattle.command.specs.Commands.{command_size}
use Rattle.lines.specs.Lines.{longest_line}
use Rattle.lines.proofs.Puts.{puts_same}
use Rattle.listing.specs.Listing.{Listed, command_count, has_room_for_all, image_behind, listing}
use Rattle.console.specs.declared.Position.{Position}
use Rattle.console.specs.Readings.{Advanced, Given, Standing, cut, gave, numbers_fit, performed, performed_size, position_behind, standing, standing_after}
use Rattle.console.proofs.Buffers.{at, cut-is, performed-is, performed_le}

-- ---- the position behind
abbrev position : ℕ → ℕ → ℕ → Bool → Option Position
position number commands waiting t = cond t (Some (record { number = number + commands; waiting = waiting })) None

-- what holds of it where the program goes on
pub behind_if : (number commands waiting : ℕ) (last : Bool) (Q : Position → Type 0)
    → ((not last && ltb (number + commands) (2 ^ 64)) ≡ true → Q (record { number = number + commands; waiting = waiting }))
    → IfSome (position_behind number commands waiting last) Q
unfolding position_behind
behind_if number commands waiting last Q f = go (not last && ltb (number + commands) (2 ^ 64)) refl
  where
    go : (t : Bool) → (not last && ltb (number + commands) (2 ^ 64)) ≡ t → IfSome (position number commands waiting t) Q
    go true e = f e
    go false e = tt

behind_more : (number commands waiting : ℕ) (last : Bool)
    → is_some (position_behind number commands waiting last) ≡ (not last && ltb (number + commands) (2 ^ 64))
unfolding position_behind
behind_more number commands waiting last = go (not last && ltb (number + commands) (2 ^ 64))
  where
    go : (t : Bool) → is_some (position number commands waiting t) ≡ t
    go true = refl
    go false = refl

-- ---- the commands performed
-- with room for the lines of a full input buffer, only the numbers must fit
room-numbers : (number e : ℕ) (l out : List ℕ) → e ≤ length l → command_count l * longest_line command_size ≤ length out
    → has_room_for_all number (take e l) out ≡ leb (number + command_count (take e l)) (2 ^ 64)
unfolding has_room_for_all
room-numbers number e l out h k =
    let n : length (take e l) ≡ e = length-take-le e l h in
    ap (λ (t : Bool). t && leb (number + command_count (take e l)) (2 ^ 64))
    (le-leb (command_count (take e l) * longest_line command_size) (length out) (omega arith))

-- before the end of the input they are whole
whole-count : (n e : ℕ) (last : Bool) (l : List ℕ) → e ≤ length l → e ≡ performed_size n last → not last ≡ true
    → command_count (take e l) ≡ e / command_size
whole-count n e last l h d k =
    let n' : length (take e l) ≡ e = length-take-le e l h in
    let f : e ≡ n - n % command_size = d ∙ ap (performed_size n) (not_is last k) in
    omega arith

moved-start : (l : List ℕ) (e n : ℕ) → e + n ≤ length l → take n (splice l 0 (segment l e n)) ≡ segment l e n
unfolding segment
moved-start l e n h = get-put l 0 n (take n (drop e l)) (length-segment l e n h) (omega arith)

-- ---- what the code did, said of the program's standing
pub advanced : (number w got put e : ℕ) (l b out o : List ℕ) (g g' : Image) (next : Option Position)
    → w + got ≤ length l → command_count l * longest_line command_size ≤ length out → e ≡ performed_size (w + got) (eqb got 0)
    → Listed number (take e l) out g put o g' → b ≡ splice l 0 (segment l e (w + got - e))
    → next ≡ position_behind number (e / command_size) (w + got - e) (eqb got 0)
    → Advanced (at number w l g) (gave (segment l w got)) out (record { put = put; next = next }) o b g'
advanced number w got put e l b out o g g' next h k d ran moved behind =
    let s : Standing = at number w l g in
    let r : Given = gave (segment l w got) in
    let last : Bool = eqb got 0 in
    let size : e ≤ w + got = subst (λ (n : ℕ). n ≤ w + got) (sym d) (performed_le (w + got) last) in
    let p : take e l ≡ performed s r = sym (performed-is number w got l g h ∙ ap (λ (n : ℕ). take n l) (sym d)) in
    let q : segment l e (w + got - e) ≡ cut s r = sym (cut-is number w got l g h ∙ ap (λ (n : ℕ). segment l n (w + got - n)) (sym d)) in
    let len : got ≡ length (segment l w got) = sym (length-segment l w got h) in
    let fit : has_room_for_all number (take e l) out ≡ numbers_fit s r = room-numbers number e l out (omega arith) k ∙ ap (λ (x : List ℕ). leb (number + command_count x) (2 ^ 64)) p in
    let image : g' ≡ cond (numbers_fit s r) (standing_after s r).image g =
    ran.leaves ∙ (λ i. cond (fit i) (image_behind (p i) g (command_count (p i))) g) in
    let count : not last ≡ true → e / command_size ≡ command_count (take e l) = λ t. sym (whole-count (w + got) e last l (omega arith) d t) in
    record {
      prints = puts_same (λ i. cond (fit i) (listing number (p i) g (command_count (p i))) []) ran.prints;
      leaves = image;
      goes = ap is_some behind ∙ behind_more number (e / command_size) (w + got - e) last
          ∙ and-when (not last) (ltb (number + e / command_size) (2 ^ 64)) (ltb (number + command_count (take e l)) (2 ^ 64))
          (λ t. ap (λ (n : ℕ). ltb (number + n) (2 ^ 64)) (count t))
          ∙ (λ i. not (eqb (len i) 0) && ltb (number + command_count (p i)) (2 ^ 64));
      stands = subst (λ (x : Option Position). IfSome x (λ at. standing at b g' ≡ standing_after s r)) (sym behind)
          (behind_if number (e / command_size) (w + got - e) last (λ at. standing at b g' ≡ standing_after s r) (λ on.
          let c : e / command_size ≡ command_count (performed s r) = count (and_l (not last) (ltb (number + e / command_size) (2 ^ 64)) on) ∙ ap command_count p in
          let below : number + e / command_size < 2 ^ 64 = ltb-true (number + e / command_size) (2 ^ 64) (and_r (not last) (ltb (number + e / command_size) (2 ^ 64)) on) in
          let waits : take (w + got - e) b ≡ cut s r = ap (take (w + got - e)) moved ∙ moved-start l e (w + got - e) (omega arith) ∙ q in
          let im : g' ≡ (standing_after s r).image =
          image ∙ ap (λ (t : Bool). cond t (standing_after s r).image g) (le-leb (number + command_count (performed s r)) (2 ^ 64) (omega arith)) in
          λ i. record { number = number + c i; waiting = waits i; image = im i }));
    }
