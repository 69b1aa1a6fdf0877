-- Readings of a reader whose bytes are known, written to a writer whose bytes are known: what was performed are the first
-- bytes of the input, and their listing was written; at the end of the input that is all. Assumes nothing.
use mathlib.Core.Path.{◌∙◌, ◌≡◌, ap, refl, subst, sym}
use mathlib.Core.Bool.{Bool, ◌&&◌, cond, false, not, true}
use mathlib.Core.List.{List, ◌++◌, [], append_assoc, append-nil}
use Prim.Native.Nat.{◌*◌, ◌+◌, ◌-◌, ◌<◌, ◌^◌, ◌≤◌, ℕ}
use native.Mathlib.Omega.{arith}
use lib.Dec.{ltb}
use lib.ListN.{drop, length, length-append, take}
use lib.Seq.{drop-length, length-take-le, take-take}
use borrow.Author.Tests.{eqb-true, leb-false, ltb-false, ltb-true}
use borrow.Rule.Slice.PartMut.{put_mid}
use Rattle.std.specs.Prelude.{IfSome, None, Ok, Result, Some, is_some}
use Rattle.std.specs.Io.{ReadsAtMost}
use Rattle.std.specs.Io.KnownBytes.{Appends, Consumes, IsAtEnd, ReadConsumes}
use Rattle.std.proofs.KnownBytes.{Appends-nil, Appends-trans, Consumes-kept, Consumes-nil, Consumes-trans, Consumes-whole}
use Rattle.std.specs.declared.option.Option.{Option}
use Rattle.lists.specs.Segments.{segment, splice}
use Rattle.lists.proofs.Segments.{get-put}
use Rattle.lists.proofs.Bools.{and_r, tf}
use Rattle.image.proofs.Parts.{part-back}
use Rattle.lines.specs.Text.{Puts}
use Rattle.cabinet_rules.specs.Images.{Image}
use Rattle.command.specs.Commands.{command_size}
use Rattle.listing.specs.Listing.{InParts, command_count, image_behind, listing}
use Rattle.listing.proofs.Parts.{in_parts}
use Rattle.console.specs.declared.Position.{Position}
use Rattle.console.specs.declared.Step.{Step}
use Rattle.console.specs.declared.ending.Failure.{Failure}
use Rattle.console.specs.declared.ending.Failure.TheVariants.{Input, Output}
use Rattle.console.specs.Readings.{Advanced, Given, ListsKnown, ListsRead, NoneRead, ReadOne, ReadSome, Standing, cut, gave, given_by}
use Rattle.console.specs.Readings.{held_bytes, is_end, is_last, lines_of, numbers_fit, performed, performed_size, standing, standing_after}
use Rattle.console.proofs.AllListed.{whole_parts, whole-size}
use Rattle.console.proofs.Loop.{Performed, not_last, still-waiting}
use Rattle.console.proofs.ReadAnswers.{advanced-same, given-ok}

-- what is said of a position that may be none
if_some : {A : Type 0} {P Q : A → Type 0} (o : Option A) → (is_some o ≡ true → (x : A) → P x → Q x) → IfSome o P → IfSome o Q
if_some None f h = tt
if_some (Some x) f h = f refl x h

-- ---- one reading
pub some_of : {s : Standing} {next : Option Position} {buffer : List ℕ} {behind : Image} {left left_behind held held_behind : Option (List ℕ)}
    → ReadOne s next buffer behind left left_behind held held_behind → ReadSome s next buffer behind
some_of a = record { given = gave a.reading; leaves = a.leaves; goes = λ h. sym a.goes ∙ h; stands = a.stands }

-- what was put into the output buffer
put_lines : (t out left : List ℕ) (put : ℕ) → Puts t out 0 put left → put ≤ length out → take put left ≡ t
unfolding segment
put_lines t out left put p h =
    let e : put ≡ length t = omega (arith, p.ends) in
    (λ i. take (e i) (p.leaves i)) ∙ get-put out 0 (length t) t refl (omega (arith, e, h))

-- what was read behind the bytes that wait
read_part : (l part : List ℕ) (w n : ℕ) → w ≤ length l → length part ≡ length l - w → n ≤ length part
    → segment (put_mid w (length l - w) l part) w n ≡ take n part
unfolding segment
read_part l part w n h e k =
    ap (λ (t : List ℕ). take n (drop w t)) (part-back w (length l - w) l part e)
    ∙ sym (take-take n (length part) (drop w (splice l w part)) k)
    ∙ ap (take n) (get-put l w (length part) part refl (omega (arith, h, e)))

pub one_of : {E : Type 0} (at : Position) (step : Step) (n : ℕ) (l part out left_out later : List ℕ) (g behind : Image) (r : Result ℕ E) (left left_behind held held_behind : Option (List ℕ))
    → at.waiting < length l → length part ≡ length l - at.waiting → r ≡ Ok n → ReadsAtMost r part → ReadConsumes left left_behind r part
    → Advanced (standing at (put_mid at.waiting (length l - at.waiting) l part) g) (given_by r at.waiting (put_mid at.waiting (length l - at.waiting) l part)) out step left_out later behind
    → step.put ≤ length out → Appends held held_behind (take step.put left_out)
    → ReadOne (standing at l g) step.next later behind left left_behind held held_behind
one_of {E} at step n l part out left_out later g behind r left left_behind held held_behind h e is bound bytes a fits written =
    let w : ℕ = at.waiting in
    let mid : List ℕ = put_mid w (length l - w) l part in
    let most : n ≤ length part = (subst (λ (x : Result ℕ E). ReadsAtMost x part) is bound).0 in
    let took : Consumes left left_behind (take n part) × (n ≡ 0 → 0 < length part → IsAtEnd left_behind) =
    subst (λ (x : Result ℕ E). ReadConsumes left left_behind x part) is bytes in
    let given : given_by r w mid ≡ gave (take n part) =
    sym (given-ok r n w mid is) ∙ ap gave (read_part l part w n (omega arith) e most) in
    let b : Advanced (standing at l g) (gave (take n part)) out step left_out later behind =
    subst (λ (s : Standing). Advanced s (gave (take n part)) out step left_out later behind)
    (still-waiting at (length l - w) l part g (omega arith)) (advanced-same given a) in
    record {
      reading = take n part;
      leaves = b.leaves;
      goes = b.goes;
      stands = b.stands;
      takes = took.0;
      ends = λ z. took.1 (sym (length-take-le n part most) ∙ eqb-true (length (take n part)) 0 z) (omega (arith, h, e));
      writes = subst (λ (t : List ℕ). Appends held held_behind t) (put_lines _ out left_out step.put b.prints fits) written;
    }

-- ---- the readings so far
-- what is performed are the first bytes of the input; while the program goes on, what waits follows them
pub record Listed (first now : Image) (next : Option Position) (buffer : List ℕ) (left left_now held held_now : Option (List ℕ)) : Type 0 where
  pub input : List ℕ
  pub leaves : now ≡ image_behind input first (command_count input)
  pub whole : is_some next ≡ true → length input ≡ command_count input * command_size
  pub writes : Appends held held_now (listing 1 input first (command_count input))
  pub number : IfSome next (λ at. at.number ≡ 1 + command_count input)
  pub takes : IfSome next (λ at. Consumes left left_now (input ++ take at.waiting buffer))
  pub ends : is_some next ≡ false → IfSome left (λ (bytes : List ℕ). command_count bytes + 1 < 2 ^ 64 → bytes ≡ input)

pub performed_of : {first now : Image} {next : Option Position} {buffer : List ℕ} {left left_now held held_now : Option (List ℕ)}
    → Listed first now next buffer left left_now held held_now → Performed first now (is_some next)
performed_of p = record { input = p.input; leaves = p.leaves; whole = p.whole }

pub listed_at : {first now : Image} {next : Option Position} {at : Position} {buffer : List ℕ} {left left_now held held_now : Option (List ℕ)}
    → next ≡ Some at → Listed first now next buffer left left_now held held_now → Listed first now (Some at) buffer left left_now held held_now
listed_at {first} {now} {next} {at} {buffer} {left} {left_now} {held} {held_now} e p =
    subst (λ (x : Option Position). Listed first now x buffer left left_now held held_now) e p

pub none_listed : (g : Image) (buffer : List ℕ) (left held : Option (List ℕ))
    → Listed g g (Some (record { number = 1; waiting = 0 })) buffer left left held held
unfolding image_behind listing
none_listed g buffer left held = record {
  input = [];
  leaves = refl;
  whole = λ h. refl;
  writes = Appends-nil held;
  number = refl;
  takes = Consumes-nil left;
  ends = λ h. tf true refl h;
}

-- more commands than have numbers
too_many : (left left_now : Option (List ℕ)) (bytes input : List ℕ) → Consumes left left_now bytes → 2 ^ 64 ≤ command_count bytes + 1
    → IfSome left (λ (all : List ℕ). command_count all + 1 < 2 ^ 64 → all ≡ input)
too_many None left_now bytes input c h = tt
too_many (Some all) None bytes input c h = absurd c
too_many (Some all) (Some rest) bytes input c h =
    let n : length all ≡ length bytes + length rest = ap length c ∙ length-append bytes rest in
    λ f. absurd (omega (arith, n, h, f))

-- at the end of the input nothing is cut
no_cut : (s : Standing) (reading : List ℕ) → is_end reading ≡ true → cut s (gave reading) ≡ []
unfolding cut
no_cut s reading e =
    let n : ℕ = length (held_bytes s reading) in
    ap (λ (t : Bool). drop (performed_size n t) (held_bytes s reading)) e ∙ drop-length (held_bytes s reading)

-- a reading more
pub more_listed : (first now behind : Image) (at : Position) (next : Option Position) (buffer later : List ℕ) (left left_now left_behind held held_now held_behind : Option (List ℕ))
    → Listed first now (Some at) buffer left left_now held held_now
    → ReadOne (standing at buffer now) next later behind left_now left_behind held_now held_behind
    → Listed first behind next later left left_behind held held_behind
more_listed first now behind at next buffer later left left_now left_behind held held_now held_behind p a = go (numbers_fit s x) refl
  where
    s : Standing
    s = standing at buffer now

    x : Given
    x = gave a.reading

    l : List ℕ
    l = p.input

    y : List ℕ
    y = performed s x

    z : List ℕ
    z = cut s x

    k : ℕ
    k = command_count p.input

    parts : InParts 1 (command_count p.input) p.input (performed s x) first
    parts = in_parts 1 (command_count p.input) p.input (performed s x) first (p.whole refl)

    -- all bytes taken
    all : Consumes left left_behind ((l ++ y) ++ z)
    all =
        let e : (l ++ s.waiting) ++ a.reading ≡ (l ++ y) ++ z =
        append_assoc l s.waiting a.reading ∙ ap (λ (t : List ℕ). l ++ t) (sym (whole_parts s a.reading)) ∙ sym (append_assoc l y z) in
        subst (λ (t : List ℕ). Consumes left left_behind t) e
        (Consumes-trans left left_now left_behind (l ++ s.waiting) a.reading (p.takes) a.takes)

    -- they have at least the commands performed
    many : k + command_count y ≤ command_count ((l ++ y) ++ z)
    many = omega (arith, length-append (l ++ y) z, length-append l y, p.whole refl)

    next-fits : is_some next ≡ true → s.number + command_count y < 2 ^ 64
    next-fits h = ltb-true (s.number + command_count y) (2 ^ 64) (and_r (not (is_last x)) (ltb (s.number + command_count y) (2 ^ 64)) (sym a.goes ∙ h))

    at-end : (t : Bool) → is_end a.reading ≡ t → is_some next ≡ false
        → IfSome left (λ (bytes : List ℕ). command_count bytes + 1 < 2 ^ 64 → bytes ≡ l ++ y)
    at-end true e h =
        Consumes-whole left left_behind ((l ++ y) ++ z) (λ (bytes : List ℕ). command_count bytes + 1 < 2 ^ 64 → bytes ≡ l ++ y) all (a.ends e)
        (λ f. ap (λ (t : List ℕ). (l ++ y) ++ t) (no_cut s a.reading e) ∙ append-nil (l ++ y))
    at-end false e h =
        let n : s.number ≡ 1 + k = p.number in
        let f : ltb (s.number + command_count y) (2 ^ 64) ≡ false =
        sym (ap (λ (t : Bool). not t && ltb (s.number + command_count y) (2 ^ 64)) e) ∙ sym a.goes ∙ h in
        too_many left left_behind ((l ++ y) ++ z) (l ++ y) all (omega (arith, n, many, ltb-false (s.number + command_count y) (2 ^ 64) f))

    go : (t : Bool) → numbers_fit s x ≡ t → Listed first behind next later left left_behind held held_behind
    go true e =
        let c : command_count (l ++ y) ≡ k + command_count y = parts.counts in
        let n : s.number ≡ 1 + k = p.number in
        let lines : cond (numbers_fit s x) (lines_of s x) [] ≡ listing (1 + k) y (image_behind l first k) (command_count y) =
        ap (λ (t : Bool). cond t (lines_of s x) []) e ∙ (λ i. listing (n i) y (p.leaves i) (command_count y)) in
        let printed : listing 1 l first k ++ cond (numbers_fit s x) (lines_of s x) [] ≡ listing 1 (l ++ y) first (command_count (l ++ y)) =
        ap (λ (t : List ℕ). listing 1 l first k ++ t) lines ∙ sym (parts.prints (command_count y)) ∙ ap (listing 1 (l ++ y) first) (sym c) in
        record {
          input = l ++ y;
          leaves = a.leaves ∙ ap (λ (t : Bool). cond t (standing_after s x).image s.image) e
              ∙ ap (λ (g : Image). image_behind y g (command_count y)) p.leaves
              ∙ sym (parts.leaves (command_count y)) ∙ ap (image_behind (l ++ y) first) (sym c);
          whole = λ h. omega (arith, length-append l y, c, p.whole refl, whole-size s x (not_last s x (sym a.goes ∙ h)));
          writes = subst (λ (t : List ℕ). Appends held held_behind t) printed
              (Appends-trans held held_now held_behind (listing 1 l first k) (cond (numbers_fit s x) (lines_of s x) []) p.writes a.writes);
          number = if_some next (λ h q e. omega (arith, ap (λ (t : Standing). t.number) e, n, c)) a.stands;
          takes = if_some next (λ h q e. subst (λ (t : List ℕ). Consumes left left_behind ((l ++ y) ++ t)) (sym (ap (λ (t : Standing). t.waiting) e)) all) a.stands;
          ends = at-end (is_end a.reading) refl;
        }
    go false e =
        let n : s.number ≡ 1 + k = p.number in
        let f : 2 ^ 64 < s.number + command_count y = leb-false (s.number + command_count y) (2 ^ 64) e in
        let printed : listing 1 l first k ++ cond (numbers_fit s x) (lines_of s x) [] ≡ listing 1 l first k =
        ap (λ (t : Bool). listing 1 l first k ++ cond t (lines_of s x) []) e ∙ append-nil (listing 1 l first k) in
        record {
          input = l;
          leaves = a.leaves ∙ ap (λ (t : Bool). cond t (standing_after s x).image s.image) e ∙ p.leaves;
          whole = λ h. p.whole refl;
          writes = subst (λ (t : List ℕ). Appends held held_behind t) printed
              (Appends-trans held held_now held_behind (listing 1 l first k) (cond (numbers_fit s x) (lines_of s x) []) p.writes a.writes);
          number = if_some next (λ h q e. absurd (omega (arith, f, next-fits h))) a.stands;
          takes = if_some next (λ h q e. absurd (omega (arith, f, next-fits h))) a.stands;
          ends = λ h. too_many left left_behind ((l ++ y) ++ z) l all (omega (arith, n, f, many));
        }

-- ---- the end
-- a read failed: what was performed are the whole commands of the bytes taken
pub lists_read : (first now behind : Image) (at : Position) (buffer : List ℕ) (left left_now left_behind held held_now held_behind : Option (List ℕ)) (f : Failure)
    → Listed first now (Some at) buffer left left_now held held_now → at.waiting < command_size → at.waiting ≤ length buffer
    → NoneRead now behind left_now left_behind held_now held_behind f → ListsRead first behind left left_behind held held_behind f
lists_read first now behind at buffer left left_now left_behind held held_now held_behind (Input e) p w h n = record {
  input = p.input;
  waiting = take at.waiting buffer;
  whole = p.whole refl;
  short = omega (arith, w, length-take-le at.waiting buffer h);
  takes = Consumes-kept left left_now left_behind (p.input ++ take at.waiting buffer) (p.takes) n.1;
  lists = record {
    leaves = n.0 ∙ p.leaves;
    writes = subst (λ (t : Option (List ℕ)). Appends held t (listing 1 p.input first (command_count p.input))) (sym n.2) p.writes;
  };
}
lists_read first now behind at buffer left left_now left_behind held held_now held_behind (Output e) p w h n = tt

-- the program went on to the end: what it performed is the input
pub lists_known : (first now : Image) (next : Option Position) (buffer : List ℕ) (left left_now held held_now : Option (List ℕ))
    → Listed first now next buffer left left_now held held_now → next ≡ None → ListsKnown first now left held held_now
lists_known first now next buffer left left_now held held_now p e = each left (p.ends (ap is_some e))
  where
    each : (o : Option (List ℕ)) → IfSome o (λ (bytes : List ℕ). command_count bytes + 1 < 2 ^ 64 → bytes ≡ p.input) → ListsKnown first now o held held_now
    each None h = tt
    each (Some bytes) h = λ f. record {
      leaves = p.leaves ∙ ap (λ (t : List ℕ). image_behind t first (command_count t)) (sym (h f));
      writes = subst (λ (t : List ℕ). Appends held held_now (listing 1 t first (command_count t))) (sym (h f)) p.writes;
    }
