-- A step and a run of them: the laws that finish their proofs. Assumes nothing.
use mathlib.Core.Path.{◌∙◌, ◌≡◌, ap, refl, subst, sym}
use mathlib.Core.Bool.{Bool, cond, false, true}
use mathlib.Core.List.{List, ◌++◌, [], append-nil}
use Prim.Native.Nat.{◌*◌, ◌+◌, ◌-◌, ◌<◌, ◌^◌, ◌≤◌, ℕ, zero-le}
use native.Mathlib.Omega.{arith}
use native.Mathlib.Numerals.{add-one}
use lib.Dec.{leb}
use lib.ListN.{drop, length, length-append, length-drop, length-take, take}
use borrow.Rule.Slice.PartMut.{mid_of, put_mid}
use lib.Seq.{drop-append_seam, drop-drop, take-append_seam, take_all}
use native.Mathlib.Nat.{min-le_left}
use borrow.Author.Tests.{le-leb, leb-true}
use mathlib.Core.Logic.{⊎_elim}
use Rattle.std.specs.Prelude.{min}
use Rattle.std.proofs.lemmas.List.{nil_from_length}
use Rattle.lists.proofs.Cases.{lt-or-ge}
use Rattle.lists.specs.Segments.{segment}
use Rattle.lists.proofs.Bools.{and_l, and_r, same_test}
use Rattle.image.proofs.Parts.{length_part}
use Rattle.cabinet_rules.specs.Images.{Image}
use Rattle.promise.specs.Promise.{Answered, shown}
use Rattle.command.specs.Commands.{command_size}
use Rattle.command.specs.Meaning.{Obeyed, command_next}
use Rattle.lines.specs.Lines.{has_room, line, line_in, longest_line}
use Rattle.listing.specs.Listing.{Listed, Stepped, command_bytes, command_count, has_room_for_all, image_behind, line_on, listing}
use Rattle.lines.specs.Text.{Puts}
use Rattle.lines.proofs.Lines.{line-there}
use Rattle.lines.proofs.Puts.{puts-next, puts_none, puts-part, puts_same}

-- ---- one command
-- what is chosen by a test that is known
abbrev Chosen : ℕ → List ℕ → List ℕ → Image → ℕ → List ℕ → Image → Bool → Type 0
Chosen n command out g end o g' t =
    Puts (cond t (line_on n command g) []) out 0 end o × (g' ≡ cond t (command_next command g) g)

chosen : (n : ℕ) (command out : List ℕ) (g : Image) (end : ℕ) (o : List ℕ) (g' : Image) (t : Bool) → t ≡ has_room out command
    → Chosen n command out g end o g' t → Stepped n command out g end o g'
chosen n command out g end o g' t e p =
    let q = subst (Chosen n command out g end o g') e p in
    record { prints = q.0; leaves = q.1 }

pub no_step : (n : ℕ) (command out : List ℕ) (g : Image) → false ≡ has_room out command → Stepped n command out g 0 out g
no_step n command out g h = chosen n command out g 0 out g false h (puts_none out 0 zero-le, refl)

pub one-step : (n : ℕ) (command out : List ℕ) (g : Image) (a : Answered) (end : ℕ) (o : List ℕ) (g' : Image) → true ≡ has_room out command
    → Obeyed command g a g' → Puts (line_in out n command (shown a)) out 0 end o → Stepped n command out g end o g'
one-step n command out g a end o g' h d p =
    chosen n command out g end o g' true h (puts_same (sym (line-there out command n (shown a) (sym h)) ∙ ap (line n command) d.answers) p, d.leaves)

-- with room, a step is the line and the image after the command
pub stepped : {n : ℕ} {command out : List ℕ} {g : Image} {end : ℕ} {o : List ℕ} {g' : Image} → has_room out command ≡ true → Stepped n command out g end o g'
    → Puts (line_on n command g) out 0 end o × (g' ≡ command_next command g)
stepped {n} {command} {out} {g} {end} {o} {g'} h s = subst (Chosen n command out g end o g') h (s.prints, s.leaves)

-- ---- the commands of an input
-- a chunk that comes off what is left behind n commands is the next command
pub chunk-is : (l rest chunk next : List ℕ) (n : ℕ) → rest ≡ drop (n * command_size) l → rest ≡ chunk ++ next → length chunk ≡ min command_size (length rest)
    → (chunk ≡ command_bytes l n) × (next ≡ drop ((n + 1) * command_size) l)
unfolding segment
chunk-is l rest chunk next n left parts size =
    let sum : length rest ≡ length chunk + length next = ap length parts ∙ length-append chunk next in
    let all : length rest ≡ length l - n * command_size = ap length left ∙ length-drop (n * command_size) l in
    ⊎_elim (λ (short : length rest < command_size).
    let none : next ≡ [] = nil_from_length next (omega arith) in
    let whole : rest ≡ chunk = parts ∙ ap (λ (t : List ℕ). chunk ++ t) none ∙ append-nil chunk in (
      sym whole ∙ left ∙ sym (take_all command_size (drop (n * command_size) l) (omega (arith, length-drop (n * command_size) l))),
      none ∙ sym (nil_from_length (drop ((n + 1) * command_size) l) (omega (arith, length-drop ((n + 1) * command_size) l))),
    ))
    (λ (long : command_size ≤ length rest).
    let five : length chunk ≡ command_size = omega arith in
    let there : chunk ++ next ≡ drop (n * command_size) l = sym parts ∙ left in
    let more : n * command_size + command_size ≡ (n + 1) * command_size = omega arith in (
      sym (take-append_seam chunk next) ∙ (λ i. take (five i) (there i)),
      sym (drop-append_seam chunk next) ∙ (λ i. drop (five i) (there i)) ∙ drop-drop command_size (n * command_size) l ∙ ap (λ (m : ℕ). drop m l) more,
    ))
    (lt-or-ge (length rest) command_size)

-- a command has at most five bytes
pub command_short : (l : List ℕ) (a : ℕ) → length (segment l a command_size) ≤ command_size
unfolding segment
command_short l a = subst (λ (n : ℕ). n ≤ command_size) (sym (length-take command_size (drop a l))) (min-le_left command_size (length (drop a l)))

-- a command of the input, performed with its line in a part of the buffer
pub turned : (n at end k i : ℕ) (input bytes out part : List ℕ) (g g' : Image)
    → bytes ≡ command_bytes input i → k ≡ length out - at → at + longest_line command_size ≤ length out
    → Stepped n bytes (mid_of at k out) g end part g' → end ≤ longest_line (length bytes)
    → Puts (line_on n (command_bytes input i) g) out at (at + end) (put_mid at k out part)
    × (at + end ≤ at + longest_line command_size) × (g' ≡ command_next (command_bytes input i) g)
unfolding has_room
turned n at end k i input bytes out part g g' d h r s m =
    let s' : Stepped n (command_bytes input i) (mid_of at k out) g end part g' = subst (λ (l : List ℕ). Stepped n l (mid_of at k out) g end part g') d s in
    let m' : end ≤ longest_line (length (command_bytes input i)) = subst (λ (l : List ℕ). end ≤ longest_line (length l)) d m in
    let short : length (command_bytes input i) ≤ command_size = command_short input (i * command_size) in
    let long : length (mid_of at k out) ≡ k = length_part at k out k refl (omega arith) in
    let room : has_room (mid_of at k out) (command_bytes input i) ≡ true = le-leb (longest_line (length (command_bytes input i))) (length (mid_of at k out)) (omega arith) in
    let q = stepped room s' in
    (puts-part (line_on n (command_bytes input i) g) at k end out part h (omega arith) q.0, omega arith, q.1)

-- ---- a run
-- one line more, and the image after one command more
pub listing-more : (n i at end : ℕ) (input out o o' : List ℕ) (g h : Image) → h ≡ image_behind input g i → Puts (listing n input g i) out 0 at o
    → Puts (line_on (n + i) (command_bytes input i) h) o at end o' → end ≤ length out → Puts (listing n input g (i + 1)) out 0 end o'
unfolding listing
listing-more n i at end input out o o' g h e p q m =
    puts_same (ap (λ (k : Image). listing n input g i ++ line_on (n + i) (command_bytes input i) k) e ∙ ap (listing n input g) (sym (add-one i))) (puts-next p q m)

pub image-more : (i : ℕ) (input : List ℕ) (g h h' : Image) → h ≡ image_behind input g i → h' ≡ command_next (command_bytes input i) h → h' ≡ image_behind input g (i + 1)
unfolding image_behind
image-more i input g h h' e f = f ∙ ap (command_next (command_bytes input i)) e ∙ ap (image_behind input g) (sym (add-one i))

-- what is chosen by a test that is known
abbrev ListedBy : ℕ → List ℕ → List ℕ → Image → ℕ → List ℕ → Image → Bool → Type 0
ListedBy n input out g end o g' t =
    Puts (cond t (listing n input g (command_count input)) []) out 0 end o
    × (g' ≡ cond t (image_behind input g (command_count input)) g)

listed_by : (n : ℕ) (input out : List ℕ) (g : Image) (end : ℕ) (o : List ℕ) (g' : Image) (t : Bool) → t ≡ has_room_for_all n input out
    → ListedBy n input out g end o g' t → Listed n input out g end o g'
listed_by n input out g end o g' t e p =
    let q = subst (ListedBy n input out g end o g') e p in
    record { prints = q.0; leaves = q.1 }

pub no_run : (n : ℕ) (input out : List ℕ) (g : Image) → false ≡ has_room_for_all n input out → Listed n input out g 0 out g
no_run n input out g h = listed_by n input out g 0 out g false h (puts_none out 0 zero-le, refl)

pub whole_run : (n i end : ℕ) (input out o : List ℕ) (g g' : Image) → true ≡ has_room_for_all n input out → i ≡ command_count input
    → Puts (listing n input g i) out 0 end o → g' ≡ image_behind input g i → Listed n input out g end o g'
whole_run n i end input out o g g' h e p q =
    listed_by n input out g end o g' true h (puts_same (ap (listing n input g) e) p, q ∙ ap (image_behind input g) e)

-- ---- room for all
pub room_out : (n : ℕ) (input out : List ℕ) → has_room_for_all n input out ≡ true
    → (command_count input * longest_line command_size ≤ length out) × (n + command_count input ≤ 2 ^ 64)
unfolding has_room_for_all
room_out n input out h = (
  leb-true (command_count input * longest_line command_size) (length out) (and_l (leb (command_count input * longest_line command_size) (length out)) _ h),
  leb-true (n + command_count input) (2 ^ 64) (and_r (leb (command_count input * longest_line command_size) (length out)) _ h),
)

-- Numbers that have room below the greatest of 64 bits are those that have 64 bits.
pub numbers_fit_lem : (n k : ℕ) → n < 2 ^ 64 → 1 ≤ k → leb (k - 1) (18446744073709551615 - n) ≡ leb (n + k) (2 ^ 64)
numbers_fit_lem n k h e =
    same_test (leb (k - 1) (18446744073709551615 - n)) (leb (n + k) (2 ^ 64))
    (λ p. le-leb (n + k) (2 ^ 64) (omega (arith, leb-true (k - 1) (18446744073709551615 - n) p)))
    (λ p. le-leb (k - 1) (18446744073709551615 - n) (omega (arith, leb-true (n + k) (2 ^ 64) p)))
