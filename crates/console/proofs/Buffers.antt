-- What stands in the input buffer: the bytes that wait and behind them a reading are one start of the buffer, and what is
-- performed and what is cut are its two parts. Assumes nothing.
use mathlib.Core.Path.{◌∙◌, ◌≡◌, ap, sym}
use mathlib.Core.Bool.{Bool, false, true}
use mathlib.Core.List.{List, ◌++◌}
use Prim.Native.Nat.{◌+◌, ◌-◌, ◌<◌, ◌≤◌, ℕ}
use native.Mathlib.Omega.{arith}
use lib.Dec.{eqb}
use lib.ListN.{drop, length, take}
use lib.Seq.{drop_at, length-take-le, take-add, take-take}
use Rattle.std.specs.List.{copy_within}
use Rattle.lists.specs.Segments.{segment, splice}
use Rattle.lists.proofs.Segments.{length-segment}
use Rattle.cabinet_rules.specs.Images.{Image}
use Rattle.command.specs.Commands.{command_size}
use Rattle.console.specs.Readings.{Standing, cut, gave, held_bytes, performed, performed_size}

-- ---- a move to the start of the buffer
pub moved : (l : List ℕ) (a b : ℕ) → a ≤ b → b ≤ length l → copy_within l a b 0 ≡ splice l 0 (segment l a (b - a))
unfolding segment splice
moved l a b h k =
    let n : length (segment l a (b - a)) ≡ b - a = length-segment l a (b - a) (omega arith) in
    ap (λ (m : ℕ). segment l a (b - a) ++ drop (0 + m) l) (sym n)

-- ---- the two parts of what is held
pub drop-taken : (l : List ℕ) (e m : ℕ) → e ≤ m → m ≤ length l → drop e (take m l) ≡ segment l e (m - e)
unfolding segment
drop-taken l e m h k =
    let s : m ≡ e + (m - e) = omega arith in
    ap (λ (j : ℕ). drop e (take j l)) s ∙ ap (drop e) (take-add e (m - e) l) ∙ drop_at (take e l) (take (m - e) (drop e l)) e (length-take-le e l (omega arith))

pub performed_le : (n : ℕ) (last : Bool) → performed_size n last ≤ n
performed_le n true = omega arith
performed_le n false = omega arith

pub rest-short : (n : ℕ) (last : Bool) → n - performed_size n last < command_size
rest-short n true = omega arith
rest-short n false = omega arith

-- a program that stands with w bytes of the buffer waiting
abbrev pub at : ℕ → ℕ → List ℕ → Image → Standing
at number w l g = record { number = number; waiting = take w l; image = g }

pub held-is : (number w got : ℕ) (l : List ℕ) (g : Image) → held_bytes (at number w l g) (segment l w got) ≡ take (w + got) l
unfolding segment
held-is number w got l g = sym (take-add w got l)

held-length : (number w got : ℕ) (l : List ℕ) (g : Image) → w + got ≤ length l → length (held_bytes (at number w l g) (segment l w got)) ≡ w + got
held-length number w got l g h = ap length (held-is number w got l g) ∙ length-take-le (w + got) l h

pub performed-is : (number w got : ℕ) (l : List ℕ) (g : Image) → w + got ≤ length l
    → performed (at number w l g) (gave (segment l w got)) ≡ take (performed_size (w + got) (eqb got 0)) l
unfolding performed
performed-is number w got l g h =
    (λ i. take (performed_size (held-length number w got l g h i) (eqb (length-segment l w got h i) 0)) (held-is number w got l g i))
    ∙ take-take (performed_size (w + got) (eqb got 0)) (w + got) l (performed_le (w + got) (eqb got 0))

pub cut-is : (number w got : ℕ) (l : List ℕ) (g : Image) → w + got ≤ length l
    → cut (at number w l g) (gave (segment l w got))
    ≡ segment l (performed_size (w + got) (eqb got 0)) (w + got - performed_size (w + got) (eqb got 0))
unfolding cut
cut-is number w got l g h =
    (λ i. drop (performed_size (held-length number w got l g h i) (eqb (length-segment l w got h i) 0)) (held-is number w got l g i))
    ∙ drop-taken l (performed_size (w + got) (eqb got 0)) (w + got) (performed_le (w + got) (eqb got 0)) h
