-- Laws of zero bytes. Assumes nothing.
use mathlib.Core.Bool.{Bool, ◌&&◌}
use mathlib.Core.List.{List}
use mathlib.Core.Path.{◌≡◌, ap, sym, ◌∙◌}
use Prim.Native.Nat.{ℕ, ◌+◌, ◌≤◌, ◌<◌}
use native.Mathlib.Numerals.{add-one}
use native.Mathlib.Omega.{arith}
use lib.Bits.{and_le_l, and_le_r, bit_or, or_add_and, or_zero_l}
use lib.Dec.{eqb}
use lib.ListN.{length, length-replicate, get_or, get_or-replicate}
use lib.Seq.{ext_get_or}
use borrow.Author.Tests.{eq-eqb, eqb-true}
use Rattle.lists.specs.Segments.{segment}
use Rattle.lists.specs.Tests.{all_below}
use Rattle.lists.proofs.Bools.{and_in, and_l, and_r, same_test}
use Rattle.lists.proofs.Segments.{length-segment, get_or-segment}
use Rattle.image.specs.Parts.{zeros}

pub length-zeros : (n : ℕ) → length (zeros n) ≡ n
unfolding zeros
length-zeros n = length-replicate n 0

pub zeros-at : (n i : ℕ) → i < n → get_or (zeros n) i 0 ≡ 0
unfolding zeros
zeros-at n i h = get_or-replicate n i 0 0 h

-- A segment of zeros is zeros.
pub zeros-segment : (n a m : ℕ) → a + m ≤ n → segment (zeros n) a m ≡ zeros m
zeros-segment n a m h =
    let z : length (zeros n) ≡ n = length-zeros n in
    let s : length (segment (zeros n) a m) ≡ m = length-segment (zeros n) a m (omega arith) in
    ext_get_or 0 (segment (zeros n) a m) (zeros m) (s ∙ sym (length-zeros m)) (λ i k.
    get_or-segment (zeros n) a m i (omega arith) ∙ zeros-at n (a + i) (omega arith) ∙ sym (zeros-at m i (omega arith)))

-- Or-ed, two numbers are zero where both are.
or-zero : (a b : ℕ) → eqb (bit_or a b) 0 ≡ (eqb b 0 && eqb a 0)
or-zero a b = same_test (eqb (bit_or a b) 0) (eqb b 0 && eqb a 0)
    (λ e. and_in (eqb b 0) (eqb a 0) (eq-eqb b 0 (right (eqb-true (bit_or a b) 0 e))) (eq-eqb a 0 (left (eqb-true (bit_or a b) 0 e))))
    (λ e. eq-eqb (bit_or a b) 0 (both (eqb-true a 0 (and_r (eqb b 0) (eqb a 0) e)) (eqb-true b 0 (and_l (eqb b 0) (eqb a 0) e))))
  where
    left : bit_or a b ≡ 0 → a ≡ 0
    left e = omega (arith, or_add_and a b, and_le_r a b)

    right : bit_or a b ≡ 0 → b ≡ 0
    right e = omega (arith, or_add_and a b, and_le_l a b)

    both : a ≡ 0 → b ≡ 0 → bit_or a b ≡ 0
    both p q = rw (p, q) (or_zero_l 0)

-- The bytes below i are zero where all of them or-ed are: one byte more.
pub zeros-more : (l : List ℕ) (i a : ℕ) → eqb a 0 ≡ all_below i (λ n. eqb (get_or l n 0) 0) → eqb (bit_or a (get_or l i 0)) 0 ≡ all_below (i + 1) (λ n. eqb (get_or l n 0) 0)
zeros-more l i a e = rw add-one (or-zero a (get_or l i 0) ∙ ap (λ (t : Bool). eqb (get_or l i 0) 0 && t) e)
