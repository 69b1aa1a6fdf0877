-- The first member of a mask, and the mask without it. Assumes nothing.
use mathlib.Core.Path.{◌≡◌, refl, sym, ap₂, ◌∙◌}
use mathlib.Core.Bool.{Bool, true, false, not, ◌&&◌, ◌||◌}
use mathlib.Core.List.{List, [], ◌∷◌}
use Prim.Native.Nat.{ℕ, ◌<◌}
use native.Mathlib.Omega.{arith}
use lib.Count.{count_leading_zeros}
use lib.Dec.{ltb, eqb}
use lib.ListN.{length, get_or, drop, length-drop}
use mathlib.Core.Logic.{◌≢◌}
use borrow.Author.Tests.{eqb-true, ltb-true, lt-ltb, ne_eqb}
use Rattle.lists.specs.Tests.{all_below, elem}
use Rattle.lists.proofs.Bools.{tf, and_l, and_r, eqb-self, imp-out, or_l}
use Rattle.lists.proofs.Counts.{below_all}
use Rattle.image.specs.Layout.{card_count}
use Rattle.mask.specs.Masks.{Byte, byte, has_card, without_card, members}
use Rattle.mask.proofs.Masks.{elem-members}

-- Equality of two lists of numbers, as a test.
unfoldable pub same_list : List ℕ → List ℕ → Bool
same_list [] [] = true
same_list [] (y ∷ m) = false
same_list (x ∷ l) [] = false
same_list (x ∷ l) (y ∷ m) = eqb x y && same_list l m

pub same-list : (l m : List ℕ) → same_list l m ≡ true → l ≡ m
unfolding same_list
same-list [] [] e = refl
same-list [] (y ∷ m) e = tf false e refl
same-list (x ∷ l) [] e = tf false e refl
same-list (x ∷ l) (y ∷ m) e = ap₂ ◌∷◌ (eqb-true x y (and_l (eqb x y) _ e)) (same-list l m (and_r (eqb x y) _ e))

-- The mask 0 has no member, and every other one has some.
pub no-members : (n : ℕ) → n ≡ 0 → members (byte n) ≡ []
unfolding members has_card
no-members n e = rw e

test-some : all_below 256 (λ n. eqb n 0 || ltb 0 (length (members (byte n)))) ≡ true
unfolding members has_card
test-some = refl

pub some-members : (n : ℕ) → n < 256 → n ≢ 0 → 0 < length (members (byte n))
some-members n h d = ltb-true 0 (length (members (byte n)))
    (rw (ne_eqb n 0 d) at (below_all 256 (λ n. eqb n 0 || ltb 0 (length (members (byte n)))) n test-some h))

-- The count of leading zeros is the first member, of a mask that has one.
first_is : ℕ → Bool
first_is n = not (ltb 0 (length (members (byte n))))
    || (ltb (count_leading_zeros 8 n) card_count && eqb (count_leading_zeros 8 n) (get_or (members (byte n)) 0 0))

test-first : all_below 256 first_is ≡ true
unfolding first_is count_leading_zeros members has_card
test-first = refl

module _ (n : ℕ) (h : n < 256) (some : 0 < length (members (byte n))) where
  first-both : (ltb (count_leading_zeros 8 n) card_count && eqb (count_leading_zeros 8 n) (get_or (members (byte n)) 0 0)) ≡ true
  unfolding first_is
  first-both = imp-out _ _ (below_all 256 first_is n test-first h) (lt-ltb 0 (length (members (byte n))) some)

  pub first-card : count_leading_zeros 8 n < card_count
  first-card = ltb-true _ _ (and_l (ltb (count_leading_zeros 8 n) card_count) _ first-both)

  pub first-is : count_leading_zeros 8 n ≡ get_or (members (byte n)) 0 0
  first-is = eqb-true _ _ (and_r (ltb (count_leading_zeros 8 n) card_count) _ first-both)

-- Without it, the others are left.
rest_is : ℕ → Bool
rest_is n = same_list (members (without_card (byte n) (get_or (members (byte n)) 0 0))) (drop 1 (members (byte n)))

test-rest : all_below 256 rest_is ≡ true
unfolding rest_is same_list members has_card without_card
test-rest = refl

pub rest-is : (n : ℕ) → n < 256 → members (without_card (byte n) (get_or (members (byte n)) 0 0)) ≡ drop 1 (members (byte n))
unfolding rest_is
rest-is n h = same-list _ _ (below_all 256 rest_is n test-rest h)

-- One member fewer is left.
pub one_fewer : (left next : ℕ) → left < 256 → left ≢ 0 → members (byte next) ≡ drop 1 (members (byte left))
    → length (members (byte next)) < length (members (byte left))
one_fewer left next h d e = rw (e, length-drop 1 (members (byte left))) (omega (arith, some-members left h d))

-- It is in the mask.
pub first-in : (m : Byte) → 0 < length (members m) → has_card m (get_or (members m) 0 0) ≡ true
first-in m h = sym (elem-members m (get_or (members m) 0 0)) ∙ head (members m) h
  where
    head : (l : List ℕ) → 0 < length l → elem (get_or l 0 0) l ≡ true
    head [] p = absurd (omega arith)
    head (x ∷ l) p = or_l (eqb x x) (elem x l) (eqb-self x)
