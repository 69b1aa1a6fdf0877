-- The last member of a mask, and the mask without it: computed tests of all masks. Assumes nothing.
use mathlib.Core.Path.{◌≡◌, ◌∙◌, ap, refl}
use mathlib.Core.Bool.{Bool, true, not, ◌||◌}
use mathlib.Core.List.{List}
use mathlib.Core.Logic.{◌⊎◌, inl, inr}
use Prim.Native.Nat.{ℕ, ◌-◌, ◌<◌, ◌≤◌}
use native.Mathlib.Omega.{arith}
use lib.Bits.{bit_and}
use lib.Count.{count_leading_zeros}
use lib.Dec.{ltb, eqb}
use lib.ListN.{length, get_or, take}
use lib.Seq.{get_or-take, length-take-le}
use borrow.Author.Tests.{eqb-true, lt-ltb}
use Rattle.lists.specs.Tests.{all_below}
use Rattle.lists.proofs.Bools.{imp-out}
use Rattle.lists.proofs.Cases.{lt-or-ge}
use Rattle.lists.proofs.Counts.{below_all}
use Rattle.mask.specs.Masks.{byte, has_card, members}
use Rattle.mask.proofs.FirstMember.{no-members, same-list, same_list}

-- ---- computed
without_last_is : ℕ → Bool
without_last_is n = same_list (members (byte (bit_and n (n - 1)))) (take (length (members (byte n)) - 1) (members (byte n)))

test-without-last : all_below 256 without_last_is ≡ true
unfolding without_last_is same_list members has_card
test-without-last = refl

last_is : ℕ → Bool
last_is n = not (ltb 0 (length (members (byte n))))
    || eqb (count_leading_zeros 8 (n - bit_and n (n - 1))) (get_or (members (byte n)) (length (members (byte n)) - 1) 0)

test-last : all_below 256 last_is ≡ true
unfolding last_is count_leading_zeros members has_card
test-last = refl

-- ---- for each mask
pub without-last-is : (n : ℕ) → n < 256 → members (byte (bit_and n (n - 1))) ≡ take (length (members (byte n)) - 1) (members (byte n))
unfolding without_last_is
without-last-is n h = same-list _ _ (below_all 256 without_last_is n test-without-last h)

module _ (n : ℕ) (some : 0 < length (members (byte n))) where
  pub last-is : n < 256 → count_leading_zeros 8 (n - bit_and n (n - 1)) ≡ get_or (members (byte n)) (length (members (byte n)) - 1) 0
  unfolding last_is
  last-is h = eqb-true _ _ (imp-out _ _ (below_all 256 last_is n test-last h) (lt-ltb 0 (length (members (byte n))) some))

  -- a mask with a member is not 0
  pub not-zero : 0 < n
  not-zero = go (lt-or-ge 0 n)
    where
      go : (0 < n) ⊎ (n ≤ 0) → 0 < n
      go (inl h) = h
      go (inr h) = let none : length (members (byte n)) ≡ 0 = ap length (no-members n (omega arith)) in omega arith

-- ---- the first n members are left
module _ (mask left n : ℕ) (few : n ≤ length (members (byte mask))) (are : members (byte left) ≡ take n (members (byte mask))) where
  pub left-length : length (members (byte left)) ≡ n
  left-length = ap length are ∙ length-take-le n (members (byte mask)) few

  -- the last of them is the member before number n
  pub left-last : 0 < n → get_or (members (byte left)) (length (members (byte left)) - 1) 0 ≡ get_or (members (byte mask)) (n - 1) 0
  left-last some = ap (λ (i : ℕ). get_or (members (byte left)) (i - 1) 0) left-length ∙ ap (λ (l : List ℕ). get_or l (n - 1) 0) are
      ∙ get_or-take n (members (byte mask)) (n - 1) 0 (omega arith)
