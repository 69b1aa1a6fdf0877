-- The pairs in their bytes. A group of four pairs is a number of 24 bits in both readings: what is packed is its three bytes, which make the number
-- again, and its four digits in base 64 are the pairs. Every number of the layout is a constant, so that each step is linear. Assumes nothing.
use mathlib.Core.Bool.{Bool, true}
use mathlib.Core.List.{List, [], ◌∷◌}
use mathlib.Core.Path.{◌≡◌, ap, refl, sym, ◌∙◌}
use Prim.Native.Nat.{ℕ, suc, zero, ◌+◌, ◌-◌, ◌*◌, ◌/◌, ◌%◌, ◌^◌, ◌<◌}
use native.Mathlib.Omega.{arith}
use lib.Dec.{eqb}
use lib.ListN.{get_or, length, set}
use lib.Seq.{ext_get_or, get_or-set_other, get_or-set_same}
use borrow.Author.Tests.{eqb-true}
use Rattle.lists.specs.Tests.{all_below, elem}
use Rattle.lists.proofs.Counts.{below_all}
use Rattle.lists.specs.Tabulate.{tabulate}
use Rattle.lists.proofs.Cases.{by-eq}
use Rattle.lists.proofs.Tabulate.{at-tabulate, length-tabulate}
use Rattle.image.specs.Layout.{block_count, pairs_size}
use Rattle.mask.specs.Masks.{AreMembers}
use Rattle.mask.specs.Pairs.{blocks_in_group, byte_in_group, first_card, group_at, group_of, group_size, pair_at, pair_bound, pair_in_group}
use Rattle.mask.specs.Pairs.{pairs_byte, pairs_from, second_card}
use Rattle.mask.specs.SiteMasks.{MasksBelow}

-- ---- a list that is filled from its start
-- What holds of the elements below n.
abbrev pub Holds : (ℕ → ℕ → Type 0) → List ℕ → ℕ → Type 0
Holds P l n = (k : ℕ) → k < n → P k (get_or l k 0)

-- One is stored behind them.
pub set_more : (P : ℕ → ℕ → Type 0) (l : List ℕ) (n m v : ℕ) → m ≡ n + 1 → n < length l → Holds P l n → P n v → Holds P (set l n v) m
set_more P l n m v e h old p k j = by-eq (P k (get_or (set l n v) k 0)) k n
    (λ q. rw (q, get_or-set_same l n v 0 h) p)
    (λ d. rw (get_or-set_other l n k v 0 d) (old k (omega arith)))

-- ---- a pair as it is read
-- It is below the bound, whatever the bytes are.
pub pair_lt : (f : ℕ → ℕ) (b : ℕ) → pair_at f b < pair_bound
unfolding pair_at
pair_lt f b = small (group_at f (b / blocks_in_group) / pair_bound ^ (blocks_in_group - 1 - b % blocks_in_group))
  where
    small : (n : ℕ) → n % pair_bound < pair_bound
    small n = omega arith

-- Only the bytes count.
group-same : (f g : ℕ → ℕ) → ((j : ℕ) → j < pairs_size → f j ≡ g j) → (q : ℕ) → q * group_size + 2 < pairs_size → group_at f q ≡ group_at g q
group-same f g e q h = rw (e (q * group_size) (omega arith), e (q * group_size + 1) (omega arith), e (q * group_size + 2) (omega arith))

pub pair_same : (f g : ℕ → ℕ) → ((j : ℕ) → j < pairs_size → f j ≡ g j) → (b : ℕ) → b < block_count → pair_at f b ≡ pair_at g b
unfolding pair_at
pair_same f g e b h = ap (λ (n : ℕ). pair_in_group n (b % blocks_in_group)) (group-same f g e (b / blocks_in_group) (omega arith))

-- The four places of a group.
pub place_of : (f : ℕ → ℕ) (q r b : ℕ) → b ≡ q * blocks_in_group + r → r < blocks_in_group → pair_at f b ≡ pair_in_group (group_at f q) r
unfolding pair_at
place_of f q r b e h = at (b / blocks_in_group) (b % blocks_in_group) (omega arith) (omega arith)
  where
    at : (x y : ℕ) → x ≡ q → y ≡ r → pair_in_group (group_at f x) y ≡ pair_in_group (group_at f q) r
    at x y e d = rw (e, d)

-- The masks of the two cards of each block's pair: one more of them.
abbrev pub is_card_of : ℕ → ℕ → Bool
is_card_of pair c = elem c (first_card pair ∷ second_card pair ∷ [])

pub mask-turn : (f : ℕ → ℕ) (l : List ℕ) (q r n v : ℕ) → q * blocks_in_group + r < length l → r < blocks_in_group → n ≡ group_at f q
    → AreMembers v (is_card_of (pair_in_group n r)) → MasksBelow (λ b. is_card_of (pair_at f b)) l (q * blocks_in_group + r)
    → MasksBelow (λ b. is_card_of (pair_at f b)) (set l (q * blocks_in_group + r) v) (q * blocks_in_group + (r + 1))
mask-turn f l q r n v h d g are old =
    set_more (λ b v. AreMembers v (is_card_of (pair_at f b))) l (q * blocks_in_group + r) (q * blocks_in_group + (r + 1)) v (omega arith) h old
    (λ c. are c ∙ ap (λ (p : ℕ). is_card_of p c) (ap (λ (m : ℕ). pair_in_group m r) g ∙ sym (place_of f q r (q * blocks_in_group + r) refl d)))

-- A pair has six bits: the digit at a place, by a shift over the pairs below it.
test-shift : all_below blocks_in_group (λ k. eqb (2 ^ (6 * k)) (pair_bound ^ k)) ≡ true
test-shift = refl

pub shifted : (n k r : ℕ) → r < blocks_in_group → k ≡ blocks_in_group - 1 - r → n / 2 ^ (6 * k) % pair_bound ≡ pair_in_group n r
shifted n k r h e = rw (eqb-true (2 ^ (6 * k)) (pair_bound ^ k) (below_all blocks_in_group (λ k. eqb (2 ^ (6 * k)) (pair_bound ^ k)) k test-shift (omega arith)), e)

-- ---- four digits in base 64
module _ (x y z w : ℕ) (hx : x < pair_bound) (hy : y < pair_bound) (hz : z < pair_bound) (hw : w < pair_bound) where
  digits_lt : ((x * pair_bound + y) * pair_bound + z) * pair_bound + w < 256 ^ group_size
  digits_lt = omega arith

  digit0 : pair_in_group (((x * pair_bound + y) * pair_bound + z) * pair_bound + w) 0 ≡ x
  digit0 = omega arith

  digit1 : pair_in_group (((x * pair_bound + y) * pair_bound + z) * pair_bound + w) 1 ≡ y
  digit1 = omega arith

  digit2 : pair_in_group (((x * pair_bound + y) * pair_bound + z) * pair_bound + w) 2 ≡ z
  digit2 = omega arith

  digit3 : pair_in_group (((x * pair_bound + y) * pair_bound + z) * pair_bound + w) 3 ≡ w
  digit3 = omega arith

-- ---- what is packed is read again
-- Byte j of what is packed, and the three bytes of a group.
abbrev pub packed_byte : (ℕ → ℕ) → ℕ → ℕ
packed_byte f j = byte_in_group (group_of f (j / group_size)) (j % group_size)

pub byte_of : (f : ℕ → ℕ) (q r j : ℕ) → j ≡ q * group_size + r → r < group_size → packed_byte f j ≡ byte_in_group (group_of f q) r
byte_of f q r j e h = at (j / group_size) (j % group_size) (omega arith) (omega arith)
  where
    at : (x y : ℕ) → x ≡ q → y ≡ r → byte_in_group (group_of f x) y ≡ byte_in_group (group_of f q) r
    at x y e d = rw (e, d)

packed : (f : ℕ → ℕ) (q r j : ℕ) → j ≡ q * group_size + r → j < pairs_size → r < group_size → pairs_byte (pairs_from f) j ≡ byte_in_group (group_of f q) r
unfolding pairs_from
packed f q r j e h k = at-tabulate pairs_size (packed_byte f) j h ∙ byte_of f q r j e k

-- Bytes that are those of what is packed.
pub are-packed : (f : ℕ → ℕ) (l : List ℕ) → length l ≡ pairs_size → Holds (λ j v. v ≡ packed_byte f j) l pairs_size → l ≡ (pairs_from f).0
unfolding pairs_from
are-packed f l e h = ext_get_or 0 l (tabulate pairs_size (packed_byte f)) (e ∙ sym (length-tabulate pairs_size (packed_byte f)))
    (λ j k. h j (omega arith) ∙ sym (at-tabulate pairs_size (packed_byte f) j (omega arith)))

module _ (f : ℕ → ℕ) (small : (b : ℕ) → b < block_count → f b < pair_bound) where
  -- Three bytes make the number again.
  group-back : (q : ℕ) → q * blocks_in_group + 3 < block_count → group_at (pairs_byte (pairs_from f)) q ≡ group_of f q
  group-back q h =
      rw (
        packed f q 0 (q * group_size) (omega arith) (omega arith) (omega arith),
        packed f q 1 (q * group_size + 1) refl (omega arith) (omega arith),
        packed f q 2 (q * group_size + 2) refl (omega arith) (omega arith),
      ) (whole (group_of f q) lt)
    where
      whole : (n : ℕ) → n < 256 ^ group_size → (n / 65536 % 256 * 256 + n / 256 % 256) * 256 + n / 1 % 256 ≡ n
      whole n h = omega arith

      lt : group_of f q < 256 ^ group_size
      lt = digits_lt (f (q * blocks_in_group)) (f (q * blocks_in_group + 1)) (f (q * blocks_in_group + 2)) (f (q * blocks_in_group + 3))
          (small _ (omega arith)) (small _ (omega arith)) (small _ (omega arith)) (small _ (omega arith))

  -- Its digits are the pairs.
  digit-back : (q r : ℕ) → q * blocks_in_group + 3 < block_count → r < blocks_in_group → pair_in_group (group_of f q) r ≡ f (q * blocks_in_group + r)
  digit-back q r h k = go r k
    where
      s : (i : ℕ) → i < blocks_in_group → f (q * blocks_in_group + i) < pair_bound
      s i l = small (q * blocks_in_group + i) (omega arith)

      s0 : f (q * blocks_in_group) < pair_bound
      s0 = small (q * blocks_in_group) (omega arith)

      none : q * blocks_in_group ≡ q * blocks_in_group + 0
      none = omega arith

      go : (r : ℕ) → r < blocks_in_group → pair_in_group (group_of f q) r ≡ f (q * blocks_in_group + r)
      go zero l = digit0 (f (q * blocks_in_group)) _ _ _ s0 (s 1 (omega arith)) (s 2 (omega arith)) (s 3 (omega arith)) ∙ ap f none
      go (suc zero) l = digit1 (f (q * blocks_in_group)) _ _ _ s0 (s 1 (omega arith)) (s 2 (omega arith)) (s 3 (omega arith))
      go (suc (suc zero)) l = digit2 (f (q * blocks_in_group)) _ _ _ s0 (s 1 (omega arith)) (s 2 (omega arith)) (s 3 (omega arith))
      go (suc (suc (suc zero))) l = digit3 (f (q * blocks_in_group)) _ _ _ s0 (s 1 (omega arith)) (s 2 (omega arith)) (s 3 (omega arith))
      go (suc (suc (suc (suc r)))) l = absurd (omega arith)

  pub pairs-back : (b : ℕ) → b < block_count → pair_at (pairs_byte (pairs_from f)) b ≡ f b
  unfolding pair_at
  pairs-back b h = ap (λ (n : ℕ). pair_in_group n (b % blocks_in_group)) (group-back (b / blocks_in_group) (omega arith))
      ∙ digit-back (b / blocks_in_group) (b % blocks_in_group) (omega arith) (omega arith) ∙ ap f same
    where
      same : b / blocks_in_group * blocks_in_group + b % blocks_in_group ≡ b
      same = omega arith
