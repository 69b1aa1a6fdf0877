-- The set of the good pairs of a mask, as the code makes it, is computed for every mask. A set is asked for many pairs at once: the highest bit of all its
-- shifts, and-ed, is set where each of them has it. Assumes nothing.
use mathlib.Core.Path.{◌≡◌, refl, sym, ap, ◌∙◌}
use mathlib.Core.Bool.{Bool, true, false, ◌&&◌, beq}
use Prim.Native.Nat.{ℕ, suc, zero, ◌+◌, ◌-◌, ◌*◌, ◌/◌, ◌%◌, ◌^◌, ◌≤◌, ◌<◌}
use native.Mathlib.Nat.{add-zero}
use native.Mathlib.Omega.{arith}
use lib.Bits.{and_shr, bit_and}
use lib.Dec.{eqb, leb}
use borrow.Author.Tests.{leb-true}
use Rattle.lists.specs.Tests.{all_below, one_if}
use Rattle.lists.proofs.Bools.{same_bool}
use Rattle.lists.proofs.Counts.{at_pair, below_all}
use Rattle.mask.specs.Masks.{byte, has_card}
use Rattle.mask.specs.Pairs.{blocks_in_group, group_at, is_pair_of, pair_at, pair_bound, pair_in_group}
use Rattle.mask.specs.PairSets.{AreGoodPairs, has_pair, top_bit}
use Rattle.mask.proofs.PairLaws.{pair_lt, place_of}

-- ---- the set of the good pairs
-- Rows of eight bits, one for each first card: 1 in each; in each its own card's bit. The same of a mask, for the cards that it has.
abbrev pub ones : ℕ
ones = 0x0101010101010101

abbrev pub own_bits : ℕ
own_bits = 0x8040201008040201

abbrev pub own_of : ℕ → ℕ
own_of m = bit_and (m * ones) own_bits

abbrev pub rows_of : ℕ → ℕ
rows_of m = bit_and ((own_of m + 0x7F7F7F7F7F7F7F7F) / 0x80) ones

abbrev pub good_of : ℕ → ℕ
good_of m = rows_of m * m - own_of m

-- The product is no less than what is taken from it.
test-own : all_below 256 (λ m. leb (own_of m) (rows_of m * m)) ≡ true
test-own = refl

pub good-own : (m : ℕ) → m < 256 → own_of m ≤ rows_of m * m
good-own m h = leb-true (own_of m) (rows_of m * m) (below_all 256 (λ m. leb (own_of m) (rows_of m * m)) m test-own h)

-- The test takes the set as an argument, so that it is computed once for a mask.
abbrev is_good : ℕ → ℕ → ℕ → Bool
is_good g m p = beq (has_pair g p) (is_pair_of (byte m) p)

test_good : all_below 256 (λ m. all_below pair_bound (is_good (good_of m) m)) ≡ true
unfolding has_pair is_pair_of has_card
test_good = refl

pub good-is : (m : ℕ) → m < 256 → AreGoodPairs (good_of m) (byte m)
good-is m h p k = same_bool (has_pair (good_of m) p) (is_pair_of (byte m) p) (at_pair (λ m. is_good (good_of m) m) 256 pair_bound test_good m h p k)

-- ---- many pairs at once
-- A bit is 1 where it is asked for.
bit_is_lem : (n : ℕ) → n < 2 → n ≡ one_if (eqb n 1)
bit_is_lem zero h = refl
bit_is_lem (suc zero) h = refl
bit_is_lem (suc (suc n)) h = absurd (omega arith)

top-has : (s p : ℕ) → top_bit (s * 2 ^ p % 2 ^ 64) ≡ one_if (has_pair s p)
unfolding has_pair
top-has s p = bit_is_lem (top_bit (s * 2 ^ p % 2 ^ 64)) (small (s * 2 ^ p))
  where
    small : (n : ℕ) → n % 2 ^ 64 / 2 ^ 63 < 2
    small n = omega arith

pub top-and : (a b : ℕ) (x y : Bool) → top_bit a ≡ one_if x → top_bit b ≡ one_if y → top_bit (bit_and a b) ≡ one_if (y && x)
top-and a b x y p q = and_shr a b 63 ∙ rw (p, q) (go x y)
  where
    go : (x y : Bool) → bit_and (one_if x) (one_if y) ≡ one_if (y && x)
    go true true = refl
    go true false = refl
    go false true = refl
    go false false = refl

-- The four of a group.
pub top-four : (s n x y z w : ℕ) → x ≡ pair_in_group n 0 → y ≡ pair_in_group n 1 → z ≡ pair_in_group n 2 → w ≡ pair_in_group n 3
    → top_bit (bit_and (bit_and (bit_and (s * 2 ^ x % 2 ^ 64) (s * 2 ^ y % 2 ^ 64)) (s * 2 ^ z % 2 ^ 64)) (s * 2 ^ w % 2 ^ 64))
    ≡ one_if (all_below blocks_in_group (λ k. has_pair s (pair_in_group n k)))
top-four s n x y z w p q r t =
    top-and _ (s * 2 ^ w % 2 ^ 64) (g 2 && (g 1 && (g 0 && true))) (g 3)
    (top-and _ (s * 2 ^ z % 2 ^ 64) (g 1 && (g 0 && true)) (g 2)
    (top-and (s * 2 ^ x % 2 ^ 64) (s * 2 ^ y % 2 ^ 64) (g 0 && true) (g 1) (at x 0 p ∙ ap one_if (alone (g 0))) (at y 1 q)) (at z 2 r)) (at w 3 t)
  where
    g : ℕ → Bool
    g k = has_pair s (pair_in_group n k)

    alone : (b : Bool) → b ≡ (b && true)
    alone true = refl
    alone false = refl

    at : (v k : ℕ) → v ≡ pair_in_group n k → top_bit (s * 2 ^ v % 2 ^ 64) ≡ one_if (has_pair s (pair_in_group n k))
    at v k e = top-has s v ∙ ap (λ (i : ℕ). one_if (has_pair s i)) e

-- A test below n and of k more.
join : (h g : ℕ → Bool) (n k : ℕ) → ((i : ℕ) → i < k → g i ≡ h (n + i)) → (all_below k g && all_below n h) ≡ all_below (n + k) h
join h g n zero e = rw (add-zero n)
join h g n (suc k) e =
    let s : n + suc k ≡ suc (n + k) = omega arith in
    rw s (more (g k) (h (n + k)) (e k (omega arith)) (join h g n k (λ i l. e i (omega arith))))
  where
    more : (a b : Bool) → a ≡ b → (all_below k g && all_below n h) ≡ all_below (n + k) h → ((a && all_below k g) && all_below n h) ≡ (b && all_below (n + k) h)
    more true b p ih = rw (sym p) ih
    more false b p ih = rw (sym p)

-- One group more of the pairs, from block b on.
pub top-turn : (m s a r q n b k : ℕ) (f : ℕ → ℕ) → AreGoodPairs s (byte m) → n ≡ group_at f q → b ≡ q * blocks_in_group → k ≡ b + blocks_in_group
    → top_bit r ≡ one_if (all_below blocks_in_group (λ i. has_pair s (pair_in_group n i)))
    → top_bit a ≡ one_if (all_below b (λ b. is_pair_of (byte m) (pair_at f b)))
    → top_bit (bit_and a r) ≡ one_if (all_below k (λ b. is_pair_of (byte m) (pair_at f b)))
top-turn m s a r q n b k f are e at next t old =
    top-and a r (all_below b h) (all_below blocks_in_group (λ i. has_pair s (pair_in_group n i))) old t
    ∙ ap one_if (join h (λ i. has_pair s (pair_in_group n i)) b blocks_in_group one ∙ ap (λ (j : ℕ). all_below j h) (sym next))
  where
    h : ℕ → Bool
    h b = is_pair_of (byte m) (pair_at f b)

    one : (i : ℕ) → i < blocks_in_group → has_pair s (pair_in_group n i) ≡ h (b + i)
    one i l =
        let p : pair_in_group n i ≡ pair_at f (b + i) = ap (λ (j : ℕ). pair_in_group j i) e ∙ sym (place_of f q i (b + i) (ap (λ (j : ℕ). j + i) at) l) in
        ap (has_pair s) p ∙ are (pair_at f (b + i)) (pair_lt f (b + i))

-- The bit tells the test.
pub top-tells : (a n k : ℕ) (h : ℕ → Bool) → n ≡ k → top_bit a ≡ one_if (all_below n h) → eqb (top_bit a) 1 ≡ all_below k h
top-tells a n k h e t = tells (all_below n h) t ∙ ap (λ (i : ℕ). all_below i h) e
  where
    tells : (b : Bool) → top_bit a ≡ one_if b → eqb (top_bit a) 1 ≡ b
    tells true p = rw p
    tells false p = rw p
