-- What the code computes of masks is what the definitions say of sets of cards. Assumes nothing.
use mathlib.Core.Path.{◌≡◌, refl, sym, ap, ap₂, ◌∙◌, fun_ext}
use mathlib.Core.Logic.{◌⊎◌, inl, inr}
use mathlib.Core.Bool.{Bool, true, false, not, ◌&&◌, ◌||◌, beq}
use Prim.Native.Nat.{ℕ, ◌-◌, ◌≤◌, ◌<◌}
use native.Mathlib.Nat.{mod-eq_of_lt}
use native.Mathlib.Omega.{arith}
use lib.Bits.{bit_and, bit_or, and_le_l, or_lt}
use lib.Count.{ones, ones_in, count_leading_zeros}
use lib.Dec.{ltb, eqb}
use borrow.Author.Tests.{eq-eqb, eqb-true, le-ltb, lt-ltb}
use Rattle.lists.specs.Tests.{count_below, all_below, any_below}
use Rattle.lists.proofs.Bools.{and_l, and_r, and_in, and-when, imp-out, not_is, same_bool, same_test, split}
use Rattle.lists.proofs.Counts.{all-below, below_all, at_pair, count_none, any_below_lem, any-below-out}
use Rattle.image.specs.Layout.{card_count}
use Rattle.mask.specs.Masks.{
  Byte,
  byte,
  bit_of,
  has_card,
  with_card,
  without_card,
  size,
  common,
  is_within,
  is_within_either,
  are_apart,
  is_one_more,
}
use Rattle.mask.proofs.Masks.{every-mask, every-pair, has-card, has_bit, has-bit, has-byte, bit-and, bit-or, same_number}

-- The count of ones is the number of members.
test-ones : all_below 256 (λ n. eqb (ones n) (size (byte n))) ≡ true
unfolding ones ones_in size has_card
test-ones = refl

pub size_is : (n : ℕ) → n < 256 → ones n ≡ size (byte n)
size_is n h = eqb-true _ _ (below_all 256 (λ n. eqb (ones n) (size (byte n))) n test-ones h)

-- Two masks, joined bit by bit.
module _ (a b : ℕ) (ha : a < 256) (hb : b < 256) where
  pub has_both : (c : ℕ) → has_card (byte (bit_and a b)) c ≡ (has_card (byte a) c && has_card (byte b) c)
  has_both c =
      has-byte (bit_and a b) c (omega (arith, and_le_l a b)) ∙ bit-and a b c ∙ sym (ap₂ ◌&&◌ (has-byte a c ha) (has-byte b c hb))

  pub has_either : (c : ℕ) → has_card (byte (bit_or a b)) c ≡ (has_card (byte a) c || has_card (byte b) c)
  has_either c = has-byte (bit_or a b) c (or_lt 8 a b ha hb) ∙ bit-or a b c ∙ sym (ap₂ ◌||◌ (has-byte a c ha) (has-byte b c hb))

  pub common-is : ones (bit_and a b) ≡ common (byte a) (byte b)
  unfolding common size
  common-is = size_is (bit_and a b) (omega (arith, and_le_l a b)) ∙ ap (count_below card_count) (fun_ext has_both)

  pub within-is : eqb (bit_and a b) a ≡ is_within (byte a) (byte b)
  unfolding is_within
  within-is = same_test (eqb (bit_and a b) a) (all_below card_count test)
      (λ t. all-below card_count test (λ c h. into (has_card (byte a) c) (has_card (byte b) c) (ap (λ (n : ℕ). has_card (byte n) c) (sym (eqb-true (bit_and a b) a t)) ∙ has_both c)))
      (λ t. eq-eqb (bit_and a b) a (sym (mod-eq_of_lt low) ∙ same_number (byte (bit_and a b)) (byte a) (λ c. has_both c ∙ out c t (split (has_card (byte a) c))) ∙ mod-eq_of_lt ha))
    where
      test : ℕ → Bool
      test c = not (has_card (byte a) c) || has_card (byte b) c

      low : bit_and a b < 256
      low = omega (arith, and_le_l a b)

      into : (x y : Bool) → x ≡ (x && y) → (not x || y) ≡ true
      into true y e = sym e
      into false y e = refl

      out : (c : ℕ) → all_below card_count test ≡ true → (has_card (byte a) c ≡ true) ⊎ (has_card (byte a) c ≡ false) → (has_card (byte a) c && has_card (byte b) c) ≡ has_card (byte a) c
      out c t (inr e) = rw e
      out c t (inl e) =
          let i : test c ≡ true = below_all card_count test c t (has-card (byte a) c e) in
          rw e (rw e at i)

  pub apart-is : eqb (ones (bit_and a b)) 0 ≡ are_apart (byte a) (byte b)
  unfolding common are_apart
  apart-is = ap (λ (n : ℕ). eqb n 0) common-is ∙ count_none card_count (λ c. has_card (byte a) c && has_card (byte b) c)

  pub within-either-is : (m : Byte) → is_within m (byte (bit_or a b)) ≡ is_within_either m (byte a) (byte b)
  unfolding is_within is_within_either
  within-either-is m = ap (all_below card_count) (fun_ext (λ c. ap (λ (x : Bool). not (has_card m c) || x) (has_either c)))

-- The code's test of a bit, and of a number that is no card.
bit_is : ℕ → ℕ → Bool
bit_is n c = beq (not (eqb (bit_and n (bit_of c)) 0)) (has_card (byte n) c)

test_bit : all_below 256 (λ n. all_below card_count (bit_is n)) ≡ true
unfolding bit_is has_card
test_bit = refl

pub bit_is_lem : (n c : ℕ) → n < 256 → c < card_count → not (eqb (bit_and n (bit_of c)) 0) ≡ has_card (byte n) c
unfolding bit_is
bit_is_lem n c hn hc = same_bool _ _ (at_pair bit_is 256 card_count test_bit n hn c hc)

pub no-card : (m : Byte) (c : ℕ) → card_count ≤ c → has_card m c ≡ false
unfolding has_card
no-card m c h = rw (le-ltb c card_count h)

-- One card more or less.
pub with-is : (n c : ℕ) → n < 256 → byte (bit_or n (bit_of c)) ≡ with_card (byte n) c
unfolding with_card
with-is n c h = ap (λ (x : ℕ). byte (bit_or x (bit_of c))) (sym (mod-eq_of_lt h))

pub without_is : (n c : ℕ) → n < 256 → byte (bit_and n (255 - bit_of c)) ≡ without_card (byte n) c
unfolding without_card
without_is n c h = ap (λ (x : ℕ). byte (bit_and x (255 - bit_of c))) (sym (mod-eq_of_lt h))

-- The first card that the mask has and the base lacks.
abbrev pub extra_of : ℕ → ℕ → ℕ
extra_of base mask = count_leading_zeros 8 (bit_and mask (255 - base))

-- A card that is in the mask's complement; the first member; the card that was added.
test-lacks : all_below 256 (λ n. all_below card_count (λ c. beq (has_card (byte (255 - (byte n).0)) c) (not (has_card (byte n) c)))) ≡ true
unfolding has_card
test-lacks = refl

lacks : (m : Byte) (c : ℕ) → c < card_count → has_card (byte (255 - m.0)) c ≡ not (has_card m c)
lacks m c h = same_bool _ _ (every-pair card_count (λ m c. beq (has_card (byte (255 - m.0)) c) (not (has_card m c))) test-lacks m c h)

pub has-others : (a b : ℕ) → a < 256 → b < 256 → (c : ℕ) → has_card (byte (bit_and a (255 - b))) c ≡ (has_card (byte a) c && not (has_card (byte b) c))
has-others a b ha hb c = has_both a (255 - b) ha (omega arith) c
    ∙ and-when (has_card (byte a) c) (has_card (byte (255 - b)) c) (not (has_card (byte b) c))
    (λ e. ap (λ (n : ℕ). has_card (byte (255 - n)) c) (sym (mod-eq_of_lt hb)) ∙ lacks (byte b) c (has-card (byte a) c e))

test-first : all_below 256 (λ n. not (ltb (count_leading_zeros 8 (byte n).0) card_count) || has_card (byte n) (count_leading_zeros 8 (byte n).0)) ≡ true
unfolding count_leading_zeros has_card
test-first = refl

first-has : (m : Byte) → count_leading_zeros 8 m.0 < card_count → has_card m (count_leading_zeros 8 m.0) ≡ true
first-has m h = imp-out _ _
    (every-mask (λ m. not (ltb (count_leading_zeros 8 m.0) card_count) || has_card m (count_leading_zeros 8 m.0)) test-first m)
    (lt-ltb (count_leading_zeros 8 m.0) card_count h)

test-extra : all_below 256 (λ n. all_below card_count (λ c.
    has_card (byte n) c || eqb (extra_of (byte n).0 (with_card (byte n) c).0) c)) ≡ true
unfolding count_leading_zeros has_card with_card
test-extra = refl

extra-is : (m : Byte) (c : ℕ) → c < card_count → has_card m c ≡ false → extra_of m.0 (with_card m c).0 ≡ c
extra-is m c h e = eqb-true _ _
    (rw e at (every-pair card_count (λ m c. has_card m c || eqb (extra_of m.0 (with_card m c).0) c) test-extra m c h))

-- One card more is told from that card alone.
one-more-byte : (d b m : Byte)
    → (has_card d (extra_of b.0 m.0) && eqb m.0 (with_card b (extra_of b.0 m.0)).0) ≡ is_one_more d b m
unfolding is_one_more
one-more-byte d b m = same_test _ _ up down
  where
    c : ℕ
    c = extra_of b.0 m.0

    f : ℕ → Bool
    f x = has_card d x && (not (has_card b x) && eqb m.0 (with_card b x).0)

    up : (has_card d c && eqb m.0 (with_card b c).0) ≡ true → any_below card_count f ≡ true
    up e =
        let dc : has_card d c ≡ true = and_l (has_card d c) _ e in
        let lt : c < card_count = has-card d c dc in
        let n : ℕ = bit_and m.0 (255 - b.0) in
        let hn : n < 256 = omega (arith, and_le_l m.0 (255 - b.0), m.1) in
        let at : has_bit n c ≡ true = sym (has-bit (n, hn) c) ∙ first-has (n, hn) lt in
        let new : has_bit (255 - b.0) c ≡ true = and_r (has_bit m.0 c) _ (sym (bit-and m.0 (255 - b.0) c) ∙ at) in
        let lack : not (has_card b c) ≡ true = sym (lacks b c lt) ∙ has-byte (255 - b.0) c (omega arith) ∙ new in
        any_below_lem card_count f c lt (and_in (has_card d c) _ dc (and_in (not (has_card b c)) _ lack (and_r (has_card d c) _ e)))

    down : any_below card_count f ≡ true → (has_card d c && eqb m.0 (with_card b c).0) ≡ true
    down e =
        let r = any-below-out card_count f e in
        at r.0 r.1 r.2
      where
        at : (x : ℕ) → x < card_count → f x ≡ true → (has_card d c && eqb m.0 (with_card b c).0) ≡ true
        at x h t =
            let u = and_r (has_card d x) _ t in
            let w : eqb m.0 (with_card b x).0 ≡ true = and_r (not (has_card b x)) _ u in
            let s : c ≡ x =
            ap (extra_of b.0) (eqb-true m.0 (with_card b x).0 w) ∙ extra-is b x h (not_is (has_card b x) (and_l (not (has_card b x)) _ u)) in
            rw s (and_in (has_card d x) _ (and_l (has_card d x) _ t) w)

pub one-more-is : (d : Byte) (b m : ℕ) → b < 256 → m < 256
    → (has_card d (extra_of b m) && eqb m (with_card (byte b) (extra_of b m)).0) ≡ is_one_more d (byte b) (byte m)
one-more-is d b m hb hm =
    ap₂ (λ (x y : ℕ). has_card d (extra_of x y) && eqb y (with_card (byte b) (extra_of x y)).0) (sym (mod-eq_of_lt hb)) (sym (mod-eq_of_lt hm))
    ∙ one-more-byte d (byte b) (byte m)
