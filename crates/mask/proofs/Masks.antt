-- Laws of masks as sets of cards. Facts of one mask and a card are computed, all cases; facts of two go bit by bit. Assumes nothing.
use mathlib.Core.Path.{◌≡◌, refl, sym, ap, ◌∙◌, subst, fun_ext}
use mathlib.Core.Logic.{◌≢◌, ◌⊎◌, inl, inr}
use mathlib.Core.Bool.{Bool, true, false, not, ◌&&◌, ◌||◌, cond, beq}
use mathlib.Core.HLevel.{Σ_prop_path}
use mathlib.Core.List.{List, [], ◌∷◌}
use Prim.Native.Nat.{ℕ, ◌+◌, ◌-◌, ◌*◌, ◌/◌, ◌%◌, ◌^◌, ◌≤◌, ◌<◌}
use native.Mathlib.Bridge.{le_prop}
use native.Mathlib.Nat.{mod-eq_of_lt, div-eq_of_lt, div-le_self}
use native.Mathlib.Omega.{arith}
use lib.Bits.{bit_and, bit_or, and_shr, and_mod, or_shr, or_mod, and_le_l, or_lt}
use lib.Dec.{ltb, eqb}
use lib.ListN.{length}
use lib.Pow.{pow_mono}
use borrow.Author.Tests.{eq-eqb, eqb-true, le-ltb, lt-ltb, ne_eqb, ltb-true, ltb-false}
use Rattle.lists.specs.Tests.{one_if, all_below, elem}
use Rattle.lists.proofs.Bools.{tf, and_l, not_is, same_bool, same_test, split}
use Rattle.lists.proofs.Cases.{by-eq}
use Rattle.lists.proofs.Counts.{below_all, at_pair}
use Rattle.lists.proofs.Lists.{elem-keep, keep-elem}
use Rattle.image.specs.Layout.{card_count}
use Rattle.mask.specs.Masks.{AreMembers, Byte, byte, bit_of, has_card, no_cards, with_card, without_card, members, size}

-- A byte is its number.
pub byte-path : (a b : Byte) → a.0 ≡ b.0 → a ≡ b
byte-path a b e = Σ_prop_path (λ n. le_prop) e

pub byte_of : (m : Byte) → byte m.0 ≡ m
byte_of m = byte-path (byte m.0) m (mod-eq_of_lt m.1)

-- A test of every mask, computed, holds of each; the same with a number below a bound.
pub every-mask : (f : Byte → Bool) → all_below 256 (λ n. f (byte n)) ≡ true → (m : Byte) → f m ≡ true
every-mask f t m = subst (λ x. f x ≡ true) (byte_of m) (below_all 256 (λ n. f (byte n)) m.0 t m.1)

pub every-pair : (bound : ℕ) (f : Byte → ℕ → Bool) → all_below 256 (λ n. all_below bound (f (byte n))) ≡ true
    → (m : Byte) (i : ℕ) → i < bound → f m i ≡ true
every-pair bound f t m i h = below_all bound (f m) i (every-mask (λ x. all_below bound (f x)) t m) h

-- A member is a card.
pub has-card : (m : Byte) (c : ℕ) → has_card m c ≡ true → c < card_count
unfolding has_card
has-card m c e = ltb-true c card_count (and_l (ltb c card_count) _ e)

-- The bits of a number.
abbrev pub has_bit : ℕ → ℕ → Bool
has_bit n c = ltb c card_count && eqb (n / bit_of c % 2) 1

pub has-bit : (m : Byte) (c : ℕ) → has_card m c ≡ has_bit m.0 c
unfolding has_card
has-bit m c = refl

pub has-byte : (n c : ℕ) → n < 256 → has_card (byte n) c ≡ has_bit n c
has-byte n c h = has-bit (byte n) c ∙ ap (λ (x : ℕ). has_bit x c) (mod-eq_of_lt h)

-- The empty mask has no member.
test-none : all_below card_count (λ c. not (has_bit 0 c)) ≡ true
test-none = refl

pub has-none : (c : ℕ) → has_card no_cards c ≡ false
has-none c = has-bit no_cards c ∙ go (split (ltb c card_count))
  where
    go : (ltb c card_count ≡ true) ⊎ (ltb c card_count ≡ false) → has_bit 0 c ≡ false
    go (inl e) = not_is (has_bit 0 c) (below_all card_count (λ c. not (has_bit 0 c)) c test-none (ltb-true c card_count e))
    go (inr e) = rw e

-- A card's bit is a power of two.
test-shift : all_below card_count (λ c. eqb (bit_of c) (2 ^ (7 - c))) ≡ true
test-shift = refl

shift_is : (c : ℕ) → c < card_count → bit_of c ≡ 2 ^ (7 - c)
shift_is c h = eqb-true (bit_of c) (2 ^ (7 - c)) (below_all card_count (λ c. eqb (bit_of c) (2 ^ (7 - c))) c test-shift h)

-- An operation on numbers that goes bit by bit.
module _ (op : ℕ → ℕ → ℕ) (join : Bool → Bool → Bool) (none : join false false ≡ false)
    (shift : (a b k : ℕ) → op a b / 2 ^ k ≡ op (a / 2 ^ k) (b / 2 ^ k))
    (low : (a b k : ℕ) → op a b % 2 ^ k ≡ op (a % 2 ^ k) (b % 2 ^ k))
    (bits : all_below 2 (λ a. all_below 2 (λ b. beq (eqb (op a b) 1) (join (eqb a 1) (eqb b 1)))) ≡ true) where
  bitwise : (a b c : ℕ) → has_bit (op a b) c ≡ join (has_bit a c) (has_bit b c)
  bitwise a b c = go (split (ltb c card_count))
    where
      go : (ltb c card_count ≡ true) ⊎ (ltb c card_count ≡ false) → has_bit (op a b) c ≡ join (has_bit a c) (has_bit b c)
      go (inr e) = rw e (sym none)
      go (inl e) =
          let k : ℕ = 7 - c in
          rw (e, shift_is c (ltb-true c card_count e))
          (ap (λ (n : ℕ). eqb (n % 2 ^ 1) 1) (shift a b k) ∙ ap (λ (n : ℕ). eqb n 1) (low (a / 2 ^ k) (b / 2 ^ k) 1)
          ∙ same_bool _ _ (at_pair (λ a b. beq (eqb (op a b) 1) (join (eqb a 1) (eqb b 1))) 2 2 bits
          (a / 2 ^ k % 2) (omega arith) (b / 2 ^ k % 2) (omega arith)))

pub bit-and : (a b c : ℕ) → has_bit (bit_and a b) c ≡ (has_bit a c && has_bit b c)
bit-and = bitwise bit_and ◌&&◌ refl and_shr and_mod refl

pub bit-or : (a b c : ℕ) → has_bit (bit_or a b) c ≡ (has_bit a c || has_bit b c)
bit-or = bitwise bit_or ◌||◌ refl or_shr or_mod refl

-- A card's bit is a byte; a number that is no card has none.
pub bit-lt : (c : ℕ) → bit_of c < 256
bit-lt c = omega (arith, div-le_self 128 (2 ^ c))

no-bit : (c : ℕ) → card_count ≤ c → bit_of c ≡ 0
no-bit c h = let p : 2 ^ 8 ≤ 2 ^ c = pow_mono h in div-eq_of_lt (omega arith)

-- The members of a card's bit, of all the other bits, and of all bits.
test-own : all_below card_count (λ c. all_below card_count (λ x. beq (has_bit (bit_of c) x) (eqb x c))) ≡ true
test-own = refl

test-others : all_below card_count (λ c. all_below card_count (λ x. beq (has_bit (255 - bit_of c) x) (not (eqb x c)))) ≡ true
test-others = refl

test-all : all_below card_count (has_bit 255) ≡ true
test-all = refl

-- The mask with a card, and without it.
pub has-with : (m : Byte) (c x : ℕ) → ltb c card_count ≡ true → has_card (with_card m c) x ≡ (eqb x c || has_card m x)
unfolding with_card
has-with m c x hc =
    has-byte (bit_or m.0 (bit_of c)) x (or_lt 8 m.0 (bit_of c) m.1 (bit-lt c)) ∙ bit-or m.0 (bit_of c) x
    ∙ go (split (ltb x card_count)) ∙ ap (λ (b : Bool). eqb x c || b) (sym (has-bit m x))
  where
    swap : (a b : Bool) → (a || b) ≡ (b || a)
    swap true true = refl
    swap true false = refl
    swap false true = refl
    swap false false = refl

    go : (ltb x card_count ≡ true) ⊎ (ltb x card_count ≡ false) → (has_bit m.0 x || has_bit (bit_of c) x) ≡ (eqb x c || has_bit m.0 x)
    go (inl e) =
        let own : has_bit (bit_of c) x ≡ eqb x c =
        same_bool _ _ (at_pair (λ c x. beq (has_bit (bit_of c) x) (eqb x c)) card_count card_count test-own
        c (ltb-true c card_count hc) x (ltb-true x card_count e)) in
        swap (has_bit m.0 x) (has_bit (bit_of c) x) ∙ ap (λ (b : Bool). b || has_bit m.0 x) own
    go (inr e) = rw (e, ne_eqb x c (λ z. tf (ltb x card_count) (rw z hc) e))

pub has-without : (m : Byte) (c x : ℕ) → has_card (without_card m c) x ≡ (has_card m x && not (eqb x c))
unfolding without_card
has-without m c x =
    has-byte (bit_and m.0 (255 - bit_of c)) x (omega (arith, and_le_l m.0 (255 - bit_of c), m.1)) ∙ bit-and m.0 (255 - bit_of c) x
    ∙ go (split (ltb x card_count)) (split (ltb c card_count)) ∙ ap (λ (b : Bool). b && not (eqb x c)) (sym (has-bit m x))
  where
    go : (ltb x card_count ≡ true) ⊎ (ltb x card_count ≡ false) → (ltb c card_count ≡ true) ⊎ (ltb c card_count ≡ false)
        → (has_bit m.0 x && has_bit (255 - bit_of c) x) ≡ (has_bit m.0 x && not (eqb x c))
    go (inr e) hc = rw e
    go (inl e) (inl hc) = ap (λ (b : Bool). has_bit m.0 x && b)
        (same_bool _ _ (at_pair (λ c x. beq (has_bit (255 - bit_of c) x) (not (eqb x c))) card_count card_count test-others
        c (ltb-true c card_count hc) x (ltb-true x card_count e)))
    go (inl e) (inr hc) =
        let all : has_bit 255 x ≡ true = below_all card_count (has_bit 255) x test-all (ltb-true x card_count e) in
        let same : has_bit (255 - bit_of c) x ≡ true =
        ap (λ (n : ℕ). has_bit (255 - n) x) (no-bit c (ltb-false c card_count hc)) ∙ all in
        let other : eqb x c ≡ false = ne_eqb x c (λ z. tf (ltb x card_count) e (rw z hc)) in
        ap (λ (b : Bool). has_bit m.0 x && b) (same ∙ sym (ap not other))

-- A mask is its members.
abbrev weigh : (ℕ → Bool) → ℕ
weigh f = one_if (f 0) * 128 + one_if (f 1) * 64 + one_if (f 2) * 32 + one_if (f 3) * 16 + one_if (f 4) * 8 + one_if (f 5) * 4 + one_if (f 6) * 2 + one_if (f 7)

test-weigh : all_below 256 (λ n. eqb (byte n).0 (weigh (has_card (byte n)))) ≡ true
unfolding has_card
test-weigh = refl

pub same_number : (a b : Byte) → ((c : ℕ) → has_card a c ≡ has_card b c) → a.0 ≡ b.0
same_number a b h = value a ∙ ap weigh (fun_ext h) ∙ sym (value b)
  where
    value : (m : Byte) → m.0 ≡ weigh (has_card m)
    value m = eqb-true m.0 (weigh (has_card m)) (every-mask (λ m. eqb m.0 (weigh (has_card m))) test-weigh m)

pub same-mask : (a b : Byte) → ((c : ℕ) → has_card a c ≡ has_card b c) → a ≡ b
same-mask a b h = byte-path a b (same_number a b h)

-- The size is the number of members.
test-size : all_below 256 (λ n. eqb (length (members (byte n))) (size (byte n))) ≡ true
unfolding members size has_card
test-size = refl

pub size-members : (m : Byte) → length (members m) ≡ size m
size-members m = eqb-true _ _ (every-mask (λ m. eqb (length (members m)) (size m)) test-size m)

-- The list of members has the members.
abbrev cards : List ℕ
cards = 0 ∷ 1 ∷ 2 ∷ 3 ∷ 4 ∷ 5 ∷ 6 ∷ 7 ∷ []

test-cards : all_below card_count (λ c. elem c cards) ≡ true
test-cards = refl

pub elem-members : (m : Byte) (c : ℕ) → elem c (members m) ≡ has_card m c
unfolding members
elem-members m c = same_test (elem c (members m)) (has_card m c) (λ e. (elem-keep (has_card m) c cards e).0)
    (λ e. keep-elem (has_card m) c cards e (below_all card_count (λ c. elem c cards) c test-cards (has-card m c e)))

-- ---- a mask that is made card by card
-- The members are the cards below c that f picks: none below 0; with c, where f picks it, those below c + 1.
pub none_below : (f : ℕ → Bool) → AreMembers 0 (λ x. ltb x 0 && f x)
none_below f x = has-none x ∙ sym (ap (λ (t : Bool). t && f x) (le-ltb x 0 (omega arith)))

module _ (f : ℕ → Bool) (m r c : ℕ) (hc : c < card_count) (below : AreMembers m (λ x. ltb x c && f x)) where
  same : (x : ℕ) → x ≢ c → has_card (byte m) x ≡ (ltb x (c + 1) && f x)
  same x d = below x ∙ ap (λ (t : Bool). t && f x) (step (split (ltb x c)))
    where
      step : (ltb x c ≡ true) ⊎ (ltb x c ≡ false) → ltb x c ≡ ltb x (c + 1)
      step (inl e) = e ∙ sym (lt-ltb x (c + 1) (let h = ltb-true x c e in omega arith))
      step (inr e) = e ∙ sym (le-ltb x (c + 1) (over x c d (λ h. tf (ltb x c) (lt-ltb x c h) e)))
        where
          over : (x c : ℕ) → x ≢ c → (x < c → ⊥) → c + 1 ≤ x
          over x c d n = omega (arith, d, n)

  pub card-more : (on : Bool) → on ≡ f c → byte r ≡ cond on (with_card (byte m) c) (byte m) → AreMembers r (λ x. ltb x (c + 1) && f x)
  card-more on o e x = ap (λ (b : Byte). has_card b x) e ∙ go on o
    where
      go : (t : Bool) → t ≡ f c → has_card (cond t (with_card (byte m) c) (byte m)) x ≡ (ltb x (c + 1) && f x)
      go true o = has-with (byte m) c x (lt-ltb c card_count hc) ∙ by-eq ((eqb x c || has_card (byte m) x) ≡ (ltb x (c + 1) && f x)) x c
          (λ p. rw (eq-eqb x c p, p, lt-ltb c (c + 1) (omega arith)) o)
          (λ d. rw (ne_eqb x c d) (same x d))
      go false o = by-eq (has_card (byte m) x ≡ (ltb x (c + 1) && f x)) x c
          (λ p. below x ∙ rw (p, le-ltb c c (omega arith), lt-ltb c (c + 1) (omega arith)) o)
          (λ d. same x d)
