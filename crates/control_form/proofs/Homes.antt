-- Eight bytes as one number: what the code asks of the number is what it means byte by byte. The number is its bytes
-- (lists, Bytes), the operations work on each byte by itself, and what they do to one byte is computed for all 256.
-- Assumes nothing.
use mathlib.Core.Path.{◌≡◌, refl, sym, ap, ap₂, ◌∙◌}
use mathlib.Core.Bool.{Bool, true, not, ◌&&◌, ◌||◌, beq}
use mathlib.Core.List.{List}
use Prim.Native.Nat.{ℕ, ◌+◌, ◌-◌, ◌*◌, ◌/◌, ◌%◌, ◌^◌, ◌<◌}
use native.Mathlib.Nat.{mul_comm}
use native.Mathlib.Omega.{arith}
use lib.Bits.{bit_and, bit_xor, and_le_l, and_le_r, xor_lt}
use lib.Dec.{eqb}
use lib.ListN.{get_or}
use borrow.Author.Tests.{eqb-true}
use Rattle.lists.specs.Bytes.{of_bytes}
use Rattle.lists.specs.Tests.{all_below}
use Rattle.lists.proofs.Bools.{imp-out, same_bool}
use Rattle.lists.proofs.Bytes.{AreBytes, bytes-add, bytes-and, bytes-ext, bytes-mul, bytes-test, bytes-xor}
use Rattle.lists.proofs.Counts.{at_pair, below_all, below-ext}
use Rattle.image.specs.Layout.{card_count}
use Rattle.method.specs.ControlPart.{is_card}
use Rattle.control.specs.ControlBytes.{field, field_bound, home_byte, home_in, homes_at, homes_end, open_bit, stopped_in}
use Rattle.control_form.specs.Reading.{all_from, first_end, home_fits_at, home_ok_at, is_home_at, second_at, word_size}
use Rattle.control_form.proofs.Ranges.{from_all, from-below, from-both, from-cover}

-- The code's constants: four bits; the byte 1 eight times, and over it the highest bits, four bits and the bit behind them.
abbrev pub nibble : ℕ
nibble = field - 1

abbrev pub ones : ℕ
ones = 72340172838076673

abbrev pub opens : ℕ
opens = open_bit * ones

abbrev pub nibbles : ℕ
nibbles = nibble * ones

abbrev pub carries : ℕ
carries = field * ones

-- ---- zero or open, with nothing behind the home card
-- What the highest bit lets stand of a byte: its upper four bits.
test-open : all_below 256 (λ b. eqb (bit_and b open_bit) (b / open_bit * field * field_bound)) ≡ true
test-open = refl

open-bit : (b : ℕ) → b < 256 → bit_and b open_bit ≡ b / open_bit * field * field_bound
open-bit b h = eqb-true (bit_and b open_bit) (b / open_bit * field * field_bound) (below_all 256 (λ b. eqb (bit_and b open_bit) (b / open_bit * field * field_bound)) b test-open h)

test-home : all_below 256 (λ b. beq (eqb (bit_and b (b / open_bit * field * nibble)) b) (eqb b (home_byte (home_in b)))) ≡ true
test-home = refl

module _ (f : ℕ → ℕ) (small : AreBytes f) where
  -- the bits that may stand, of all bytes
  pub standing : bit_and (of_bytes f word_size) opens / field_bound * nibble ≡ of_bytes (λ i. f i / open_bit * field * nibble) word_size
  standing =
      ap (λ (n : ℕ). n / field_bound * nibble) opened
      ∙ ap (λ (n : ℕ). n * nibble) eighth
      ∙ bytes-mul (λ i. f i / open_bit * field) nibble word_size
    where
      all : of_bytes (λ i. open_bit) word_size ≡ opens
      all = unfold of_bytes in refl

      opened : bit_and (of_bytes f word_size) opens ≡ of_bytes (λ i. f i / open_bit * field) word_size * field_bound
      opened = ap (bit_and (of_bytes f word_size)) (sym all) ∙ bytes-and f (λ i. open_bit) small (λ i. omega arith) word_size
          ∙ bytes-ext (λ i. bit_and (f i) open_bit) (λ i. f i / open_bit * field * field_bound) word_size (λ i h. open-bit (f i) (small i))
          ∙ sym (bytes-mul (λ i. f i / open_bit * field) field_bound word_size)

      eighth : of_bytes (λ i. f i / open_bit * field) word_size * field_bound / field_bound ≡ of_bytes (λ i. f i / open_bit * field) word_size
      eighth = omega arith

  pub homes_by : eqb (bit_and (of_bytes f word_size) (bit_and (of_bytes f word_size) opens / field_bound * nibble)) (of_bytes f word_size)
      ≡ all_below word_size (λ i. eqb (f i) (home_byte (home_in (f i))))
  homes_by =
      ap (λ (n : ℕ). eqb (bit_and (of_bytes f word_size) n) (of_bytes f word_size)) standing
      ∙ ap (λ (n : ℕ). eqb n (of_bytes f word_size)) (bytes-and f (λ i. f i / open_bit * field * nibble) small high word_size)
      ∙ bytes-test (λ i. bit_and (f i) (f i / open_bit * field * nibble)) f
      (λ i. let a : f i < 2 ^ 8 = small i in omega (arith, and_le_l (f i) (f i / open_bit * field * nibble))) small word_size
      ∙ below-ext word_size (λ i. eqb (bit_and (f i) (f i / open_bit * field * nibble)) (f i)) (λ i. eqb (f i) (home_byte (home_in (f i)))) (λ i h. same_bool _ _
      (below_all 256 (λ b. beq (eqb (bit_and b (b / open_bit * field * nibble)) b) (eqb b (home_byte (home_in b)))) (f i) test-home (small i)))
    where
      high : AreBytes (λ i. f i / open_bit * field * nibble)
      high i = let a : f i < 2 ^ 8 = small i in omega arith

test_low : all_below 256 (λ b. not (eqb b (home_byte (home_in b))) || eqb (b % field) 0) ≡ true
test_low = refl

low-none : (b : ℕ) → b < 256 → eqb b (home_byte (home_in b)) ≡ true → b % field ≡ 0
low-none b h t = eqb-true (b % field) 0 (imp-out _ _ (below_all 256 (λ b. not (eqb b (home_byte (home_in b))) || eqb (b % field) 0) b test_low h) t)

-- ---- no byte is open with a home
test-lack : all_below 256 (λ b. all_below card_count (λ c. beq (eqb (bit_and (bit_xor (b / field) (1 * (field_bound + c)) + nibble) field) field) (not (is_card (home_in b) c)))) ≡ true
test-lack = refl

module _ (f : ℕ → ℕ) (small : AreBytes f) (formed : (i : ℕ) → i < word_size → f i % field ≡ 0) (c : ℕ) (hc : c < card_count) where
  -- the upper four bits of every byte
  upper : of_bytes f word_size / field ≡ of_bytes (λ i. f i / field) word_size
  upper = ap (λ (n : ℕ). n / field) (bytes-ext f (λ i. f i / field * field) word_size (λ i h. let e : f i % field ≡ 0 = formed i h in omega arith) ∙ sym (bytes-mul (λ i. f i / field) field word_size))
      ∙ omega arith

  home : (field_bound + c) * ones ≡ of_bytes (λ i. 1 * (field_bound + c)) word_size
  home = mul_comm (field_bound + c) ones ∙ ap (λ (n : ℕ). n * (field_bound + c)) (sym ones-are) ∙ bytes-mul (λ i. 1) (field_bound + c) word_size
    where
      ones-are : of_bytes (λ i. 1) word_size ≡ ones
      ones-are = unfold of_bytes in refl

  low : (i : ℕ) → bit_xor (f i / field) (1 * (field_bound + c)) < field
  low i = let a : f i < 2 ^ 8 = small i in xor_lt 4 (f i / field) (1 * (field_bound + c)) (omega arith) (omega arith)

  pub differ-by : bit_xor (of_bytes f word_size / field) ((field_bound + c) * ones) ≡ of_bytes (λ i. bit_xor (f i / field) (1 * (field_bound + c))) word_size
  differ-by = ap₂ bit_xor upper home
      ∙ bytes-xor (λ i. f i / field) (λ i. 1 * (field_bound + c)) (λ i. let a : f i < 2 ^ 8 = small i in omega arith) (λ i. omega arith) word_size

  pub lack-by : eqb (bit_and (bit_xor (of_bytes f word_size / field) ((field_bound + c) * ones) + nibbles) carries) carries
      ≡ all_below word_size (λ i. not (is_card (home_in (f i)) c))
  lack-by =
      ap (λ (n : ℕ). eqb (bit_and (n + nibbles) carries) carries) differ-by
      ∙ ap₂ (λ (m n : ℕ). eqb (bit_and (of_bytes (λ i. bit_xor (f i / field) (1 * (field_bound + c))) word_size + m) n) n) (sym nibbles-are) (sym carries-are)
      ∙ ap (λ (n : ℕ). eqb (bit_and n (of_bytes (λ i. field) word_size)) (of_bytes (λ i. field) word_size)) (bytes-add (λ i. bit_xor (f i / field) (1 * (field_bound + c))) (λ i. nibble) word_size)
      ∙ ap (λ (n : ℕ). eqb n (of_bytes (λ i. field) word_size))
      (bytes-and (λ i. bit_xor (f i / field) (1 * (field_bound + c)) + nibble) (λ i. field) (λ i. omega (arith, low i)) (λ i. omega arith) word_size)
      ∙ bytes-test (λ i. bit_and (bit_xor (f i / field) (1 * (field_bound + c)) + nibble) field) (λ i. field)
      (λ i. omega (arith, and_le_r (bit_xor (f i / field) (1 * (field_bound + c)) + nibble) field)) (λ i. omega arith) word_size
      ∙ below-ext word_size (λ i. eqb (bit_and (bit_xor (f i / field) (1 * (field_bound + c)) + nibble) field) field) (λ i. not (is_card (home_in (f i)) c)) (λ i h. same_bool _ _
      (at_pair (λ b c. beq (eqb (bit_and (bit_xor (b / field) (1 * (field_bound + c)) + nibble) field) field) (not (is_card (home_in b) c))) 256 card_count test-lack (f i) (small i) c hc))
    where
      nibbles-are : of_bytes (λ i. nibble) word_size ≡ nibbles
      nibbles-are = unfold of_bytes in refl

      carries-are : of_bytes (λ i. field) word_size ≡ carries
      carries-are = unfold of_bytes in refl

-- ---- the same of a list's bytes from an index on
module _ (l : List ℕ) (small : (n : ℕ) → get_or l n 0 < 256) (at : ℕ) where
  pub homes_at_lem : (w : ℕ) → w ≡ of_bytes (λ i. get_or l (at + i) 0) word_size
      → eqb (bit_and w (bit_and w opens / field_bound * nibble)) w ≡ all_from at (at + word_size) (is_home_at l)
  unfolding is_home_at
  homes_at_lem w e =
      ap (λ (n : ℕ). eqb (bit_and n (bit_and n opens / field_bound * nibble)) n) e
      ∙ homes_by (λ i. get_or l (at + i) 0) (λ i. small (at + i))
      ∙ from-below at (is_home_at l) word_size (at + word_size) refl

  -- a transaction's byte has nothing behind the home card
  formed : all_from at (at + word_size) (is_home_at l) ≡ true → (i : ℕ) → i < word_size → get_or l (at + i) 0 % field ≡ 0
  formed t i h = low-none (get_or l (at + i) 0) (small (at + i)) (unfold is_home_at in (from_all at (is_home_at l) (at + word_size) (at + i) t (omega arith) (omega arith)))

  pub lack-at : (w c : ℕ) → w ≡ of_bytes (λ i. get_or l (at + i) 0) word_size → c < card_count → all_from at (at + word_size) (is_home_at l) ≡ true
      → eqb (bit_and (bit_xor (w / field) ((field_bound + c) * ones) + nibbles) carries) carries
      ≡ all_from at (at + word_size) (λ n. not (is_card (home_in (get_or l n 0)) c))
  lack-at w c e hc t =
      ap (λ (n : ℕ). eqb (bit_and (bit_xor (n / field) ((field_bound + c) * ones) + nibbles) carries) carries) e
      ∙ lack-by (λ i. get_or l (at + i) 0) (λ i. small (at + i)) (formed t) c hc
      ∙ from-below at (λ n. not (is_card (home_in (get_or l n 0)) c)) word_size (at + word_size) refl

-- ---- all of them
pub all-homes : (l : List ℕ) → all_from homes_at homes_end (is_home_at l) ≡ (all_from homes_at first_end (is_home_at l) && all_from second_at homes_end (is_home_at l))
all-homes l = from-cover homes_at second_at first_end homes_end (is_home_at l) (omega arith) (omega arith) (omega arith)

pub fits_by : (l : List ℕ) → all_from homes_at homes_end (home_fits_at l)
    ≡ ((all_from homes_at first_end (is_home_at l) && all_from second_at homes_end (is_home_at l)) && all_from homes_at homes_end (home_ok_at (stopped_in (get_or l 0 0)) l))
unfolding home_fits_at
fits_by l = from-both homes_at homes_end (is_home_at l) (home_ok_at (stopped_in (get_or l 0 0)) l)
    ∙ ap (λ (t : Bool). t && all_from homes_at homes_end (home_ok_at (stopped_in (get_or l 0 0)) l)) (all-homes l)
