-- The round trips of a slot's 40 bits, and the ranges of its fields. Assumes nothing.
use mathlib.Core.Path.{◌≡◌, refl, ap, ◌∙◌}
use mathlib.Core.Bool.{Bool, true, false, cond}
use mathlib.Core.Option.{Option, some, none}
use Prim.Native.Nat.{ℕ, zero, suc, ◌+◌, ◌*◌, ◌/◌, ◌%◌, ◌^◌, ◌<◌}
use native.Mathlib.Omega.{arith}
use lib.Dec.{eqb}
use Rattle.image.specs.Layout.{tran_bound, value_bound}
use Rattle.slot.specs.declared.Entry.{Entry}
use Rattle.slot.specs.declared.Slot.{Slot}
use Rattle.slot.specs.Words.{bit_number, slot_of, word_of, InRange, entry_of, state_of, locked_slot, freed_slot}

-- A bit as a number, and back.
bit_test : (b : Bool) → eqb (bit_number b) 1 ≡ b
bit_test true = refl
bit_test false = refl

pub bit-lt : (b : Bool) → bit_number b < 2
bit-lt true = omega arith
bit-lt false = omega arith

bit-of-test : (n : ℕ) → n < 2 → bit_number (eqb n 1) ≡ n
bit-of-test zero h = refl
bit-of-test (suc zero) h = refl
bit-of-test (suc (suc n)) h = absurd (omega arith)

-- A slot in range has a number of 40 bits.
pub word_lt : (s : Slot) → InRange s → word_of s < 2 ^ 40
unfolding word_of
word_lt s h = omega (arith, bit-lt s.committed.present, bit-lt s.pending.present)

-- Every slot that is read is in range.
pub slot-in-range : (n : ℕ) → InRange (slot_of n)
unfolding slot_of
slot-in-range n = omega arith

-- A slot that is written is read back.
pub slot-of-word : (s : Slot) → InRange s → slot_of (word_of s) ≡ s
unfolding slot_of word_of
slot-of-word s h =
    let p = bit_number s.committed.present in
    let q = bit_number s.pending.present in
    let hp : p < 2 = bit-lt s.committed.present in
    let hq : q < 2 = bit-lt s.pending.present in
    let n = word_of s in
    let e1 : n / 2 ^ 39 % 2 ≡ p = omega arith in
    let e2 : n / 2 ^ 23 % 2 ^ 16 ≡ s.committed.value = omega arith in
    let e3 : n / 2 ^ 19 % 2 ^ 4 ≡ s.lock = omega arith in
    let e4 : n / 2 ^ 18 % 2 ≡ q = omega arith in
    let e5 : n / 2 ^ 2 % 2 ^ 16 ≡ s.pending.value = omega arith in
    let e6 : n % 2 ^ 2 ≡ s.spare = omega arith in
    let f1 : eqb (n / 2 ^ 39 % 2) 1 ≡ s.committed.present = ap (λ (m : ℕ). eqb m 1) e1 ∙ bit_test s.committed.present in
    let f4 : eqb (n / 2 ^ 18 % 2) 1 ≡ s.pending.present = ap (λ (m : ℕ). eqb m 1) e4 ∙ bit_test s.pending.present in
    λ i. record {
      committed = record { present = f1 i; value = e2 i };
      lock = e3 i;
      pending = record { present = f4 i; value = e5 i };
      spare = e6 i;
    }

-- A number is the sum of its fields.
sum : (n : ℕ) → n / 2 ^ 39 * 2 ^ 39 + n / 2 ^ 23 % 2 ^ 16 * 2 ^ 23 + n / 2 ^ 19 % 2 ^ 4 * 2 ^ 19
    + n / 2 ^ 18 % 2 * 2 ^ 18 + n / 2 ^ 2 % 2 ^ 16 * 2 ^ 2 + n % 2 ^ 2 ≡ n
sum n =
    let d1 : n / 2 ^ 18 ≡ n / 2 ^ 2 / 2 ^ 16 = omega arith in
    let d2 : n / 2 ^ 19 ≡ n / 2 ^ 18 / 2 = omega arith in
    let d3 : n / 2 ^ 23 ≡ n / 2 ^ 19 / 2 ^ 4 = omega arith in
    let d4 : n / 2 ^ 39 ≡ n / 2 ^ 23 / 2 ^ 16 = omega arith in
    omega arith

-- A word that is read is written back.
pub word-of-slot : (n : ℕ) → n < 2 ^ 40 → word_of (slot_of n) ≡ n
unfolding slot_of word_of
word-of-slot n h =
    let top : n / 2 ^ 39 % 2 ≡ n / 2 ^ 39 = omega arith in
    let e1 : bit_number (eqb (n / 2 ^ 39 % 2) 1) ≡ n / 2 ^ 39 = bit-of-test (n / 2 ^ 39 % 2) (omega arith) ∙ top in
    let e4 : bit_number (eqb (n / 2 ^ 18 % 2) 1) ≡ n / 2 ^ 18 % 2 = bit-of-test (n / 2 ^ 18 % 2) (omega arith) in
    rw (e1, e4) (sum n)

-- A locked slot and an ended slot are in range.
pub locked-in-range : (t : ℕ) (v : Option ℕ) (s : Slot) → t < tran_bound → (entry_of v).value < value_bound → InRange s → InRange (locked_slot t v s)
locked-in-range t v s ht hv h =
    record { value-fits = h.value-fits; lock-fits = ht; pending-fits = hv; spare-fits = h.spare-fits }

pub taken-lt : (e : Entry) → e.value < value_bound → (entry_of (state_of e)).value < value_bound
taken-lt e h = go e.present
  where
    go : (b : Bool) → (entry_of (cond b (some e.value) none)).value < value_bound
    go true = h
    go false = omega arith

pub freed-in-range : (take : Bool) (s : Slot) → InRange s → InRange (freed_slot take s)
freed-in-range true s h =
    record { value-fits = taken-lt s.pending h.pending-fits; lock-fits = omega arith; pending-fits = omega arith; spare-fits = h.spare-fits }
freed-in-range false s h =
    record { value-fits = h.value-fits; lock-fits = omega arith; pending-fits = omega arith; spare-fits = h.spare-fits }
