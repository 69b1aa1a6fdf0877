-- What the code's steps on a block's list of bytes make of the block. Assumes nothing.
use mathlib.Core.Path.{◌≡◌, ap, refl, sym, ◌∙◌}
use mathlib.Core.Logic.{◌≢◌}
use mathlib.Core.Bool.{true}
use mathlib.Core.List.{List}
use Prim.Native.Nat.{ℕ, zero, suc, ◌+◌, ◌*◌, ◌-◌, ◌/◌, ◌%◌, ◌^◌, ◌≤◌, ◌<◌}
use native.Mathlib.Omega.{arith}
use lib.Dec.{eqb, leb, ltb}
use lib.ListN.{length, get_or, set, length-set}
use lib.Seq.{ext_get_or, get_or-set_same, get_or-set_other}
use borrow.Author.Tests.{lt-ltb, ltb-true, le-leb, leb-true}
use Rattle.lists.specs.Tests.{one_if}
use Rattle.lists.proofs.Bools.{and_l, and_r, never_true}
use Rattle.lists.proofs.Cases.{by-eq}
use Rattle.image.specs.Layout.{block_size, slot_count, slot_size, slot_start}
use Rattle.slot.specs.declared.Slot.{Slot}
use Rattle.slot.specs.Words.{slot_of, word_of}
use Rattle.slot.specs.Blocks.{byte_in, of_list, is_committed, is_held, number_of, byte_of, word_at, slot_at, put_slot}
use Rattle.slot.proofs.Blocks.{byte-in, in_slot, put-at}

-- A list of 41 bytes is known by them.
pub list_ext : (l m : List ℕ) → length l ≡ block_size → length m ≡ block_size → ((j : ℕ) → j < block_size → get_or l j 0 ≡ get_or m j 0) → l ≡ m
list_ext l m e f h = ext_get_or 0 l m (e ∙ sym f) (λ j k. h j (omega arith))

pub byte-of-list : (l : List ℕ) (j : ℕ) → j < block_size → byte_in (of_list l) j ≡ get_or l j 0
byte-of-list l j h = byte-in (λ k. get_or l k 0) j h

-- The word of a slot, from the list's bytes.
pub word-of-list : (l : List ℕ) (i : ℕ) → i < slot_count
    → word_at (of_list l) i
    ≡ number_of (get_or l (slot_start i) 0 % 256) (get_or l (slot_start i + 1) 0 % 256) (get_or l (slot_start i + 2) 0 % 256) (get_or l (slot_start i + 3) 0 % 256)
    (get_or l (slot_start i + 4) 0 % 256)
unfolding word_at
word-of-list l i h =
    let a : ℕ = slot_start i in
    rw (byte-of-list l a (omega arith), byte-of-list l (a + 1) (omega arith), byte-of-list l (a + 2) (omega arith), byte-of-list l (a + 3) (omega arith), byte-of-list l (a + 4) (omega arith))

-- ---- what one byte of the list shows: the bit 'held', a slot's lock, its present bit
pub held-of-list : (l : List ℕ) → get_or l 0 0 < 256 → leb 128 (get_or l 0 0) ≡ is_held (of_list l)
unfolding is_held
held-of-list l h =
    let e : get_or l 0 0 ≡ get_or l 0 0 % 256 = omega arith in
    ap (leb 128) (e ∙ ap (λ (m : ℕ). m % 256) (sym (byte-of-list l 0 (omega arith))))

number-lock : (a b c d e : ℕ) → number_of (a % 256) (b % 256) (c % 256) (d % 256) (e % 256) / 2 ^ 19 % 2 ^ 4 ≡ c % 256 / 8 % 16
number-lock a b c d e =
    let n : ℕ = number_of (a % 256) (b % 256) (c % 256) (d % 256) (e % 256) in
    let p : n / 2 ^ 16 ≡ (a % 256 * 256 + b % 256) * 256 + c % 256 = omega arith in
    let q : n / 2 ^ 19 ≡ n / 2 ^ 16 / 8 = omega arith in
    omega arith

number-present : (a b c d e : ℕ) → number_of (a % 256) (b % 256) (c % 256) (d % 256) (e % 256) / 2 ^ 39 % 2 ≡ a % 256 / 128
number-present a b c d e =
    let n : ℕ = number_of (a % 256) (b % 256) (c % 256) (d % 256) (e % 256) in
    let p : n / 2 ^ 32 ≡ a % 256 = omega arith in
    let q : n / 2 ^ 39 ≡ n / 2 ^ 32 / 128 = omega arith in
    omega arith

one-if-bit : (n : ℕ) → n < 2 → n ≡ one_if (eqb n 1)
one-if-bit zero h = refl
one-if-bit (suc zero) h = refl
one-if-bit (suc (suc n)) h = absurd (omega arith)

module _ (l : List ℕ) (i : ℕ) (h : i < slot_count) where
  abbrev a : ℕ
  a = slot_start i

  abbrev byte : ℕ → ℕ
  byte j = get_or l j 0

  pub lock-of-list : get_or l (3 + i * slot_size) 0 < 256 → get_or l (3 + i * slot_size) 0 / 8 % 16 ≡ (slot_at (of_list l) i).lock
  unfolding slot_of
  lock-of-list f =
      let at : byte (3 + i * slot_size) ≡ byte (a + 2) = ap byte (omega arith) in
      let e : byte (3 + i * slot_size) ≡ byte (a + 2) % 256 = omega arith in
      ap (λ (n : ℕ). n / 8 % 16) e
      ∙ sym (ap (λ (n : ℕ). n / 2 ^ 19 % 2 ^ 4) (word-of-list l i h) ∙ number-lock (byte a) (byte (a + 1)) (byte (a + 2)) (byte (a + 3)) (byte (a + 4)))

  pub committed-of-list : get_or l (slot_start i) 0 < 256 → get_or l (slot_start i) 0 / 128 ≡ one_if (is_committed (of_list l) i)
  unfolding slot_of
  committed-of-list f =
      let e : byte a ≡ byte a % 256 = omega arith in
      let bit : byte a / 128 ≡ word_at (of_list l) i / 2 ^ 39 % 2 =
      ap (λ (n : ℕ). n / 128) e
      ∙ sym (ap (λ (n : ℕ). n / 2 ^ 39 % 2) (word-of-list l i h) ∙ number-present (byte a) (byte (a + 1)) (byte (a + 2)) (byte (a + 3)) (byte (a + 4))) in
      one-if-bit (byte a / 128) (omega arith) ∙ ap (λ (n : ℕ). one_if (eqb n 1)) bit

-- A byte of a slot is one of five.
above : (a j : ℕ) → a ≤ j → (j ≢ a) → (j ≢ a + 1) → a + 1 < j
above a j h d e = omega arith

last : (a j : ℕ) → a + 1 < j → j < a + slot_size → (j ≢ a + 2) → (j ≢ a + 3) → (j ≢ a + 4) → ⊥
last a j h k d e f = omega arith

among : (a j : ℕ) → a ≤ j → j < a + slot_size → (j ≢ a) → (j ≢ a + 1) → (j ≢ a + 2) → (j ≢ a + 3) → (j ≢ a + 4) → ⊥
among a j h k d0 d1 d2 d3 d4 = last a j (above a j h d0 d1) k d2 d3 d4

-- Five stores from a on put a slot.
abbrev stored : List ℕ → ℕ → (ℕ → ℕ) → List ℕ
stored x a b = set (set (set (set (set x a (b 0)) (a + 1) (b 1)) (a + 2) (b 2)) (a + 3) (b 3)) (a + 4) (b 4)

module _ (x : List ℕ) (n : length x ≡ block_size) (i : ℕ) (hi : i < slot_count) (s : Slot) where
  five-stores : stored x (slot_start i) (byte_of (word_of s)) ≡ (put_slot (of_list x) i s).0
  five-stores = list_ext y4 (put_slot (of_list x) i s).0 (length-set y3 (a + 4) (b 4) ∙ l3) (put_slot (of_list x) i s).1 each
    where
      a : ℕ
      a = slot_start i

      b : ℕ → ℕ
      b k = byte_of (word_of s) k

      y0 : List ℕ
      y0 = set x a (b 0)

      y1 : List ℕ
      y1 = set y0 (a + 1) (b 1)

      y2 : List ℕ
      y2 = set y1 (a + 2) (b 2)

      y3 : List ℕ
      y3 = set y2 (a + 3) (b 3)

      y4 : List ℕ
      y4 = set y3 (a + 4) (b 4)

      l0 : length y0 ≡ block_size
      l0 = length-set x a (b 0) ∙ n

      l1 : length y1 ≡ block_size
      l1 = length-set y0 (a + 1) (b 1) ∙ l0

      l2 : length y2 ≡ block_size
      l2 = length-set y1 (a + 2) (b 2) ∙ l1

      l3 : length y3 ≡ block_size
      l3 = length-set y2 (a + 3) (b 3) ∙ l2

      goal : ℕ → ℕ
      goal j = byte_in (put_slot (of_list x) i s) j

      inside : (j k : ℕ) → j ≡ a + k → k < slot_size → b k ≡ goal j
      inside j k q h =
          let e : j - slot_start i ≡ k = omega arith in
          sym (put-at (of_list x) i s j (omega arith) ∙ rw (le-leb (slot_start i) j (omega arith), lt-ltb j (slot_start i + slot_size) (omega arith), e))

      -- one store: byte k of the slot, at place p
      one : (y : List ℕ) → length y ≡ block_size → (p k : ℕ) → p ≡ a + k → k < slot_size → (j : ℕ) → (j ≢ p → get_or y j 0 ≡ goal j) → get_or (set y p (b k)) j 0 ≡ goal j
      one y l p k q h j other = by-eq (get_or (set y p (b k)) j 0 ≡ goal j) j p
          (λ e. rw e (get_or-set_same y p (b k) 0 (omega arith) ∙ inside p k q h))
          (λ d. get_or-set_other y p j (b k) 0 d ∙ other d)

      each : (j : ℕ) → j < block_size → get_or y4 j 0 ≡ goal j
      each j h = one y3 l3 (a + 4) 4 refl (omega arith) j (λ d4. one y2 l2 (a + 3) 3 refl (omega arith) j (λ d3. one y1 l1 (a + 2) 2 refl (omega arith) j
          (λ d2. one y0 l0 (a + 1) 1 refl (omega arith) j (λ d1. one x n a 0 (omega arith) (omega arith) j
          (λ d0. sym (put-at (of_list x) i s j h ∙ rw (never_true (in_slot i j) (outside d0 d1 d2 d3 d4)) (byte-of-list x j h)))))))
        where
          outside : (j ≢ a) → (j ≢ a + 1) → (j ≢ a + 2) → (j ≢ a + 3) → (j ≢ a + 4) → in_slot i j ≡ true → ⊥
          outside d0 d1 d2 d3 d4 y =
              among a j (leb-true a j (and_l (leb a j) (ltb j (a + slot_size)) y)) (ltb-true j (a + slot_size) (and_r (leb a j) (ltb j (a + slot_size)) y)) d0 d1 d2 d3 d4

  -- the bytes of a number that shows the slot
  pub stores-slot : (w : ℕ) → w ≡ word_of s → stored x (slot_start i) (byte_of w) ≡ (put_slot (of_list x) i s).0
  stores-slot w e = ap (λ (m : ℕ). stored x (slot_start i) (byte_of m)) e ∙ five-stores
