-- Laws of blocks: their bytes, the bit 'held', and their slots after a write. Assumes nothing.
use mathlib.Core.Path.{◌≡◌, refl, sym, ap, ◌∙◌}
use mathlib.Core.Logic.{◌⊎◌, inl, inr, ◌≢◌}
use mathlib.Core.Bool.{Bool, true, false, ◌&&◌, and-false, cond}
use mathlib.Core.Option.{Option}
use mathlib.Core.HLevel.{Σ_prop_path}
use Prim.Native.Nat.{ℕ, zero, suc, ◌+◌, ◌-◌, ◌/◌, ◌%◌, ◌^◌, ◌≤◌, ◌<◌}
use native.Mathlib.Omega.{arith}
use native.Mathlib.Nat.{ℕ_set}
use lib.Dec.{leb, ltb, eqb}
use lib.ListN.{length, get_or}
use lib.Seq.{ext_get_or}
use borrow.Author.Tests.{eqb-true, eqb-false, ne_eqb, lt-ltb, ltb-true, le-leb, lt-leb, leb-true}
use Rattle.lists.proofs.Bools.{eqb-self, split, and_l, and_r, never_true}
use Rattle.lists.proofs.Counts.{below_none}
use Rattle.lists.proofs.Tabulate.{at-tabulate}
use Rattle.image.specs.Layout.{block_size, slot_count, slot_size, slot_start, tran_bound, value_bound}
use Rattle.image.specs.Parts.{zeros}
use Rattle.image.proofs.Zeros.{length-zeros, zeros-at}
use Rattle.slot.specs.declared.Slot.{Slot}
use Rattle.slot.specs.Words.{slot_of, word_of, InRange, entry_of, locked_slot, freed_slot}
use Rattle.slot.specs.Blocks.{BlockBytes, byte_in, block_of_bytes, empty_block, of_list, fresh_block, is_held, number_of, byte_of, word_at, slot_at}
use Rattle.slot.specs.Blocks.{put_slot, lock_slot, ended_byte, end_slots, any_picked, is_picked}
use Rattle.slot.proofs.Words.{word_lt, slot-of-word, slot-in-range, locked-in-range, freed-in-range}

-- Blocks are equal where their lists are, and where their bytes are.
pub block-path : (a b : BlockBytes) → a.0 ≡ b.0 → a ≡ b
block-path a b e = Σ_prop_path (λ l. ℕ_set (length l) block_size) e

pub block-ext : (a b : BlockBytes) → ((j : ℕ) → j < block_size → byte_in a j ≡ byte_in b j) → a ≡ b
block-ext a b h = block-path a b (ext_get_or 0 a.0 b.0 (a.1 ∙ sym b.1) (λ j k. h j (omega (arith, a.1))))

-- A block given by its bytes has them.
pub byte-in : (f : ℕ → ℕ) (j : ℕ) → j < block_size → byte_in (block_of_bytes f) j ≡ f j
byte-in f j h = at-tabulate block_size f j h

-- A block from the list of its bytes.
pub of-list : (x : BlockBytes) → of_list x.0 ≡ x
of-list x = block-ext (of_list x.0) x (λ j h. byte-in (λ k. get_or x.0 k 0) j h)

-- The block of zeros.
pub zeros-empty : zeros block_size ≡ empty_block.0
zeros-empty =
    let n : length (zeros block_size) ≡ block_size = length-zeros block_size in
    ext_get_or 0 (zeros block_size) empty_block.0 (n ∙ sym empty_block.1) (λ j h. zeros-at block_size j (omega arith) ∙ sym (byte-in (λ k. 0) j (omega arith)))

-- ---- the bit 'held': only the first byte matters

pub held-empty : is_held empty_block ≡ false
unfolding is_held
held-empty = ap (λ (m : ℕ). leb 128 (m % 256)) (byte-in _ 0 (omega arith))

pub held-fresh : is_held fresh_block ≡ true
unfolding is_held
held-fresh = ap (λ (m : ℕ). leb 128 (m % 256)) (byte-in _ 0 (omega arith))

pub held-put : (x : BlockBytes) (i : ℕ) (s : Slot) → is_held (put_slot x i s) ≡ is_held x
unfolding is_held put_slot
held-put x i s =
    let e : byte_in (put_slot x i s) 0 ≡ byte_in x 0 = byte-in _ 0 (omega arith) ∙ rw (lt-leb (slot_start i) 0 (omega arith)) in
    ap (λ (m : ℕ). leb 128 (m % 256)) e

pub held-lock : (x : BlockBytes) (i t : ℕ) (v : Option ℕ) → is_held (lock_slot x i t v) ≡ is_held x
unfolding lock_slot
held-lock x i t v = held-put x i (locked_slot t v (slot_at x i))

pub held-end : (take : Bool) (f : ℕ → Bool) (x : BlockBytes) → is_held (end_slots take f x) ≡ is_held x
unfolding is_held end_slots ended_byte
held-end take f x = ap (λ (m : ℕ). leb 128 (m % 256)) (byte-in _ 0 (omega arith))

-- ---- five bytes and their number

number-path : {a b c d e a' b' c' d' e' : ℕ} → a ≡ a' → b ≡ b' → c ≡ c' → d ≡ d' → e ≡ e' → number_of a b c d e ≡ number_of a' b' c' d' e'
number-path p q r s t = λ i. number_of (p i) (q i) (r i) (s i) (t i)

number-of-bytes : (n : ℕ) → n < 2 ^ 40 → number_of (byte_of n 0) (byte_of n 1) (byte_of n 2) (byte_of n 3) (byte_of n 4) ≡ n
number-of-bytes n h = omega arith

byte-byte : (n k : ℕ) → byte_of n k % 256 ≡ byte_of n k
byte-byte n zero = omega arith
byte-byte n (suc zero) = omega arith
byte-byte n (suc (suc zero)) = omega arith
byte-byte n (suc (suc (suc zero))) = omega arith
byte-byte n (suc (suc (suc (suc k)))) = omega arith

-- The word of a slot, from its five bytes.
pub word-by : (x : BlockBytes) (i : ℕ) (f : ℕ → ℕ) → ((k : ℕ) → k < slot_size → byte_in x (slot_start i + k) % 256 ≡ f k)
    → word_at x i ≡ number_of (f 0) (f 1) (f 2) (f 3) (f 4)
unfolding word_at
word-by x i f h =
    let e : slot_start i ≡ slot_start i + 0 = omega arith in
    number-path (ap (λ (j : ℕ). byte_in x j % 256) e ∙ h 0 (omega arith)) (h 1 (omega arith)) (h 2 (omega arith)) (h 3 (omega arith)) (h 4 (omega arith))

-- The word of a slot whose five bytes are those of a number, and one whose bytes are those of another block.
word-is : (x : BlockBytes) (i n : ℕ) → n < 2 ^ 40 → ((k : ℕ) → k < slot_size → byte_in x (slot_start i + k) ≡ byte_of n k) → word_at x i ≡ n
word-is x i n hn h =
    word-by x i (byte_of n) (λ k l. ap (λ (m : ℕ). m % 256) (h k l) ∙ byte-byte n k) ∙ number-of-bytes n hn

pub word_same : (x y : BlockBytes) (i : ℕ) → ((k : ℕ) → k < slot_size → byte_in x (slot_start i + k) ≡ byte_in y (slot_start i + k)) → word_at x i ≡ word_at y i
word_same x y i h =
    let f : ℕ → ℕ = λ k. byte_in y (slot_start i + k) % 256 in
    word-by x i f (λ k l. ap (λ (m : ℕ). m % 256) (h k l)) ∙ sym (word-by y i f (λ k l. refl))

pub slot-fresh : (i : ℕ) → i < slot_count → slot_at fresh_block i ≡ slot_of 0
slot-fresh i hi = ap slot_of (word-is fresh_block i 0 (omega arith) (λ k l. byte-in _ (slot_start i + k) (omega arith) ∙ rw (ne_eqb (slot_start i + k) 0 (λ e. omega arith)) (zeros k)))
  where
    zeros : (k : ℕ) → 0 ≡ byte_of 0 k
    zeros zero = refl
    zeros (suc zero) = refl
    zeros (suc (suc zero)) = refl
    zeros (suc (suc (suc zero))) = refl
    zeros (suc (suc (suc (suc k)))) = refl

-- ---- a slot that is put

-- Byte j lies in slot i.
abbrev pub in_slot : ℕ → ℕ → Bool
in_slot i j = leb (slot_start i) j && ltb j (slot_start i + slot_size)

pub put-at : (x : BlockBytes) (i : ℕ) (s : Slot) (j : ℕ) → j < block_size
    → byte_in (put_slot x i s) j ≡ cond (in_slot i j) (byte_of (word_of s) (j - slot_start i)) (byte_in x j)
unfolding put_slot
put-at x i s j h = byte-in _ j h

put_in : (x : BlockBytes) (i k : ℕ) (s : Slot) → i < slot_count → k < slot_size → byte_in (put_slot x i s) (slot_start i + k) ≡ byte_of (word_of s) k
put_in x i k s hi hk =
    let j : ℕ = slot_start i + k in
    let e : j - slot_start i ≡ k = omega arith in
    put-at x i s j (omega arith) ∙ rw (le-leb (slot_start i) j (omega arith), lt-ltb j (slot_start i + slot_size) (omega arith), e)

put-out : (x : BlockBytes) (i q k : ℕ) (s : Slot) → q ≢ i → q < slot_count → k < slot_size
    → byte_in (put_slot x i s) (slot_start q + k) ≡ byte_in x (slot_start q + k)
put-out x i q k s d hq hk = put-at x i s j (omega arith) ∙ rw (never_true (in_slot i j) in_one)
  where
    j : ℕ
    j = slot_start q + k

    in_one : in_slot i j ≡ true → ⊥
    in_one y =
        let a : slot_start i ≤ j = leb-true (slot_start i) j (and_l (leb (slot_start i) j) (ltb j (slot_start i + slot_size)) y) in
        let b : j < slot_start i + slot_size = ltb-true j (slot_start i + slot_size) (and_r (leb (slot_start i) j) (ltb j (slot_start i + slot_size)) y) in
        d (omega arith)

pub slot-put : (x : BlockBytes) (i q : ℕ) (s : Slot) → i < slot_count → q < slot_count → InRange s
    → slot_at (put_slot x i s) q ≡ cond (eqb q i) s (slot_at x q)
slot-put x i q s hi hq h = go (split (eqb q i))
  where
    go : (eqb q i ≡ true) ⊎ (eqb q i ≡ false) → slot_at (put_slot x i s) q ≡ cond (eqb q i) s (slot_at x q)
    go (inl p) =
        let e : q ≡ i = eqb-true q i p in
        rw (p, e) (ap slot_of (word-is (put_slot x i s) i (word_of s) (word_lt s h) (λ k l. put_in x i k s hi l)) ∙ slot-of-word s h)
    go (inr p) = rw p (ap slot_of (word_same (put_slot x i s) x q (λ k l. put-out x i q k s (eqb-false q i p) hq l)))

pub slot-lock : (x : BlockBytes) (i q t : ℕ) (v : Option ℕ) → i < slot_count → q < slot_count → t < tran_bound → (entry_of v).value < value_bound
    → slot_at (lock_slot x i t v) q ≡ cond (eqb q i) (locked_slot t v (slot_at x i)) (slot_at x q)
unfolding lock_slot
slot-lock x i q t v hi hq ht hv =
    slot-put x i q (locked_slot t v (slot_at x i)) hi hq (locked-in-range t v (slot_at x i) ht hv (slot-in-range (word_at x i)))

-- A slot that is locked twice the same is locked once.
put-again : (x : BlockBytes) (i : ℕ) (s : Slot) → put_slot (put_slot x i s) i s ≡ put_slot x i s
put-again x i s = block-ext (put_slot (put_slot x i s) i s) (put_slot x i s) (λ j h. put-at (put_slot x i s) i s j h ∙ again j h (split (in_slot i j)))
  where
    again : (j : ℕ) → j < block_size → (in_slot i j ≡ true) ⊎ (in_slot i j ≡ false)
        → cond (in_slot i j) (byte_of (word_of s) (j - slot_start i)) (byte_in (put_slot x i s) j) ≡ byte_in (put_slot x i s) j
    again j h (inl p) = rw p (sym (put-at x i s j h ∙ rw p))
    again j h (inr p) = rw p

pub lock-again : (x : BlockBytes) (i t : ℕ) (v : Option ℕ) → i < slot_count → t < tran_bound → (entry_of v).value < value_bound
    → lock_slot (lock_slot x i t v) i t v ≡ lock_slot x i t v
unfolding lock_slot
lock-again x i t v hi ht hv =
    let e : slot_at (lock_slot x i t v) i ≡ locked_slot t v (slot_at x i) = slot-lock x i i t v hi hi ht hv ∙ rw (eqb-self i) in
    ap (λ (s : Slot). put_slot (lock_slot x i t v) i (locked_slot t v s)) e ∙ put-again x i (locked_slot t v (slot_at x i))

-- ---- slots whose transaction ended

pub ended_at : (take : Bool) (f : ℕ → Bool) (x : BlockBytes) (i j : ℕ) → slot_start i ≤ j → j < slot_start i + slot_size
    → ended_byte take f x j ≡ cond (f (slot_at x i).lock) (byte_of (word_of (freed_slot take (slot_at x i))) (j - slot_start i)) (byte_in x j)
unfolding ended_byte
ended_at take f x i j h k =
    let d : (j - 1) / slot_size ≡ i = omega arith in
    rw (lt-ltb 0 j (omega arith), d)

-- a block in which none of them locks a slot stays as it is
ended-none : (take : Bool) (f : ℕ → Bool) (x : BlockBytes) (j : ℕ) → any_picked f x ≡ false → j < block_size → ended_byte take f x j ≡ byte_in x j
unfolding ended_byte any_picked
ended-none take f x zero h p = refl
ended-none take f x (suc j) h p =
    let i : ℕ = (suc j - 1) / slot_size in
    let e : f (slot_at x i).lock ≡ false = below_none slot_count (is_picked f x) i h (omega arith) in
    ap (λ (t : Bool). cond (ltb 0 (suc j) && t) (byte_of (word_of (freed_slot take (slot_at x i))) (suc j - slot_start i)) (byte_in x (suc j))) e
    ∙ ap (λ (t : Bool). cond t (byte_of (word_of (freed_slot take (slot_at x i))) (suc j - slot_start i)) (byte_in x (suc j))) (and-false (ltb 0 (suc j)))

pub end_none : (take : Bool) (f : ℕ → Bool) (x : BlockBytes) → any_picked f x ≡ false → end_slots take f x ≡ x
unfolding end_slots
end_none take f x h = block-ext (end_slots take f x) x (λ j p. byte-in (ended_byte take f x) j p ∙ ended-none take f x j h p)

pub slot-end : (take : Bool) (f : ℕ → Bool) (x : BlockBytes) (i : ℕ) → i < slot_count
    → slot_at (end_slots take f x) i ≡ cond (f (slot_at x i).lock) (freed_slot take (slot_at x i)) (slot_at x i)
unfolding end_slots
slot-end take f x i hi = go (split (f (slot_at x i).lock))
  where
    s : Slot
    s = freed_slot take (slot_at x i)

    range : InRange s
    range = freed-in-range take (slot_at x i) (slot-in-range (word_at x i))

    at : (k : ℕ) → k < slot_size → byte_in (end_slots take f x) (slot_start i + k) ≡ cond (f (slot_at x i).lock) (byte_of (word_of s) k) (byte_in x (slot_start i + k))
    at k l =
        let e : slot_start i + k - slot_start i ≡ k = omega arith in
        byte-in (ended_byte take f x) (slot_start i + k) (omega arith) ∙ ended_at take f x i (slot_start i + k) (omega arith) (omega arith)
        ∙ ap (λ (m : ℕ). cond (f (slot_at x i).lock) (byte_of (word_of s) m) (byte_in x (slot_start i + k))) e

    go : (f (slot_at x i).lock ≡ true) ⊎ (f (slot_at x i).lock ≡ false)
        → slot_at (end_slots take f x) i ≡ cond (f (slot_at x i).lock) s (slot_at x i)
    go (inl p) = rw p (ap slot_of (word-is (end_slots take f x) i (word_of s) (word_lt s range) (λ k l. at k l ∙ rw p)) ∙ slot-of-word s range)
    go (inr p) = rw p (ap slot_of (word_same (end_slots take f x) x i (λ k l. at k l ∙ rw p)))
