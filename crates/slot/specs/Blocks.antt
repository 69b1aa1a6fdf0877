-- A block of 41 bytes: the highest bit of the first says that the card holds it; eight slots follow. Assumes nothing.
use Rattle.std.specs.Prelude.{◌≡◌, Bool, not, ◌&&◌, cond, List, ℕ, zero, suc, ◌+◌, ◌-◌, ◌*◌, ◌/◌, ◌%◌, ◌^◌, leb, ltb, eqb, length, get_or}
use Rattle.std.proofs.Math.Option.{Option}
use Rattle.std.specs.Int.Bits.{bit_and, bit_or}
use Rattle.lists.specs.Tests.{any_below, count_below, sum_below}
use Rattle.lists.specs.Tabulate.{tabulate}
use Rattle.lists.proofs.Tabulate.{length-tabulate}
use Rattle.image.specs.Layout.{block_size, slot_count, slot_size, slot_start, tran_bound}
use Rattle.slot.specs.declared.Slot.{Slot}
use Rattle.slot.specs.Words.{slot_of, word_of, locked_slot, freed_slot}

-- The 41 bytes of a block; byte j of it; the block with these bytes.
abbrev pub BlockBytes : Type 0
BlockBytes = (l : List ℕ) × (length l ≡ block_size)

abbrev pub byte_in : BlockBytes → ℕ → ℕ
byte_in x j = get_or x.0 j 0

abbrev pub block_of_bytes : (ℕ → ℕ) → BlockBytes
block_of_bytes f = (tabulate block_size f, length-tabulate block_size f)

-- The block with the bytes of a list of 41.
abbrev pub of_list : List ℕ → BlockBytes
of_list l = block_of_bytes (λ j. get_or l j 0)

-- Not held, all zero; held (first byte 80 hex), all else zero.
abbrev pub empty_block : BlockBytes
empty_block = block_of_bytes (λ j. 0)

abbrev pub fresh_block : BlockBytes
fresh_block = block_of_bytes (λ j. cond (eqb j 0) 128 0)

-- The highest bit of the first byte says 'held'.
unfoldable pub is_held : BlockBytes → Bool
is_held x = leb 128 (byte_in x 0 % 256)

-- Five bytes as one number, the first byte highest; byte k of such a number.
abbrev pub number_of : ℕ → ℕ → ℕ → ℕ → ℕ → ℕ
number_of a b c d e = (((a * 256 + b) * 256 + c) * 256 + d) * 256 + e

abbrev pub byte_of : ℕ → ℕ → ℕ
byte_of n zero = n / 256 / 256 / 256 / 256 % 256
byte_of n (suc zero) = n / 256 / 256 / 256 % 256
byte_of n (suc (suc zero)) = n / 256 / 256 % 256
byte_of n (suc (suc (suc zero))) = n / 256 % 256
byte_of n (suc (suc (suc (suc k)))) = n % 256

-- The 40 bits of slot i, and the slot that they show.
unfoldable pub word_at : BlockBytes → ℕ → ℕ
word_at x i =
    let s : ℕ = slot_start i in
    number_of (byte_in x s % 256) (byte_in x (s + 1) % 256) (byte_in x (s + 2) % 256) (byte_in x (s + 3) % 256)
    (byte_in x (s + 4) % 256)

abbrev pub slot_at : BlockBytes → ℕ → Slot
slot_at x i = slot_of (word_at x i)

-- The block with another slot i: its five bytes, and no other, are written.
unfoldable pub put_slot : BlockBytes → ℕ → Slot → BlockBytes
put_slot x i s = block_of_bytes (λ j.
    cond (leb (slot_start i) j && ltb j (slot_start i + slot_size)) (byte_of (word_of s) (j - slot_start i)) (byte_in x j))

-- Slot i locked by t with a pending state.
unfoldable pub lock_slot : BlockBytes → ℕ → ℕ → Option ℕ → BlockBytes
lock_slot x i t v = put_slot x i (locked_slot t v (slot_at x i))

-- Byte j after the transactions that f picks have ended: a slot that one of them locks takes or drops its pending
-- state.
unfoldable pub ended_byte : Bool → (ℕ → Bool) → BlockBytes → ℕ → ℕ
ended_byte take f x j =
    let i : ℕ = (j - 1) / slot_size in
    cond (ltb 0 j && f (slot_at x i).lock)
    (byte_of (word_of (freed_slot take (slot_at x i))) (j - slot_start i)) (byte_in x j)

unfoldable pub end_slots : Bool → (ℕ → Bool) → BlockBytes → BlockBytes
end_slots take f x = block_of_bytes (ended_byte take f x)

-- The list of a block's bytes after slot i has ended, if f picks its transaction.
abbrev pub ended_slot : Bool → (ℕ → Bool) → ℕ → List ℕ → List ℕ
ended_slot take f i l = cond (f (slot_at (of_list l) i).lock)
    (put_slot (of_list l) i (freed_slot take (slot_at (of_list l) i))).0 l

-- The list of a block's bytes after the transactions that f picks have ended there, if it is held.
unfoldable pub ended_block : Bool → (ℕ → Bool) → List ℕ → List ℕ
ended_block take f l = cond (is_held (of_list l)) (end_slots take f (of_list l)).0 l

-- A set of transactions as a number: bit t says that t is in it.
unfoldable pub in_set : ℕ → ℕ → Bool
in_set set t = eqb (set / 2 ^ t % 2) 1

-- The set of the numbers below 16 that lack a bit (1, 2, 4 or 8).
abbrev pub lacking : ℕ → ℕ
lacking bit = sum_below tran_bound (λ t. cond (eqb (t / bit % 2) 0) (2 ^ t) 0)

-- The bits that every number of a set has: a bit that no number of the set lacks is one of them.
abbrev pub shared_bit : ℕ → ℕ → ℕ
shared_bit set bit = cond (eqb (bit_and set (lacking bit)) 0) bit 0

unfoldable pub shared_bits : ℕ → ℕ
shared_bits set = shared_bit set 1 + shared_bit set 2 + shared_bit set 4 + shared_bit set 8

-- The numbers f 0, f 1, up to f (2 ^ n - 1), joined bit by bit; the locks of the eight slots, joined.
unfoldable pub joined : ℕ → (ℕ → ℕ) → ℕ
joined zero f = f 0
joined (suc n) f = bit_or (joined n f) (joined n (λ i. f (2 ^ n + i)))

unfoldable pub joined_locks : BlockBytes → ℕ
joined_locks x = joined 3 (λ i. (slot_at x i).lock)

-- Slot i is locked; some slot is locked.
abbrev pub is_locked : BlockBytes → ℕ → Bool
is_locked x i = not (eqb (slot_at x i).lock 0)

unfoldable pub some_locked : BlockBytes → Bool
some_locked x = any_below slot_count (is_locked x)

-- A transaction that f picks locks slot i; one of them locks some slot.
abbrev pub is_picked : (ℕ → Bool) → BlockBytes → ℕ → Bool
is_picked f x i = f (slot_at x i).lock

unfoldable pub any_picked : (ℕ → Bool) → BlockBytes → Bool
any_picked f x = any_below slot_count (is_picked f x)

-- Slot i has a committed value; how many slots have one.
abbrev pub is_committed : BlockBytes → ℕ → Bool
is_committed x i = (slot_at x i).committed.present

unfoldable pub committed_count : BlockBytes → ℕ
committed_count x = count_below slot_count (is_committed x)
