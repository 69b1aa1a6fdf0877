-- What the reader finds in an image, and what it looks at byte by byte. Assumes nothing.
use Rattle.std.specs.Prelude.{Result, IfOk, ◌≡◌, Bool, ◌&&◌, ◌||◌, cond, List, [], ◌∷◌, ℕ, zero, suc, ◌%◌, ◌*◌, ◌/◌, ◌+◌, ◌-◌, eqb, leb, ltb, get_or, length}
use Rattle.std.specs.Borrow.{Bor}
use Rattle.std.specs.Int.Bits.{bit_and}
use Rattle.lists.specs.Tests.{all_below}
use Rattle.image.specs.Layout.{block_count, control_size, most_placed, pairs_size}
use Rattle.mask.specs.Masks.{Byte, byte, is_within, size}
use Rattle.mask.specs.Pairs.{are_pairs_of, is_pair_of, pair_at}
use Rattle.control.specs.ControlBytes.{control_of, count_in, failed_at, field, front_part, home_byte, home_in, homes_at, homes_end}
use Rattle.control.specs.ControlBytes.{last_mask_at, marks_at, masks_at, pairs_in, serial_at, serial_end, stopped_in, table_mark_in, tail_at, working_at}
use Rattle.control.specs.Serials.{serial_in, serial_most}
use Rattle.control.specs.Meaning.{Is, free_marks}
use Rattle.control_form.specs.ControlForm.{chain_ok, form_refusal, home_ok, is_safe, members_ok}
use Rattle.control.specs.declared.Control.{Control}
use Rattle.refusals.specs.declared.Refusal.{Refusal}
use Rattle.refusals.specs.Refusals.{row_of}

-- Bytes of a word, and half of them.
abbrev pub word_size : ℕ
word_size = 8

abbrev pub half_size : ℕ
half_size = 4

-- The transactions' bytes fill two words that share a byte: where the first ends, and where the second starts.
abbrev pub first_end : ℕ
first_end = homes_at + word_size

abbrev pub second_at : ℕ
second_at = homes_end - word_size

-- The last word: its first bytes are the serial's.
abbrev pub last_at : ℕ
last_at = control_size - word_size

-- Every number from a on and below e passes the test.
unfoldable pub all_from : ℕ → ℕ → (ℕ → Bool) → Bool
all_from a e f = all_below e (λ n. ltb n a || f n)

-- Byte n is zero.
unfoldable pub is_zero_at : List ℕ → ℕ → Bool
is_zero_at l n = eqb (get_or l n 0) 0

-- Byte n is a transaction's as it is written: all zero when not open, and else zero behind the home card.
unfoldable pub is_home_at : List ℕ → ℕ → Bool
is_home_at l n = eqb (get_or l n 0) (home_byte (home_in (get_or l n 0)))

-- If byte n is open, the store is not stopped and its home works.
unfoldable pub home_ok_at : Bool → List ℕ → ℕ → Bool
home_ok_at stopped l n = home_ok stopped (byte (get_or l working_at 0)) (home_in (get_or l n 0))

-- Both of byte n, with the stopped bit that the bytes have.
unfoldable pub home_fits_at : List ℕ → ℕ → Bool
home_fits_at l n = is_home_at l n && home_ok_at (stopped_in (get_or l 0 0)) l n

-- No placement that is not there has a mark, and none has both.
unfoldable pub marks_ok : ℕ → ℕ → Bool
marks_ok count marks = eqb (bit_and marks (free_marks count)) 0 && eqb (bit_and (marks / 16) (marks % 16)) 0

-- The zero fields that are no transaction's are zero.
unfoldable pub other_zeros : List ℕ → Bool
other_zeros l = eqb (get_or l 0 0 % field) 0
    && (all_from (masks_at + count_in (get_or l 0 0)) working_at (is_zero_at l)
    && (marks_ok (count_in (get_or l 0 0)) (get_or l marks_at 0)
    && all_from serial_end control_size (is_zero_at l)))

-- The clauses on a mask: its members, and, if the store is not stopped, that it is safe.
unfoldable pub placement_ok : Bool → Byte → Byte → Byte → Bool
placement_ok stopped working failed m = members_ok working failed m && (stopped || is_safe working failed m)

-- Mask i that bytes show.
abbrev pub mask_at : List ℕ → ℕ → Byte
mask_at l i = byte (get_or l (masks_at + i) 0)

-- A clause on the working and the failed cards and a mask, of mask i.
unfoldable pub mask_test : (Byte → Byte → Byte → Bool) → List ℕ → ℕ → Bool
mask_test f l i = f (byte (get_or l working_at 0)) (byte (get_or l failed_at 0)) (mask_at l i)

-- The n masks that f gives, the last first.
abbrev pub masks_back : (ℕ → Byte) → ℕ → List Byte
masks_back f zero = []
masks_back f (suc n) = f n ∷ masks_back f n

-- The clause on more placements than the limit, and that on the newest.
unfoldable pub chain_in : List ℕ → Bool
chain_in l =
    chain_ok most_placed (byte (get_or l failed_at 0)) (mask_at l (count_in (get_or l 0 0) - 1))
    (masks_back (mask_at l) (count_in (get_or l 0 0) - 1))

unfoldable pub newest_in : List ℕ → Bool
newest_in l = stopped_in (get_or l 0 0) || is_within (byte (get_or l (last_mask_at (count_in (get_or l 0 0))) 0)) (byte (get_or l working_at 0))

-- The serial that bytes show, and the clause on it.
abbrev pub serial_of : List ℕ → ℕ
serial_of l = serial_in (λ j. get_or l (serial_at + j) 0)

unfoldable pub serials_in : List ℕ → Bool
serials_in l = leb (count_in (get_or l 0 0)) (serial_of l)
    && leb (serial_of l + size (byte (get_or l (last_mask_at (count_in (get_or l 0 0))) 0))) serial_most

-- What the bytes t behind the tables keep for placement i of the bytes l before them is zero where it has no mark for a
-- table, and else such pairs.
unfoldable pub kept_ok_at : List ℕ → (ℕ → ℕ) → ℕ → Bool
kept_ok_at l t i =
    cond (table_mark_in (get_or l marks_at 0) i) (are_pairs_of (mask_at l i) (pairs_in t i))
    (all_below pairs_size (λ j. eqb (t (i * pairs_size + j)) 0))

-- A test of pairs may be asked of the pairs of a placement, and answers whether each is two different members of the mask.
abbrev pub TestsPairs : (Bor (List ℕ) → ℕ → Type 0) → (Bor (List ℕ) → ℕ → Bool → Type 0) → Type 0
TestsPairs pre post = (p : Bor (List ℕ)) (m : ℕ) → length p.now ≡ pairs_size
    → pre p m × ((r : Bool) → post p m r → r ≡ all_below block_count (λ b. is_pair_of (byte m) (pair_at (λ j. get_or p.now j 0) b)))

-- What reading an image finds: row 1 or 2 of the refusal table, or else the control part that the bytes show, without its
-- pairs.
pub record Reads (image : List ℕ) (r : Result Control Refusal) : Type 0 where
  pub refusal_is : row_of r ≡ form_refusal image
  pub good : IfOk r (λ k. Is k (front_part (control_of (λ n. get_or image n 0) (tail_at image))))
