-- The bytes of the control part: RULES, "The image". 32 of them stand before the tables:
--
--   byte       what
--   0          stopped 1 bit, count of active placements 3, zero 4
--   1 to 4     masks of the active placements, oldest first; unused ones zero
--   5, 6       masks of working cards, of failed cards
--   7          marks of the active placements, oldest first, highest bits first: by rails 4 bits, by table 4
--   8 to 22    transactions 1 to 15, each: open 1 bit, home card 3, zero 4; all zero when not open
--   23 to 25   serial of the newest placement, most significant byte first
--   26 to 31   zero
--
-- Behind the tables are the pairs of the active placements that are by table, oldest first, 48 bytes a placement; zero
-- for one that is not by table or not there. Assumes nothing.
use Rattle.std.specs.Prelude.{Bool, ◌&&◌, cond, false, true, List, [], ◌∷◌, ℕ, zero, suc, ◌+◌, ◌-◌, ◌*◌, ◌/◌, ◌%◌, leb, ltb, eqb, length, get_or}
use Rattle.std.proofs.Math.Option.{Option, some, none}
use Rattle.image.specs.Layout.{most_active, pairs_size, tail_start, tran_bound, tran_count}
use Rattle.mask.specs.Masks.{Byte, bit_of, byte}
use Rattle.mask.specs.Pairs.{Pairs, pairs_byte, pairs_of}
use Rattle.mask.specs.Placements.{Choice, Placement, by_rails, by_table, chained, is_by_rails, is_by_table, pairless}
use Rattle.method.specs.ControlPart.{ControlPart, active, part_by}
use Rattle.control.specs.Serials.{serial_byte, serial_in}

-- This cabinet has one setting: two copies, 64 blocks.
abbrev pub Setting : Type 0
Setting = Unit {0}

-- The newest placement's serial, 24 bits.
abbrev pub Serial : Type 0
Serial = ℕ

abbrev pub Part : Type 0
Part = ControlPart Byte Placement Setting Serial

-- The control part without the pairs of its placements: what the bytes before the tables tell.
abbrev pub front_part : Part → Part
front_part = part_by pairless (λ σ. σ) (λ ν. ν)

-- ---- where the fields start, each behind the one before
-- The first byte, 0, has the stopped bit and the count.
abbrev pub masks_at : ℕ
masks_at = 1

abbrev pub working_at : ℕ
working_at = masks_at + most_active

abbrev pub failed_at : ℕ
failed_at = working_at + 1

abbrev pub marks_at : ℕ
marks_at = failed_at + 1

abbrev pub homes_at : ℕ
homes_at = marks_at + 1

abbrev pub homes_end : ℕ
homes_end = homes_at + tran_count

abbrev pub serial_at : ℕ
serial_at = homes_end

abbrev pub serial_size : ℕ
serial_size = 3

-- The bytes from here on are zero.
abbrev pub serial_end : ℕ
serial_end = serial_at + serial_size

-- The byte of transaction t.
abbrev pub home_at : ℕ → ℕ
home_at t = homes_at + (t - 1)

-- ---- bits of a byte
-- The highest bit: stopped in the first byte, open in a transaction's byte.
abbrev pub stopped_bit : ℕ
stopped_bit = 128

abbrev pub open_bit : ℕ
open_bit = 128

-- The weight of the three bits behind it, and their bound: the count, or the home card.
abbrev pub field : ℕ
field = 16

abbrev pub field_bound : ℕ
field_bound = 8

-- ---- writing
-- The first byte: the stopped bit and the count.
abbrev pub first_byte : Bool → ℕ → ℕ
first_byte stopped count = cond stopped stopped_bit 0 + count * field

abbrev pub mask_bytes : List Placement → List ℕ
mask_bytes [] = []
mask_bytes (p ∷ l) = p.mask.0 ∷ mask_bytes l

-- The marks of placements: that for rails of the first in bit i, of the next in the bit behind it; those for tables as
-- many bits lower as there are placements at most.
abbrev pub marks_from : ℕ → List Placement → ℕ
marks_from i [] = 0
marks_from i (p ∷ l) =
    cond (is_by_rails p.choice) (bit_of i) 0 + (cond (is_by_table p.choice) (bit_of (most_active + i)) 0 + marks_from (suc i) l)

-- A transaction's byte: its home card, if it is open.
abbrev pub home_byte : Option ℕ → ℕ
home_byte none = 0
home_byte (some h) = open_bit + h * field

-- Byte n of the control part: a field's bytes are those before the next field.
unfoldable pub control_byte : Part → ℕ → ℕ
control_byte k n =
    cond (ltb n masks_at) (first_byte k.stopped (suc (length k.older))) (
    cond (ltb n working_at) (get_or (mask_bytes (active k)) (n - masks_at) 0) (
    cond (ltb n failed_at) k.working.0 (
    cond (ltb n marks_at) k.failed.0 (
    cond (ltb n homes_at) (marks_from 0 (active k)) (
    cond (ltb n homes_end) (home_byte (k.home (suc (n - homes_at)))) (
    cond (ltb n serial_end) (serial_byte k.serial (n - serial_at)) 0))))))

-- Byte j of what is kept for a placement: of its pairs, if it has a table.
abbrev pub kept_byte : Choice → ℕ → ℕ
kept_byte chained j = 0
kept_byte by_rails j = 0
kept_byte (by_table x) j = pairs_byte x j

-- The same of number i of these placements; 0 where there is none.
abbrev pub kept_of : List Placement → ℕ → ℕ → ℕ
kept_of [] i j = 0
kept_of (p ∷ l) zero j = kept_byte p.choice j
kept_of (p ∷ l) (suc i) j = kept_of l i j

-- Byte n behind the tables.
unfoldable pub tail_of : List Placement → ℕ → ℕ
tail_of l n = kept_of l (n / pairs_size) (n % pairs_size)

abbrev pub tail_byte : Part → ℕ → ℕ
tail_byte k = tail_of (active k)

-- ---- reading
-- The bytes behind the tables of an image.
abbrev pub tail_at : List ℕ → ℕ → ℕ
tail_at image n = get_or image (tail_start + n) 0

-- The stopped bit and the count of active placements in the first byte.
abbrev pub stopped_in : ℕ → Bool
stopped_in n = leb stopped_bit n

abbrev pub count_in : ℕ → ℕ
count_in n = n / field % field_bound

-- The home card in a transaction's byte, if it is open.
abbrev pub home_in : ℕ → Option ℕ
home_in n = cond (leb open_bit n) (some (n / field % field_bound)) none

-- The same, of a number that is a transaction's.
abbrev pub home_of : ℕ → ℕ → Option ℕ
home_of t n = cond (ltb 0 t && ltb t tran_bound) (home_in n) none

-- Bit i of the byte of the marks. Placement i has its mark for rails there, and that for a table as many bits lower as
-- there are placements at most.
abbrev pub mark_in : ℕ → ℕ → Bool
mark_in n i = eqb (n / bit_of i % 2) 1

abbrev pub table_mark_in : ℕ → ℕ → Bool
table_mark_in n i = mark_in n (most_active + i)

-- The choice that marks for a table and for rails stand for. What is written of a placement has one mark at most, so that
-- bytes with both are not those of the control part that they show.
abbrev pub chosen_by : Bool → Bool → Pairs → Choice
chosen_by true rails x = by_table x
chosen_by false true x = by_rails
chosen_by false false x = chained

-- The placement that a mask's byte, the byte of the marks and pairs keep as number i.
abbrev pub kept_as : ℕ → ℕ → ℕ → Pairs → Placement
kept_as i mask marks x = record { mask = byte mask; choice = chosen_by (table_mark_in marks i) (mark_in marks i) x }

-- The pairs of placement i that the bytes behind the tables have.
abbrev pub pairs_in : (ℕ → ℕ) → ℕ → Pairs
pairs_in t i = pairs_of (λ j. t (i * pairs_size + j))

-- The first n placements that f gives.
abbrev pub placements_in : (ℕ → Placement) → ℕ → List Placement
placements_in f zero = []
placements_in f (suc n) = f 0 ∷ placements_in (λ i. f (suc i)) n

-- Placement i of those that bytes before and behind the tables show, oldest first.
abbrev pub placement_at : (ℕ → ℕ) → (ℕ → ℕ) → ℕ → Placement
placement_at g t i = kept_as i (g (masks_at + i)) (g marks_at) (pairs_in t i)

-- The mask of the newest of as many placements.
abbrev pub last_mask_at : ℕ → ℕ
last_mask_at count = masks_at + count - 1

-- The control part that they show.
unfoldable pub control_of : (ℕ → ℕ) → (ℕ → ℕ) → Part
control_of g t = record {
  stopped = stopped_in (g 0);
  older = placements_in (placement_at g t) (count_in (g 0) - 1);
  newest = kept_as (count_in (g 0) - 1) (g (last_mask_at (count_in (g 0)))) (g marks_at) (pairs_in t (count_in (g 0) - 1));
  working = byte (g working_at);
  failed = byte (g failed_at);
  home = λ t. home_of t (g (home_at t));
  setting = tt;
  serial = serial_in (λ j. g (serial_at + j));
}
