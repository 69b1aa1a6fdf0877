-- What the code's struct means: the rules' control part. Assumes nothing.
use Rattle.std.specs.Prelude.{◌≡◌, cond, List, [], ◌∷◌, ℕ, zero, suc, ◌+◌, ◌-◌, ◌*◌, ◌/◌, ◌%◌, ◌^◌, ◌≤◌, ltb, get_or, slice_set}
use Rattle.std.specs.Int.Bits.{bit_and, bit_or}
use Rattle.lists.specs.Tabulate.{tabulate}
use Rattle.lists.specs.Segments.{splice}
use Rattle.image.specs.Layout.{control_size, most_active, pairs_size, tail_size, tail_start, tran_count}
use Rattle.mask.specs.Masks.{byte}
use Rattle.mask.specs.Pairs.{no_pairs}
use Rattle.mask.specs.Placements.{Placement}
use Rattle.method.specs.ControlPart.{is_card}
use Rattle.control.specs.ControlBytes.{Part, control_byte, count_in, failed_at, home_in, home_of, homes_at, kept_as}
use Rattle.control.specs.ControlBytes.{marks_at, masks_at, placements_in, serial_at, stopped_in, working_at}
use Rattle.control.specs.Serials.{serial_in}
use Rattle.control.specs.declared.Control.{Control}

-- The n elements of l from index a, written out.
abbrev pub row_of : List ℕ → ℕ → ℕ → List ℕ
row_of l a zero = []
row_of l a (suc n) = get_or l a 0 ∷ row_of l (suc a) n

-- The struct that is read off bytes.
unfoldable pub struct_of : List ℕ → Control
struct_of l = record {
  stopped = stopped_in (get_or l 0 0);
  count = count_in (get_or l 0 0);
  masks = row_of l masks_at most_active;
  working = get_or l working_at 0;
  failed = get_or l failed_at 0;
  marks = get_or l marks_at 0;
  homes = row_of l homes_at tran_count;
  serial = serial_in (λ j. get_or l (serial_at + j) 0);
}

-- Mask i, and the mask of the newest placement: the last that counts.
abbrev pub mask_in : Control → ℕ → ℕ
mask_in k i = get_or k.masks i 0

abbrev pub newest_mask : Control → ℕ
newest_mask k = mask_in k (k.count - 1)

-- Placement i: its mask and its marks. The struct has no pairs.
abbrev pub placement_in : Control → ℕ → Placement
placement_in k i = kept_as i (mask_in k i) k.marks no_pairs

-- The meaning of the struct: a control part without pairs. Masks and marks from the count on, and what the byte of a closed
-- transaction has, mean nothing.
unfoldable pub meaning : Control → Part
meaning k = record {
  stopped = k.stopped;
  older = placements_in (placement_in k) (k.count - 1);
  newest = placement_in k (k.count - 1);
  working = byte k.working;
  failed = byte k.failed;
  home = λ t. home_of t (get_or k.homes (t - 1) 0);
  setting = tt;
  serial = k.serial;
}

-- The count is 1 to 4.
pub record Counted (k : Control) : Type 0 where
  pub some : 1 ≤ k.count
  pub few : k.count ≤ most_active

-- The struct is counted, and means this control part.
pub record Is (k : Control) (part : Part) : Type 0 where
  pub counted : Counted k
  pub means : meaning k ≡ part

-- A transaction's byte after what was begun at card c closed.
unfoldable pub kept_home : ℕ → ℕ → ℕ
kept_home c b = cond (is_card (home_in b) c) 0 b

-- The marks of placements that are not there, where this is the count: those for rails and those for tables.
unfoldable pub free_marks : ℕ → ℕ
free_marks count = 15 / 2 ^ count * 17

-- Marks as they are written: none of a placement that is not there, and none for rails beside one for a table.
unfoldable pub clean_marks : ℕ → ℕ → ℕ
clean_marks count marks = bit_and (bit_and marks (255 - marks % 16 * 16)) (255 - free_marks count)

-- The struct with one mask more, which has this mark, and with the next serial; marks that mean nothing are gone.
abbrev pub with_mask : Control → ℕ → ℕ → Control
with_mask k mask mark = record {
  stopped = k.stopped;
  count = k.count + 1;
  masks = slice_set k.masks k.count mask;
  working = k.working;
  failed = k.failed;
  marks = bit_or (clean_marks k.count k.marks) mark;
  homes = k.homes;
  serial = suc k.serial;
}

-- The image with other control bytes before the tables; with other bytes behind them.
unfoldable pub put_control : List ℕ → Part → List ℕ
put_control image part = splice image 0 (tabulate control_size (control_byte part))

unfoldable pub put_tail : List ℕ → (ℕ → ℕ) → List ℕ
put_tail image f = splice image tail_start (tabulate tail_size f)

-- Bytes behind the tables that have the pairs of placement i first, and nothing else.
unfoldable pub only_pairs : (ℕ → ℕ) → ℕ → ℕ → ℕ
only_pairs t i n = cond (ltb n pairs_size) (t (i * pairs_size + n)) 0
