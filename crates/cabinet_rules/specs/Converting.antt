-- The converters of images from before requests A.6 and A.7: RULES, "Images of an earlier length". Assumes nothing.
use Rattle.std.specs.Prelude.{suc, zero, ℕ, eqb, ltb, get_or, length, ◌&&◌, cond, not, []}
use Rattle.std.proofs.Math.Option.{some}
use Rattle.lists.specs.Tabulate.{tabulate}
use Rattle.image.specs.Layout.{image_size_of}
use Rattle.mask.specs.Masks.{has_card}
use Rattle.method.specs.ControlPart.{part_by}
use Rattle.method.specs.Rules.{row, unless_refused}
use Rattle.control.specs.ControlBytes.{Part, control_byte, tail_byte}
use Rattle.control.specs.Stamps.{Stamp, no_stamp, stamp_byte, stamp_of}
use Rattle.cabinet_rules.specs.Delivery.{Delivery, PartOf}
use Rattle.cabinet_rules.specs.Images.{Image, after, block_by, control_by, form_by}
use Rattle.cabinet_rules.specs.Retired.{bare, by_tables, converted_serial, pairs_behind}

-- ---- the images
-- The length of an image from before A.6, and from before A.7.
abbrev pub older_size : ℕ
older_size = image_size_of bare

abbrev pub pairs_image_size : ℕ
pairs_image_size = image_size_of pairs_behind

-- An image from before A.6 at the length of A.6: its bytes, and nothing behind the tables.
abbrev pub longer_byte : Image → ℕ → ℕ
longer_byte g n = cond (ltb n older_size) (get_or g n 0) 0

unfoldable pub longer : Image → Image
longer g = tabulate pairs_image_size (longer_byte g)

-- A control part of A.6 as A.7 has it: with a serial.
abbrev pub with_serial : PartOf by_tables → Part
with_serial = part_by (λ p. p) (λ σ. σ) (λ ν. converted_serial)

-- Every working card gets the stamp of the newest placement; the others have none.
abbrev pub first_stamps : Part → ℕ → Stamp
first_stamps k c = cond (has_card k.working c) (stamp_of k) no_stamp

-- An image of A.6 at its length of today: the control part with a serial, every block as it was, and these stamps.
unfoldable pub stamped_image : Image → Image
stamped_image g =
    after (control_byte k) (tail_byte k) (λ c b. some (block_by pairs_behind g c b)) (λ c. some (stamp_byte (first_stamps k c))) []
  where
    k : Part
    k = with_serial (control_by by_tables g)

-- ---- a converter, of images of delivery E to such of delivery D
-- The answer of a call that fills lent bytes: how many were written, or a refusal.
pub data Filling : Type 0 where
  written : ℕ → Filling
  unfilled : ℕ → Filling

abbrev pub filling_of : ℕ → ℕ → Filling
filling_of zero count = written count
filling_of (suc n) count = unfilled (suc n)

module _ (E D : Delivery) where
  -- Refused 1 where a length is wrong, of the older image or of the buffer that is lent for the longer one; then 2 where
  -- the older image has not the control form of its own delivery. Whether the store has stopped is not asked.
  unfoldable pub convert_refusal : Image → Image → ℕ
  convert_refusal g buffer =
      row 1 (not (eqb (length g) (image_size_of E.memory.layout) && eqb (length buffer) (image_size_of D.memory.layout))) (
      row 2 (not (form_by E g)) 0)

  unfoldable pub convert_answer : Image → Image → Filling
  convert_answer g buffer = filling_of (convert_refusal g buffer) (image_size_of D.memory.layout)

  -- The buffer afterwards: as it was lent where refused, else the older image as it is carried.
  unfoldable pub buffer_after : (Image → Image) → Image → Image → Image
  buffer_after carry g buffer = unless_refused (convert_refusal g buffer) buffer (carry g)
