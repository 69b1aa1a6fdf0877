-- The promise of the converters: their answer and the buffer that they leave are those of the rules. Assumes nothing.
use Rattle.std.specs.Prelude.{◌≡◌, ℕ, Result}
use Rattle.cabinet_rules.specs.Converting.{buffer_after, convert_answer, longer, stamped_image}
use Rattle.cabinet_rules.specs.Delivery.{Delivery, resuming}
use Rattle.cabinet_rules.specs.Images.{Image}
use Rattle.cabinet_rules.specs.Retired.{below_wire, by_tables}
use Rattle.promise.specs.Promise.{shown_filled}
use Rattle.refusals.specs.declared.Refusal.{Refusal}

-- The converter of delivery E's images to such of delivery D was given an older image and lent a buffer; it answered a and
-- left the buffer so.
pub record ConvertDone (E D : Delivery) (carry : Image → Image) (older lent : Image) (a : Result ℕ Refusal) (left : Image) : Type 0 where
  pub answers : shown_filled a ≡ convert_answer E D older lent
  pub leaves : left ≡ buffer_after E D carry older lent

-- That of images from before A.6; that of images from before A.7.
abbrev pub PairsDone : Image → Image → Result ℕ Refusal → Image → Type 0
PairsDone = ConvertDone below_wire by_tables longer

abbrev pub StampsDone : Image → Image → Result ℕ Refusal → Image → Type 0
StampsDone = ConvertDone by_tables resuming stamped_image
