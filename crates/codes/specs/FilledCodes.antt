-- Answers of calls that fill lent bytes, as numbers of 32 bits, for callers in other languages. Assumes nothing.
use Rattle.std.specs.Prelude.{◌<◌, ℕ, ◌≡◌}
use Rattle.cabinet_rules.specs.Converting.{Filling, buffer_after, convert_answer, longer, stamped_image, unfilled, written}
use Rattle.cabinet_rules.specs.Delivery.{Delivery, resuming}
use Rattle.cabinet_rules.specs.Images.{Image}
use Rattle.cabinet_rules.specs.Retired.{below_wire, by_tables}
use Rattle.codes.specs.Codes.{coded, number_of_kind, number_range}
use Rattle.codes.specs.declared.Kind.TheVariants.{Refused, Written}

-- The kind, beside those of the other answers, and the number. A refusal has the kind that it has there.
unfoldable pub filled_kind : Filling → ℕ
filled_kind (written n) = number_of_kind Written
filled_kind (unfilled n) = number_of_kind Refused

unfoldable pub filled_number : Filling → ℕ
filled_number (written n) = n
filled_number (unfilled n) = n

abbrev pub filled_code : Filling → ℕ
filled_code f = coded (filled_kind f) (filled_number f)

-- Each such answer, of those whose number has 16 bits, has a code of its own.
abbrev pub OneFilledCodeEach : Type 0
OneFilledCodeEach =
    (a b : Filling) → filled_number a < number_range → filled_number b < number_range → filled_code a ≡ filled_code b → a ≡ b

-- The converter of delivery E's images to such of delivery D was given an older image and lent a buffer; it answered with
-- this code and left the buffer so.
pub record CodedConversion (E D : Delivery) (carry : Image → Image) (older lent : Image) (code : ℕ) (left : Image) : Type 0 where
  pub answers : code ≡ filled_code (convert_answer E D older lent)
  pub leaves : left ≡ buffer_after E D carry older lent

-- That of images from before A.6; that of images from before A.7.
abbrev pub CodedPairs : Image → Image → ℕ → Image → Type 0
CodedPairs = CodedConversion below_wire by_tables longer

abbrev pub CodedStamps : Image → Image → ℕ → Image → Type 0
CodedStamps = CodedConversion by_tables resuming stamped_image
