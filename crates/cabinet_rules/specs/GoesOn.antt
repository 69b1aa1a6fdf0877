-- Demand 3 on images that earlier deliveries left: what a store may have come through, and the statements. Assumes
-- nothing.
use Rattle.std.specs.Prelude.{ℕ, length, List, ◌⊎◌, ◌≡◌}
use Rattle.image.specs.Layout.{image_size}
use Rattle.mask.specs.Masks.{Byte}
use Rattle.mask.specs.Placements.{older_from_mask, placed}
use Rattle.method.specs.ControlPart.{part_by}
use Rattle.method.specs.OneRecordList.{plain_after, rules_after, run_plain, zeroed}
use Rattle.method.specs.PlainList.{PlainList, plain_start}
use Rattle.method.specs.Rules.{State, ok, start}
use Rattle.control_form.specs.ControlForm.{form_refusal}
use Rattle.cabinet_rules.specs.Cabinet.{cabinet, rules_of}
use Rattle.cabinet_rules.specs.Claims.{NoStopBy, NoisyCall, NoisyCallBy, image_after, image_after_by, image_calls}
use Rattle.cabinet_rules.specs.Claims.{image_calls_by, run_image}
use Rattle.cabinet_rules.specs.Converting.{convert_refusal, first_stamps, longer, pairs_image_size, stamped_image}
use Rattle.cabinet_rules.specs.Delivery.{Delivery, PartOf, current, resuming}
use Rattle.cabinet_rules.specs.Retired.{base, below_wire, by_tables, converted_serial, two_rails}
use Rattle.cabinet_rules.specs.Images.{Image, answer_by, next_by}

-- ---- a store by a delivery
module _ (D : Delivery) where
  -- A store as calls left it: its image, and beside it the run of the rules and the plain record list, which were fed
  -- the same calls.
  pub record StoreBy : Type 0 where
    pub image : Image
    pub rules : State (rules_of D)
    pub plain : PlainList (rules_of D)

  -- After a start, on memory of any contents.
  abbrev pub started_store : Byte → Image → StoreBy
  started_store m before =
      record { image = next_by D (start m) before; rules = zeroed (rules_of D) m; plain = plain_start (rules_of D) m }

  -- After a list of calls.
  abbrev pub called_store : List (NoisyCallBy D) → StoreBy → StoreBy
  called_store l s = record {
    image = image_after_by D l s.image;
    rules = rules_after (rules_of D) (image_calls_by D l) s.rules;
    plain = plain_after (rules_of D) (image_calls_by D l) s.rules s.plain;
  }

  -- A store that an accepted start left.
  pub record BegunBy (s : StoreBy) : Type 0 where
    pub mask : Byte
    pub before : Image
    pub accepted : answer_by D (start mask) before ≡ ok
    pub is : s ≡ started_store mask before

  -- A running store that D's calls left: D started it, or went on with an earlier one, and none of D's calls since then
  -- stopped it.
  pub record LeftBy (Earlier : StoreBy → Type 0) (s : StoreBy) : Type 0 where
    pub first : StoreBy
    pub begins : BegunBy first ⊎ Earlier first
    pub calls : List (NoisyCallBy D)
    pub runs : NoStopBy D calls first.image
    pub is : s ≡ called_store calls first

  -- An image that D's calls left, whether they stopped the store or not.
  pub record ImageLeftBy (Earlier : Image → Type 0) (g : Image) : Type 0 where
    pub first : Image
    pub begins : ((s : StoreBy) × BegunBy s × (first ≡ s.image)) ⊎ Earlier first
    pub calls : List (NoisyCallBy D)
    pub is : g ≡ image_after_by D calls first

-- ---- a later delivery goes on
-- E is the earlier delivery, D the later one: what a placement and a serial of E are by D, what becomes of the stamps,
-- and of the image: it stays, or a converter lengthens it.
pub record Succession (E D : Delivery) : Type 0 where
  pub older : E.Placement → D.Placement
  pub older_serial : E.Serial → D.Serial
  pub older_stamps : PartOf D → (ℕ → E.memory.Stamp) → ℕ → D.memory.Stamp
  pub carry : Image → Image

module _ (E D : Delivery) (S : Succession E D) where
  -- E's control part as D has it.
  abbrev pub part_now : PartOf E → PartOf D
  part_now = part_by S.older (λ σ. σ) S.older_serial

  -- E's store as D goes on with it: no block and no record changes.
  abbrev pub taken_over : StoreBy E → StoreBy D
  taken_over s = record {
    image = S.carry s.image;
    rules = record {
      control = part_now s.rules.control;
      block = s.rules.block;
      stamp = S.older_stamps (part_now s.rules.control) s.rules.stamp;
    };
    plain = record { records = s.plain.records; control = part_now s.plain.control };
  }

  -- A store that D has from E.
  pub record TakenOver (LeftByE : StoreBy E → Type 0) (s : StoreBy D) : Type 0 where
    pub was : StoreBy E
    pub left : LeftByE was
    pub is : s ≡ taken_over was

-- ---- the deliveries, in their order
-- Running stores that the base's calls left; nothing came before it.
abbrev pub LeftByBase : StoreBy base → Type 0
LeftByBase = LeftBy base (λ s. ⊥)

-- Those that calls by A.1 to A.4 left. The base's placements stay marked 0, and its images as they are.
abbrev pub from_base : Succession base two_rails
from_base = record { older = older_from_mask; older_serial = λ ν. ν; older_stamps = λ k m. m; carry = λ g. g }

abbrev pub LeftByRails : StoreBy two_rails → Type 0
LeftByRails = LeftBy two_rails (TakenOver base two_rails from_base LeftByBase)

-- Those that A.5 has from the earlier ones. All stays as it is.
abbrev pub from_rails : Succession two_rails below_wire
from_rails = record { older = λ p. p; older_serial = λ ν. ν; older_stamps = λ k m. m; carry = λ g. g }

abbrev pub BeforeWire : StoreBy below_wire → Type 0
BeforeWire = TakenOver two_rails below_wire from_rails LeftByRails

-- Those that calls by A.5 left.
abbrev pub LeftByWire : StoreBy below_wire → Type 0
LeftByWire = LeftBy below_wire BeforeWire

-- Those that A.6 has from the earlier ones. Their placements are by rails or as the base chose, and the converter made
-- their images longer.
abbrev pub from_wire : Succession below_wire by_tables
from_wire = record { older = placed; older_serial = λ ν. ν; older_stamps = λ k m. m; carry = longer }

abbrev pub BeforeTables : StoreBy by_tables → Type 0
BeforeTables = TakenOver below_wire by_tables from_wire LeftByWire

-- Those that calls by A.6 left.
abbrev pub LeftByTables : StoreBy by_tables → Type 0
LeftByTables = LeftBy by_tables BeforeTables

-- Those that A.7 has from the earlier ones: their control part has a serial and their working cards have stamps, since the
-- converter wrote them.
abbrev pub from_tables : Succession by_tables resuming
from_tables = record {
  older = λ p. p;
  older_serial = λ ν. converted_serial;
  older_stamps = λ k m. first_stamps k;
  carry = stamped_image;
}

abbrev pub BeforeStamps : StoreBy resuming → Type 0
BeforeStamps = TakenOver by_tables resuming from_tables LeftByTables

-- Those that the delivery in force has from the earlier ones.
abbrev pub Store : Type 0
Store = StoreBy current

abbrev pub Earlier : Store → Type 0
Earlier = BeforeStamps

-- ---- images that the earlier ones left, of running and of stopped stores
abbrev pub WireImage : Image → Type 0
WireImage = ImageLeftBy below_wire (ImageLeftBy two_rails (ImageLeftBy base (λ g. ⊥)))

-- An image that a converter made of one of these.
pub record CarriedImage (carry : Image → Image) (Left : Image → Type 0) (g : Image) : Type 0 where
  pub was : Image
  pub left : Left was
  pub is : g ≡ carry was

abbrev pub EarlierImage : Image → Type 0
EarlierImage = ImageLeftBy by_tables (CarriedImage longer WireImage)

-- DEMAND 3, going on from a store that earlier deliveries left: the calls since are answered as by the plain record list
-- that was fed all calls.
unfoldable pub GoesOnFromEarlier : Type 0
GoesOnFromEarlier = (s : Store) → Earlier s → (l : List NoisyCall)
    → run_image l s.image ≡ run_plain cabinet (image_calls l) s.rules s.plain

-- There too refusals 1 and 2 never come again, whether the store runs or has stopped, by earlier calls or since.
unfoldable pub FormStaysFromEarlier : Type 0
FormStaysFromEarlier = (g : Image) → EarlierImage g → (l : List NoisyCall) → form_refusal (image_after l (stamped_image g)) ≡ 0

-- And each converter takes them all.
unfoldable pub ConvertsEarlier : Type 0
ConvertsEarlier =
    ((g buffer : Image) → WireImage g → length buffer ≡ pairs_image_size → convert_refusal below_wire by_tables g buffer ≡ 0)
    × ((g buffer : Image) → EarlierImage g → length buffer ≡ image_size → convert_refusal by_tables resuming g buffer ≡ 0)
