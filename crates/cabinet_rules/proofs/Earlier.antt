-- Demand 3 from the stores that the earlier deliveries left, in their order. Assumes nothing.
use borrow.Author.Tests.{eq-eqb}
use lib.ListN.{length}
use mathlib.Core.Path.{◌≡◌, subst, sym}
use Rattle.image.specs.Layout.{image_size_of}
use Rattle.cabinet_rules.specs.Converting.{buffer_after, convert_refusal, longer, stamped_image}
use Rattle.cabinet_rules.specs.Delivery.{Delivery, current, resuming}
use Rattle.cabinet_rules.specs.Retired.{base, below_wire, by_tables, two_rails}
use Rattle.cabinet_rules.specs.GoesOn.{BeforeTables, BeforeWire, CarriedImage, ConvertsEarlier, Earlier, EarlierImage, FormStaysFromEarlier, GoesOnFromEarlier}
use Rattle.cabinet_rules.specs.GoesOn.{ImageLeftBy, LeftByBase, LeftByRails, LeftByTables, LeftByWire, Store, StoreBy, TakenOver, WireImage, from_base, from_rails}
use Rattle.cabinet_rules.specs.GoesOn.{from_tables, from_wire}
use Rattle.cabinet_rules.specs.Images.{Image}
use Rattle.cabinet_rules.proofs.Base.{base-carried, base-retired, base_laws}
use Rattle.cabinet_rules.proofs.Form.{current_laws}
use Rattle.cabinet_rules.proofs.FormStays.{form-kept}
use Rattle.cabinet_rules.proofs.GoesOn.{SoundStore, left-legible, left-sound, legible-grown, taken-sound}
use Rattle.cabinet_rules.proofs.Lawful.{DeliveryLaws}
use Rattle.cabinet_rules.proofs.OneRecordList.{run-image}
use Rattle.cabinet_rules.proofs.Legible.{Legible, legible-form}
use Rattle.cabinet_rules.proofs.Tables.{table_laws, tables-carried, tables-retired}
use Rattle.cabinet_rules.proofs.TwoRails.{rail_laws, rails-carried, rails-retired}
use Rattle.cabinet_rules.proofs.Wire.{wire-carried, wire-retired, wire_laws}

-- ---- running stores
base-sound : (s : StoreBy base) → LeftByBase s → SoundStore base base_laws s
base-sound = left-sound base base_laws (λ s. ⊥) (λ s e. absurd e)

rails-sound : (s : StoreBy two_rails) → LeftByRails s → SoundStore two_rails rail_laws s
rails-sound = left-sound two_rails rail_laws (TakenOver base two_rails from_base LeftByBase)
    (taken-sound base two_rails from_base base-retired.follows base_laws rail_laws base-carried LeftByBase base-sound)

pub before-wire-sound : (s : StoreBy below_wire) → BeforeWire s → SoundStore below_wire wire_laws s
before-wire-sound = taken-sound two_rails below_wire from_rails rails-retired.follows rail_laws wire_laws rails-carried LeftByRails rails-sound

pub wire-sound : (s : StoreBy below_wire) → LeftByWire s → SoundStore below_wire wire_laws s
wire-sound = left-sound below_wire wire_laws BeforeWire before-wire-sound

pub before-tables-sound : (s : StoreBy by_tables) → BeforeTables s → SoundStore by_tables table_laws s
before-tables-sound = taken-sound below_wire by_tables from_wire wire-retired.follows wire_laws table_laws wire-carried LeftByWire wire-sound

pub tables-sound : (s : StoreBy by_tables) → LeftByTables s → SoundStore by_tables table_laws s
tables-sound = left-sound by_tables table_laws BeforeTables before-tables-sound

pub earlier-sound : (s : Store) → Earlier s → SoundStore current current_laws s
earlier-sound = taken-sound by_tables resuming from_tables tables-retired.follows table_laws current_laws tables-carried LeftByTables tables-sound

-- ---- running or stopped
base-legible : (g : Image) → ImageLeftBy base (λ g. ⊥) g → Legible base base_laws g
base-legible = left-legible base base_laws (λ g. ⊥) (λ g e. absurd e)

rails-legible : (g : Image) → ImageLeftBy two_rails (ImageLeftBy base (λ g. ⊥)) g → Legible two_rails rail_laws g
rails-legible = left-legible two_rails rail_laws (ImageLeftBy base (λ g. ⊥))
    (λ g e. legible-grown base two_rails from_base base-retired.follows base_laws rail_laws base-carried g (base-legible g e))

pub wire-legible : (g : Image) → WireImage g → Legible below_wire wire_laws g
wire-legible = left-legible below_wire wire_laws (ImageLeftBy two_rails (ImageLeftBy base (λ g. ⊥)))
    (λ g e. legible-grown two_rails below_wire from_rails rails-retired.follows rail_laws wire_laws rails-carried g (rails-legible g e))

pub tables-legible : (g : Image) → EarlierImage g → Legible by_tables table_laws g
tables-legible = left-legible by_tables table_laws (CarriedImage longer WireImage) (λ g e. subst (Legible by_tables table_laws) (sym e.is)
    (legible-grown below_wire by_tables from_wire wire-retired.follows wire_laws table_laws wire-carried e.was (wire-legible e.was e.left)))

pub earlier-legible : (g : Image) → EarlierImage g → Legible current current_laws (stamped_image g)
earlier-legible g e = legible-grown by_tables resuming from_tables tables-retired.follows table_laws current_laws tables-carried g (tables-legible g e)

-- DEMAND 3, going on
pub goes-on-from-earlier : GoesOnFromEarlier
unfolding GoesOnFromEarlier
goes-on-from-earlier s e l = run-image current current_laws l s.image s.rules s.plain (earlier-sound s e)

pub form-stays-from-earlier : FormStaysFromEarlier
unfolding FormStaysFromEarlier
form-stays-from-earlier g e l = form-kept l (stamped_image g) (earlier-legible g e)

-- ---- the converters take them: their lengths are right and they have the form of their own delivery
module _ (E D : Delivery) (K : DeliveryLaws E) (g buffer : Image) (s : Legible E K g) (b : length buffer ≡ image_size_of D.memory.layout) where
  pub converts-legible : convert_refusal E D g buffer ≡ 0
  unfolding convert_refusal
  converts-legible = rw (eq-eqb (length g) (image_size_of E.memory.layout) s.long, eq-eqb (length buffer) (image_size_of D.memory.layout) b, legible-form E K g s)

  -- so that the buffer holds them at the later length
  pub converted-legible : (carry : Image → Image) → buffer_after E D carry g buffer ≡ carry g
  unfolding buffer_after
  converted-legible carry = rw converts-legible

pub converts-earlier : ConvertsEarlier
unfolding ConvertsEarlier
converts-earlier = (
  λ g buffer e b. converts-legible below_wire by_tables wire_laws g buffer (wire-legible g e) b,
  λ g buffer e b. converts-legible by_tables resuming table_laws g buffer (tables-legible g e) b,
)
