-- Twins agree, on images: an image shows a state, and a call changes that state as the rules say, so what the method gives of states holds of
-- images, by each delivery and from one to the next. Assumes nothing.
use Prim.Native.Nat.{◌<◌, ℕ}
use borrow.Author.Tests.{lt-ltb}
use lib.Dec.{ltb}
use mathlib.Core.Bool.{true}
use mathlib.Core.List.{List}
use mathlib.Core.Logic.{◌⊎◌, inl, inr}
use mathlib.Core.Path.{◌∙◌, ◌≡◌, ap, subst, sym}
use Rattle.lists.proofs.Bools.{and_in}
use Rattle.image.specs.Layout.{block_count, card_count}
use Rattle.mask.specs.Masks.{Byte, has_card}
use Rattle.mask.proofs.Masks.{has-card}
use Rattle.slot.specs.Blocks.{BlockBytes, is_held}
use Rattle.method.specs.Parameters.{Parameters}
use Rattle.method.specs.Rules.{Call, ok, start, visible}
use Rattle.method.proofs.Laws.{Laws}
use Rattle.method.proofs.Twins.{Agreed, agreed-after, agreed-grown, agreed-next, agreed-noise, agreed-twins, in-run}
use Rattle.cabinet_rules.specs.ByTheRules.{noise_by, noised_by}
use Rattle.cabinet_rules.specs.Cabinet.{cabinet, rules_of, slot_seen}
use Rattle.cabinet_rules.specs.Claims.{NoisyCallBy, image_after, image_after_by, noisy_by}
use Rattle.cabinet_rules.specs.Converting.{longer, stamped_image}
use Rattle.cabinet_rules.specs.Delivery.{Delivery, current, resuming}
use Rattle.cabinet_rules.specs.GoesOn.{BegunBy, CarriedImage, EarlierImage, ImageLeftBy, StoreBy, Succession, WireImage, from_base, from_rails, from_tables, from_wire}
use Rattle.cabinet_rules.specs.Images.{Image, answer_by, block_in, control_in, next, next_by, state_by, state_in}
use Rattle.cabinet_rules.specs.Retired.{base, below_wire, by_tables, two_rails}
use Rattle.method.specs.Twins.{Twins}
use Rattle.cabinet_rules.specs.Twins.{TwinsAgreeFromEarlier, TwinsAgreeOnImages, TwinsOn}
use Rattle.cabinet_rules.proofs.Base.{base-carried, base-retired, base_laws}
use Rattle.cabinet_rules.proofs.Form.{current_laws}
use Rattle.cabinet_rules.proofs.GoesOn.{Carries, Follows, growth_of, keeps, legible-grown, state-grown}
use Rattle.cabinet_rules.proofs.Lawful.{DeliveryLaws, lawful_by}
use Rattle.cabinet_rules.proofs.PlacingLaws.{lawful}
use Rattle.cabinet_rules.proofs.Legible.{Legible, legible-noise, state-noise}
use Rattle.cabinet_rules.proofs.Sound.{start-sound}
use Rattle.cabinet_rules.proofs.Transport.{legible-next, state-after, state-next}
use Rattle.cabinet_rules.proofs.TwoRails.{rail_laws, rails-carried, rails-retired}
use Rattle.cabinet_rules.proofs.Tables.{table_laws, tables-carried, tables-retired}
use Rattle.cabinet_rules.proofs.Wire.{wire-carried, wire-retired, wire_laws}

-- ---- an image whose state has twins that agree, and stay so
module _ (D : Delivery) (W : DeliveryLaws D) where
  abbrev P : Parameters
  P = rules_of D

  abbrev L : Laws P
  L = lawful_by D W.rules

  pub record AgreedImage (g : Image) : Type 0 where
    pub seen : Legible D W g
    pub agreed : Agreed P L (state_by D g)

  pub noise-agreed : (noise : ℕ → ℕ) (g : Image) → AgreedImage g → AgreedImage (noisy_by D noise g)
  noise-agreed noise g a = record {
    seen = legible-noise D W noise g a.seen;
    agreed = subst (Agreed P L) (sym (state-noise D W noise g a.seen)) (agreed-noise P L (noise_by D noise) (state_by D g) a.agreed);
  }

  pub next-agreed : (c : Call P) (g : Image) → AgreedImage g → AgreedImage (next_by D c g)
  next-agreed c g a = record {
    seen = legible-next D W c g a.seen;
    agreed = subst (Agreed P L) (sym (state-next D W c g a.seen)) (agreed-next P L c (state_by D g) a.agreed);
  }

  pub after-agreed : (l : List (NoisyCallBy D)) (g : Image) → AgreedImage g → AgreedImage (image_after_by D l g)
  after-agreed l g a =
      let h = state-after D W l g a.seen in
      record { seen = h.0; agreed = subst (Agreed P L) (sym h.1) (agreed-after P L (noised_by D l) (state_by D g) a.agreed) }

  pub start-agreed : (m : Byte) (before : Image) → answer_by D (start m) before ≡ ok → AgreedImage (next_by D (start m) before)
  start-agreed m before e = let s = start-sound D W m before e in record { seen = s.seen; agreed = in-run _ _ s.ready }

  -- an image that the delivery's calls left
  module _ (Earlier : Image → Type 0) (begun : (g : Image) → Earlier g → AgreedImage g) where
    left-agreed : (g : Image) → ImageLeftBy D Earlier g → AgreedImage g
    left-agreed g l = subst AgreedImage (sym l.is) (after-agreed l.calls l.first (first l.begins))
      where
        first : ((s : StoreBy D) × BegunBy D s × (l.first ≡ s.image)) ⊎ Earlier l.first → AgreedImage l.first
        first (inl (s, b, e)) = subst AgreedImage (sym (e ∙ ap (λ (x : StoreBy D). x.image) b.is)) (start-agreed b.mask b.before b.accepted)
        first (inr e) = begun l.first e

-- ---- a later delivery goes on
module _ (E D : Delivery) (S : Succession E D) (F : Follows E D S) (K : DeliveryLaws E) (W : DeliveryLaws D) (C : Carries E D S W) where
  image-grown : (g : Image) → AgreedImage E K g → AgreedImage D W (S.carry g)
  image-grown g a = record {
    seen = legible-grown E D S F K W C g a.seen;
    agreed = subst (Agreed (rules_of D) (lawful_by D W.rules)) (sym (state-grown E D S F K W C g a.seen))
        (agreed-grown (rules_of E) (lawful_by E K.rules) (growth_of E D S) (keeps E D S F) (lawful_by D W.rules) (state_by E g) a.agreed);
  }

-- ---- the deliveries, in their order
base-agreed : (g : Image) → ImageLeftBy base (λ g. ⊥) g → AgreedImage base base_laws g
base-agreed = left-agreed base base_laws (λ g. ⊥) (λ g e. absurd e)

rails-agreed : (g : Image) → ImageLeftBy two_rails (ImageLeftBy base (λ g. ⊥)) g → AgreedImage two_rails rail_laws g
rails-agreed = left-agreed two_rails rail_laws (ImageLeftBy base (λ g. ⊥))
    (λ g e. image-grown base two_rails from_base base-retired.follows base_laws rail_laws base-carried g (base-agreed g e))

wire-agreed : (g : Image) → WireImage g → AgreedImage below_wire wire_laws g
wire-agreed = left-agreed below_wire wire_laws (ImageLeftBy two_rails (ImageLeftBy base (λ g. ⊥)))
    (λ g e. image-grown two_rails below_wire from_rails rails-retired.follows rail_laws wire_laws rails-carried g (rails-agreed g e))

tables-agreed : (g : Image) → EarlierImage g → AgreedImage by_tables table_laws g
tables-agreed = left-agreed by_tables table_laws (CarriedImage longer WireImage) (λ g e. subst (AgreedImage by_tables table_laws) (sym e.is)
    (image-grown below_wire by_tables from_wire wire-retired.follows wire_laws table_laws wire-carried e.was (wire-agreed e.was e.left)))

pub earlier-agreed : (g : Image) → EarlierImage g → AgreedImage current current_laws (stamped_image g)
earlier-agreed g e = image-grown by_tables resuming from_tables tables-retired.follows table_laws current_laws tables-carried g (tables-agreed g e)

-- ---- by the delivery in force, in the image's own terms
block-shown : (g : Image) (c b : ℕ) → has_card (control_in g).working c ≡ true → b < block_count → (state_in g).block c b ≡ block_in g c b
unfolding state_by
block-shown g c b w h = rw (and_in (ltb c card_count) (ltb b block_count) (lt-ltb c card_count (has-card (control_in g).working c w)) (lt-ltb b block_count h))

card-seen : (g : Image) (c b : ℕ) → has_card (control_in g).working c ≡ true → b < block_count → visible cabinet (state_in g).control c b ≡ true
unfolding state_by
card-seen g c b w h = and_in (has_card (control_in g).working c) (ltb b block_count) w (lt-ltb b block_count h)

pub twins-shown : (g : Image) → Twins cabinet (state_in g) → TwinsOn g
twins-shown g agree c d b i wc wd hb hc hd hi =
    let x : (state_in g).block c b ≡ block_in g c b = block-shown g c b wc hb in
    let y : (state_in g).block d b ≡ block_in g d b = block-shown g d b wd hb in
    ap (λ (z : BlockBytes). slot_seen z i) (sym x)
    ∙ agree c d b i (card-seen g c b wc hb) (card-seen g d b wd hb) (ap is_held x ∙ hc) (ap is_held y ∙ hd) hi
    ∙ ap (λ (z : BlockBytes). slot_seen z i) y

pub twins-on : (g : Image) → AgreedImage current current_laws g → TwinsOn g
twins-on g a = twins-shown g (agreed-twins cabinet lawful (state_in g) a.agreed)

-- TWINS AGREE
pub twins-agree-on-images : TwinsAgreeOnImages
unfolding TwinsAgreeOnImages
twins-agree-on-images m before e l =
    twins-on (image_after l (next (start m) before)) (after-agreed current current_laws l (next (start m) before) (start-agreed current current_laws m before e))

-- and going on from an image that earlier deliveries left
pub twins-agree-from-earlier : TwinsAgreeFromEarlier
unfolding TwinsAgreeFromEarlier
twins-agree-from-earlier g e l = twins-on (image_after l (stamped_image g)) (after-agreed current current_laws l (stamped_image g) (earlier-agreed g e))
