-- A converter: the image that a later delivery goes on with, of any two deliveries, and that it carries the store over. Assumes nothing.
use Prim.Native.Nat.{◌<◌, ℕ}
use lib.Dec.{ltb}
use lib.ListN.{get_or, length}
use mathlib.Core.Bool.{false}
use mathlib.Core.List.{[]}
use mathlib.Core.Option.{some}
use mathlib.Core.Path.{◌∙◌, ◌≡◌, ap, subst, sym}
use Rattle.image.specs.Layout.{block_count, card_count, control_size, image_size_of}
use Rattle.method.proofs.Legal.{Legal}
use Rattle.cabinet_rules.specs.Cabinet.{rules_of}
use Rattle.cabinet_rules.specs.Delivery.{Delivery, PartOf}
use Rattle.cabinet_rules.specs.GoesOn.{Succession, part_now}
use Rattle.cabinet_rules.specs.Images.{Ends, Image, Writes, after_by, block_by, control_by, end_by, tail_by}
use Rattle.cabinet_rules.proofs.After.{after_block, after-control, after-end, after_tail, length-after}
use Rattle.cabinet_rules.proofs.GoesOn.{Carries, stamp_now}
use Rattle.cabinet_rules.proofs.Lawful.{DeliveryLaws, ShowsStamp, lawful_by}
use Rattle.cabinet_rules.proofs.Noisy.{WroteIn}

module _ (E D : Delivery) (S : Succession E D) where
  abbrev all_blocks : Image → Writes
  all_blocks g c b = some (block_by E.memory.layout g c b)

  abbrev all_stamps : Image → Ends
  all_stamps g c = some (D.memory.stamp_bytes (stamp_now E D S g c))

  -- The image of the later length: the control part as it is by D, every block as it was, the stamps as they are by D.
  unfoldable pub lengthened : Image → Image
  lengthened g =
      after_by D.memory.layout (D.memory.bytes (part_now E D S (control_by E g))) (D.memory.tail (part_now E D S (control_by E g))) (all_blocks g)
      (all_stamps g) []

  -- It carries the store over, where the stamps can be shown.
  module _ (W : DeliveryLaws D) (is : (g : Image) → S.carry g ≡ lengthened g)
      (shown : (g : Image) → Legal (rules_of D) (lawful_by D W.rules) (part_now E D S (control_by E g)) → (c : ℕ) → ShowsStamp D (stamp_now E D S g c))
      (outside : (g : Image) (c : ℕ) → ltb c card_count ≡ false → stamp_now E D S g c ≡ D.memory.no_stamp) where
    module _ (g : Image) where
      abbrev head : ℕ → ℕ
      head = D.memory.bytes (part_now E D S (control_by E g))

      abbrev tail : ℕ → ℕ
      tail = D.memory.tail (part_now E D S (control_by E g))

      long : length (lengthened g) ≡ image_size_of D.memory.layout
      unfolding lengthened
      long = length-after D.memory.layout head tail (all_blocks g) (all_stamps g) []

      front : (n : ℕ) → n < control_size → get_or (lengthened g) n 0 ≡ head n
      unfolding lengthened
      front = after-control D.memory.layout head tail (all_blocks g) (all_stamps g) []

      behind : (n : ℕ) → n < D.memory.layout.image_tail → tail_by D.memory.layout (lengthened g) n ≡ tail n
      unfolding lengthened
      behind = after_tail D.memory.layout head tail (all_blocks g) (all_stamps g) []

      blocks : (c b : ℕ) → c < card_count → b < block_count → block_by D.memory.layout (lengthened g) c b ≡ block_by E.memory.layout g c b
      unfolding lengthened
      blocks = after_block D.memory.layout head tail (all_blocks g) (all_stamps g) []

      ends : (c j : ℕ) → c < card_count → j < D.memory.layout.table_tail
          → end_by D.memory.layout (lengthened g) c j ≡ D.memory.stamp_bytes (stamp_now E D S g c) j
      unfolding lengthened
      ends = after-end D.memory.layout head tail (all_blocks g) (all_stamps g) []

    pub lengthened-carries : Carries E D S W
    lengthened-carries = record {
      long = λ g l. ap length (is g) ∙ long g;
      wrote = λ g k l r w. subst (λ (x : Image). WroteIn D x (part_now E D S k)) (sym (is g)) (record {
        front = λ n h. front g n h ∙ ap (λ (x : PartOf E). D.memory.bytes (part_now E D S x) n) r;
        behind = λ n h. behind g n h ∙ ap (λ (x : PartOf E). D.memory.tail (part_now E D S x) n) r;
      });
      blocks = λ g c b hc hb. ap (λ (x : Image). block_by D.memory.layout x c b) (is g) ∙ blocks g c b hc hb;
      stamps = λ g good c hc. ap (λ (x : Image). D.memory.stamp_in (end_by D.memory.layout x c)) (is g)
          ∙ shown g good c (end_by D.memory.layout (lengthened g) c) (λ j h. ends g c j hc h);
      outside = outside;
    }
