-- Demand 3 on images that earlier deliveries left, the proof for any deliveries: a store that is sound by the earlier one is sound by the
-- later, and calls keep it so. Assumes nothing.
use Prim.Native.Nat.{◌+◌, ◌<◌, suc, ℕ}
use borrow.Author.Tests.{ltb-true}
use lib.Dec.{ltb}
use lib.ListN.{length}
use mathlib.Core.Bool.{cond, false, true}
use mathlib.Core.Logic.{◌⊎◌, inl, inr}
use mathlib.Core.Path.{◌∙◌, ◌≡◌, ap, refl, subst, sym}
use native.Mathlib.Omega.{arith}
use Rattle.lists.proofs.Bools.{and_l, and_r, split}
use Rattle.image.specs.Layout.{Layout, block_count, card_count, control_size, copy_count, image_size_of, most_placed}
use Rattle.slot.specs.Blocks.{empty_block}
use Rattle.method.specs.Growth.{Growth, grown_control, grown_plain, grown_state}
use Rattle.method.specs.Parameters.{Parameters}
use Rattle.method.specs.PlainList.{PlainList}
use Rattle.method.specs.Rules.{State}
use Rattle.method.proofs.Growth.{GrowthLaws, legal-grown, ready-grown}
use Rattle.method.proofs.Laws.{Laws}
use Rattle.method.proofs.Legal.{Legal}
use Rattle.method.proofs.Run.{Ready}
use Rattle.cabinet_rules.specs.Cabinet.{rules_of}
use Rattle.cabinet_rules.specs.Delivery.{Delivery, PartOf}
use Rattle.cabinet_rules.specs.GoesOn.{BegunBy, ImageLeftBy, LeftBy, StoreBy, Succession, TakenOver, part_now}
use Rattle.cabinet_rules.specs.Images.{Image, block_by, control_by, end_by, is_there, state_by, tail_by}
use Rattle.cabinet_rules.proofs.Lawful.{DeliveryLaws, lawful_by}
use Rattle.cabinet_rules.proofs.Noisy.{WroteIn}
use Rattle.cabinet_rules.proofs.Sound.{Sound, sound-after, start-sound}
use Rattle.cabinet_rules.proofs.Legible.{Legible, legible-part, reads, state-ext}
use Rattle.cabinet_rules.proofs.Transport.{state-after}

-- ---- one delivery's calls
module _ (D : Delivery) (W : DeliveryLaws D) where
  -- The image is sound, with what is beside it.
  abbrev pub SoundStore : StoreBy D → Type 0
  SoundStore s = Sound D W s.image s.rules s.plain

  begun-sound : (s : StoreBy D) → BegunBy D s → SoundStore s
  begun-sound s b = subst SoundStore (sym b.is) (start-sound D W b.mask b.before b.accepted)

  module _ (Earlier : StoreBy D → Type 0) (sound : (s : StoreBy D) → Earlier s → SoundStore s) where
    pub left-sound : (s : StoreBy D) → LeftBy D Earlier s → SoundStore s
    left-sound s l = subst SoundStore (sym l.is) (sound-after D W l.calls l.first.image l.first.rules l.first.plain (first l.begins) l.runs)
      where
        first : BegunBy D l.first ⊎ Earlier l.first → SoundStore l.first
        first (inl b) = begun-sound l.first b
        first (inr e) = sound l.first e

  module _ (Earlier : Image → Type 0) (begun : (g : Image) → Earlier g → Legible D W g) where
    pub left-legible : (g : Image) → ImageLeftBy D Earlier g → Legible D W g
    left-legible g l = subst (Legible D W) (sym l.is) (state-after D W l.calls l.first (first l.begins)).0
      where
        first : ((s : StoreBy D) × BegunBy D s × (l.first ≡ s.image)) ⊎ Earlier l.first → Legible D W l.first
        first (inl (s, b, e)) = subst (Legible D W) (sym e) (begun-sound s b).seen
        first (inr e) = begun l.first e

-- ---- a later delivery goes on
module _ (E D : Delivery) (S : Succession E D) where
  -- What D changes of the rules by E: they become the rules by D.
  abbrev pub growth_of : Growth (rules_of E)
  growth_of = record {
    Placement = Parameters.Placement (rules_of D);
    Setting = Parameters.Setting (rules_of D);
    Stamp = Parameters.Stamp (rules_of D);
    Serial = Parameters.Serial (rules_of D);
    first_serial = Parameters.first_serial (rules_of D);
    next_serial = Parameters.next_serial (rules_of D);
    numbered = Parameters.numbered (rules_of D);
    no_stamp = Parameters.no_stamp (rules_of D);
    stamp_of = Parameters.stamp_of (rules_of D);
    same_stamp = Parameters.same_stamp (rules_of D);
    marks_while_stopped = Parameters.marks_while_stopped (rules_of D);
    StartArgument = Parameters.StartArgument (rules_of D);
    PlaceArgument = Parameters.PlaceArgument (rules_of D);
    copies = Parameters.copies (rules_of D);
    blocks = Parameters.blocks (rules_of D);
    rec_in_range = Parameters.rec_in_range (rules_of D);
    value_in_range = Parameters.value_in_range (rules_of D);
    mask = Parameters.mask (rules_of D);
    sites = Parameters.sites (rules_of D);
    without = Parameters.without (rules_of D);
    usable = Parameters.usable (rules_of D);
    starts = Parameters.starts (rules_of D);
    start_setting = Parameters.start_setting (rules_of D);
    start_refusal = Parameters.start_refusal (rules_of D);
    places = Parameters.places (rules_of D);
    place_in_range = Parameters.place_in_range (rules_of D);
    place_refusal = Parameters.place_refusal (rules_of D);
    place_limit = Parameters.place_limit (rules_of D);
    older = S.older;
    older_setting = λ σ. σ;
    older_serial = S.older_serial;
    older_stamps = S.older_stamps;
  }

  -- What is asked of a later delivery: an older placement keeps its cards and its sites, and serials still fit.
  pub record Follows : Type 0 where
    pub same-mask : (p : E.Placement) → D.mask (S.older p) ≡ E.mask p
    pub same-sites : (p : E.Placement) (b : ℕ) → D.sites (S.older p) b ≡ E.sites p b
    pub still-usable : (p : E.Placement) → E.usable p → D.usable (S.older p)
    pub still-numbered : (k : PartOf E) → suc (length k.older) < most_placed + copy_count → E.numbered k → D.numbered (part_now E D S k)

  -- The stamp of a card as D has it.
  abbrev pub stamp_now : Image → ℕ → D.memory.Stamp
  stamp_now g = S.older_stamps (part_now E D S (control_by E g)) (state_by E g).stamp

  -- What is asked of the image that D goes on with: of the right length, with the blocks of the earlier image, the control bytes of what
  -- the earlier control part is now, and its stamps; a card that is not there has none.
  pub record Carries (W : DeliveryLaws D) : Type 0 where
    pub long : (g : Image) → length g ≡ image_size_of E.memory.layout → length (S.carry g) ≡ image_size_of D.memory.layout
    pub wrote : (g : Image) (k : PartOf E) → length g ≡ image_size_of E.memory.layout → control_by E g ≡ k → WroteIn E g k
        → WroteIn D (S.carry g) (part_now E D S k)
    pub blocks : (g : Image) (c b : ℕ) → c < card_count → b < block_count
        → block_by D.memory.layout (S.carry g) c b ≡ block_by E.memory.layout g c b
    pub stamps : (g : Image) → Legal (rules_of D) (lawful_by D W.rules) (part_now E D S (control_by E g)) → (c : ℕ) → c < card_count
        → D.memory.stamp_in (end_by D.memory.layout (S.carry g) c) ≡ stamp_now g c
    pub outside : (g : Image) (c : ℕ) → ltb c card_count ≡ false → stamp_now g c ≡ D.memory.no_stamp

module _ (E D : Delivery) (S : Succession E D) (F : Follows E D S) where
  pub keeps : GrowthLaws (rules_of E) (growth_of E D S)
  keeps = record {
    same-mask = F.same-mask;
    same-sites = λ σ p b. F.same-sites p b;
    still-usable = λ σ p h. F.still-usable p h;
    same-copies = λ σ. refl;
    same_blocks = λ σ. refl;
    still-numbered = F.still-numbered;
    enough-room = λ σ. omega arith;
  }

module _ (E D : Delivery) (S : Succession E D) (F : Follows E D S) (K : DeliveryLaws E) (W : DeliveryLaws D) (C : Carries E D S W) where
  abbrev P : Parameters
  P = rules_of E

  abbrev Q : Parameters
  Q = rules_of D

  abbrev L : Laws P
  L = lawful_by E K.rules

  abbrev M : Laws Q
  M = lawful_by D W.rules

  abbrev G : Growth P
  G = growth_of E D S

  pub legible-grown : (g : Image) → Legible E K g → Legible D W (S.carry g)
  legible-grown g s = record {
    part = grown_control P G s.part;
    legal = legal-grown P L G (keeps E D S F) M s.part s.legal;
    long = C.long g s.long;
    wrote = C.wrote g s.part s.long (legible-part E K g s) s.wrote;
  }

  -- THE STATE THAT THE LATER DELIVERY GOES ON WITH
  pub state-grown : (g : Image) → Legible E K g → state_by D (S.carry g) ≡ grown_state P G (state_by E g)
  unfolding state_by
  state-grown g s = state-ext D W (state_by D (S.carry g)) (grown_state P G (state_by E g)) (control ∙ ap (grown_control P G) (sym (legible-part E K g s)))
      (λ c b. blk c b (split (is_there c b))) (λ c. stm c (split (ltb c card_count)))
    where
      good : Legal Q M (grown_control P G (control_by E g))
      good = subst (λ (x : PartOf E). Legal Q M (grown_control P G x)) (sym (legible-part E K g s)) (legal-grown P L G (keeps E D S F) M s.part s.legal)

      control : control_by D (S.carry g) ≡ grown_control P G s.part
      control = reads D W (grown_control P G s.part) (legal-grown P L G (keeps E D S F) M s.part s.legal) (S.carry g) (C.wrote g s.part s.long (legible-part E K g s) s.wrote)

      blk : (c b : ℕ) → (is_there c b ≡ true) ⊎ (is_there c b ≡ false)
          → cond (is_there c b) (block_by D.memory.layout (S.carry g) c b) empty_block ≡ cond (is_there c b) (block_by E.memory.layout g c b) empty_block
      blk c b (inl e) = rw e (C.blocks g c b (ltb-true c card_count (and_l (ltb c card_count) (ltb b block_count) e)) (ltb-true b block_count (and_r (ltb c card_count) (ltb b block_count) e)))
      blk c b (inr e) = rw e

      stm : (c : ℕ) → (ltb c card_count ≡ true) ⊎ (ltb c card_count ≡ false)
          → cond (ltb c card_count) (D.memory.stamp_in (end_by D.memory.layout (S.carry g) c)) D.memory.no_stamp
          ≡ S.older_stamps (grown_control P G (control_by E g)) (state_by E g).stamp c
      stm c (inl e) = rw e (C.stamps g good c (ltb-true c card_count e))
      stm c (inr e) = rw e (sym (C.outside g c e))

  pub sound-grown : (g : Image) (z : State P) (q : PlainList P) → Sound E K g z q → Sound D W (S.carry g) (grown_state P G z) (grown_plain P G q)
  sound-grown g z q s = record {
    seen = legible-grown g s.seen;
    ready = subst (λ (x : State Q). Ready Q M x (grown_state P G z) (grown_plain P G q)) (sym (state-grown g s.seen)) (ready-grown P L G (keeps E D S F) M (state_by E g) z q s.ready);
  }

  pub taken-sound : (LeftByE : StoreBy E → Type 0) → ((s : StoreBy E) → LeftByE s → SoundStore E K s) → (s : StoreBy D) → TakenOver E D S LeftByE s → SoundStore D W s
  taken-sound LeftByE sound s t = subst (SoundStore D W) (sym t.is) (sound-grown t.was.image t.was.rules t.was.plain (sound t.was t.left))

-- ---- the image stays as it is: the two deliveries have one layout, the same control bytes and the same stamps
pub carries_same : (E D : Delivery) (S : Succession E D) (W : DeliveryLaws D) → ((g : Image) → S.carry g ≡ g)
    → D.memory.layout ≡ E.memory.layout
    → ((k : PartOf E) (n : ℕ) → n < control_size → E.memory.bytes k n ≡ D.memory.bytes (part_now E D S k) n)
    → ((k : PartOf E) (n : ℕ) → n < E.memory.layout.image_tail → E.memory.tail k n ≡ D.memory.tail (part_now E D S k) n)
    → ((g : Image) (c : ℕ) → c < card_count → D.memory.stamp_in (end_by D.memory.layout g c) ≡ stamp_now E D S g c)
    → ((g : Image) (c : ℕ) → ltb c card_count ≡ false → stamp_now E D S g c ≡ D.memory.no_stamp)
    → Carries E D S W
carries_same E D S W stays e front behind shown outside = record {
  long = λ g l. ap length (stays g) ∙ l ∙ ap image_size_of (sym e);
  wrote = λ g k l r w. subst (λ (x : Image). WroteIn D x (part_now E D S k)) (sym (stays g)) (record {
    front = λ n h. w.front n h ∙ front k n h;
    behind = λ n h.
        let i : n < E.memory.layout.image_tail = subst (λ (y : Layout). n < y.image_tail) e h in
        ap (λ (y : Layout). tail_by y g n) e ∙ w.behind n i ∙ behind k n i;
  });
  blocks = λ g c b hc hb. ap (λ (x : Image). block_by D.memory.layout x c b) (stays g) ∙ ap (λ (y : Layout). block_by y g c b) e;
  stamps = λ g k c h. ap (λ (x : Image). D.memory.stamp_in (end_by D.memory.layout x c)) (stays g) ∙ shown g c h;
  outside = outside;
}
