-- An image is legible where its control bytes are those of a control part that calls can leave: it then shows that control part, and noise on
-- failed cards disturbs the state that it shows as the rules say. Assumes nothing.
use Prim.Native.Nat.{◌+◌, ◌<◌, ℕ}
use borrow.Author.Tests.{le-leb, lt-ltb, ltb-true}
use lib.Dec.{ltb}
use lib.ListN.{get_or, length}
use mathlib.Core.Bool.{Bool, cond, false, true}
use mathlib.Core.Logic.{◌⊎◌, inl, inr}
use mathlib.Core.Path.{◌∙◌, ◌≡◌, ap, refl, sym}
use native.Mathlib.Omega.{arith}
use Rattle.lists.proofs.Bools.{and_l, and_r, never_true, split, tf}
use Rattle.lists.proofs.Tabulate.{at-tabulate}
use Rattle.image.specs.Layout.{Layout, block_address_of, block_count, block_start, blocks_size, card_count, control_size, end_start_of, image_size_of}
use Rattle.image.specs.Layout.{table_size_of, table_start_of, tail_start_of}
use Rattle.mask.specs.Masks.{has_card}
use Rattle.mask.proofs.Masks.{has-card}
use Rattle.slot.specs.Blocks.{BlockBytes, block_of_bytes, empty_block}
use Rattle.slot.proofs.Blocks.{block-ext, byte-in}
use Rattle.method.specs.OneRecordList.{disturb}
use Rattle.method.specs.Parameters.{Parameters}
use Rattle.method.specs.Rules.{State}
use Rattle.method.proofs.Laws.{Laws}
use Rattle.method.proofs.Legal.{Legal, is-resting, is-running}
use Rattle.cabinet_rules.specs.Cabinet.{rules_of}
use Rattle.cabinet_rules.specs.ByTheRules.{noise_by}
use Rattle.cabinet_rules.specs.Claims.{noisy_by, noisy_byte}
use Rattle.cabinet_rules.specs.Delivery.{Delivery, PartOf}
use Rattle.cabinet_rules.specs.Images.{Image, block_by, control_by, end_by, form_by, is_there}
use Rattle.cabinet_rules.specs.Images.{state_by, tail_by}
use Rattle.cabinet_rules.proofs.After.{card-of, in_tables}
use Rattle.cabinet_rules.proofs.Lawful.{DeliveryLaws, lawful_by}
use Rattle.cabinet_rules.proofs.Noisy.{WroteIn, block-noisy, length-noisy, noise-wrote, table-noisy}

module _ (D : Delivery) (W : DeliveryLaws D) where
  abbrev P : Parameters
  P = rules_of D

  abbrev L : Laws P
  L = lawful_by D W.rules

  abbrev Y : Layout
  Y = D.memory.layout

  -- An image of the right length whose control bytes are those of the control part of a store that runs or has stopped.
  pub record Legible (g : Image) : Type 0 where
    pub part : PartOf D
    pub legal : Legal P L part
    pub long : length g ≡ image_size_of Y
    pub wrote : WroteIn D g part

  -- ---- it shows that control part, and has the control form
  pub reads : (k : PartOf D) → Legal P L k → (g : Image) → WroteIn D g k → control_by D g ≡ k
  reads k (is-running f u) g w = W.control.reads k f u (λ n. get_or g n 0) (tail_by Y g) w
  reads k (is-resting r) g w = W.control.rest_read k r (λ n. get_or g n 0) (tail_by Y g) w

  pub formed : (k : PartOf D) → Legal P L k → (g : Image) → WroteIn D g k → form_by D g ≡ true
  formed k (is-running f u) g w = W.control.formed k f u (λ n. get_or g n 0) (tail_by Y g) w
  formed k (is-resting r) g w = W.control.rest-formed k r (λ n. get_or g n 0) (tail_by Y g) w

  pub legible-part : (g : Image) (s : Legible g) → control_by D g ≡ s.part
  legible-part g s = reads s.part s.legal g s.wrote

  pub legible-form : (g : Image) → Legible g → form_by D g ≡ true
  legible-form g s = formed s.part s.legal g s.wrote

  -- ---- states
  pub state-ext : (s t : State P) → s.control ≡ t.control → ((c b : ℕ) → s.block c b ≡ t.block c b) → ((c : ℕ) → s.stamp c ≡ t.stamp c) → s ≡ t
  state-ext s t p q r = λ i. record { control = p i; block = λ c b. q c b i; stamp = λ c. r c i }

  -- ---- noise
  pub legible-noise : (noise : ℕ → ℕ) (g : Image) → Legible g → Legible (noisy_by D noise g)
  legible-noise noise g s = record { part = s.part; legal = s.legal; long = length-noisy D noise g ∙ s.long; wrote = noise-wrote D noise g s.part s.long s.wrote }

  module _ (noise : ℕ → ℕ) (g : Image) (long : length g ≡ image_size_of Y) (c : ℕ) (hc : c < card_count) where
    abbrev G : Image
    G = noisy_by D noise g

    -- byte j of the table of a failed card
    table-noise : (j : ℕ) → j < table_size_of Y → has_card (control_by D g).failed c ≡ true → get_or G (table_start_of Y c + j) 0 ≡ noise (table_start_of Y c + j)
    unfolding noisy_by noisy_byte
    table-noise j hj on =
        let h : table_start_of Y c + j < tail_start_of Y = in_tables Y c j hc hj in
        at-tabulate (length g) (noisy_byte D noise g) (table_start_of Y c + j) (omega (arith, long))
        ∙ rw (card-of Y c j hj, on, le-leb control_size (table_start_of Y c + j) (omega arith))

    block-noise : (b : ℕ) → b < block_count → (d : Bool) → has_card (control_by D g).failed c ≡ d
        → block_by Y G c b ≡ cond d (block_of_bytes (λ j. noise (block_address_of Y c b + j))) (block_by Y g c b)
    block-noise b hb true on = block-ext (block_by Y G c b) (block_of_bytes (λ j. noise (block_address_of Y c b + j))) (λ j l.
        byte-in (λ i. get_or G (block_address_of Y c b + i) 0) j l ∙ ap (λ (n : ℕ). get_or G n 0) (flat (table_start_of Y c) j)
        ∙ table-noise (block_start b + j) (omega arith) on
        ∙ sym (ap noise (flat (table_start_of Y c) j)) ∙ sym (byte-in (λ i. noise (block_address_of Y c b + i)) j l))
      where
        flat : (a j : ℕ) → a + block_start b + j ≡ a + (block_start b + j)
        flat a j = omega arith
    block-noise b hb false off = block-noisy D noise g c b long hc hb off

    stamp-noise : (d : Bool) → has_card (control_by D g).failed c ≡ d
        → D.memory.stamp_in (end_by Y G c) ≡ cond d (D.memory.stamp_in (λ j. noise (end_start_of Y c + j))) (D.memory.stamp_in (end_by Y g c))
    stamp-noise true on = W.stamps.same-stamp (end_by Y G c) (λ j. noise (end_start_of Y c + j)) (λ j l.
        ap (λ (n : ℕ). get_or G n 0) (flat (table_start_of Y c) j) ∙ table-noise (blocks_size + j) (omega arith) on ∙ sym (ap noise (flat (table_start_of Y c) j)))
      where
        flat : (a j : ℕ) → a + blocks_size + j ≡ a + (blocks_size + j)
        flat a j = omega arith
    stamp-noise false off = W.stamps.same-stamp (end_by Y G c) (end_by Y g c) (λ j l.
        ap (λ (n : ℕ). get_or G n 0) (flat (table_start_of Y c) j) ∙ table-noisy D noise g c (blocks_size + j) long hc (omega arith) off
        ∙ sym (ap (λ (n : ℕ). get_or g n 0) (flat (table_start_of Y c) j)))
      where
        flat : (a j : ℕ) → a + blocks_size + j ≡ a + (blocks_size + j)
        flat a j = omega arith

  pub state-noise : (noise : ℕ → ℕ) (g : Image) → Legible g → state_by D (noisy_by D noise g) ≡ disturb P (noise_by D noise) (state_by D g)
  unfolding state_by disturb noise_by
  state-noise noise g s = state-ext (state_by D (noisy_by D noise g)) (disturb P (noise_by D noise) (state_by D g))
      (reads s.part s.legal (noisy_by D noise g) (noise-wrote D noise g s.part s.long s.wrote) ∙ sym (legible-part g s)) (λ c b. blk c b (split (is_there c b)))
      (λ c. stm c (split (ltb c card_count)))
    where
      either : (d : Bool) (x : BlockBytes) → x ≡ cond d x x
      either true x = refl
      either false x = refl

      blk : (c b : ℕ) → (is_there c b ≡ true) ⊎ (is_there c b ≡ false)
          → cond (is_there c b) (block_by Y (noisy_by D noise g) c b) empty_block
          ≡ cond (has_card (control_by D g).failed c) (cond (is_there c b) (block_of_bytes (λ j. noise (block_address_of Y c b + j))) empty_block) (cond (is_there c b) (block_by Y g c b) empty_block)
      blk c b (inl e) = rw e (block-noise noise g s.long c (ltb-true c card_count (and_l (ltb c card_count) (ltb b block_count) e)) b
          (ltb-true b block_count (and_r (ltb c card_count) (ltb b block_count) e)) (has_card (control_by D g).failed c) refl)
      blk c b (inr e) = rw e (either (has_card (control_by D g).failed c) empty_block)

      stm : (c : ℕ) → (ltb c card_count ≡ true) ⊎ (ltb c card_count ≡ false)
          → cond (ltb c card_count) (D.memory.stamp_in (end_by Y (noisy_by D noise g) c)) D.memory.no_stamp
          ≡ cond (has_card (control_by D g).failed c) (D.memory.stamp_in (λ j. noise (end_start_of Y c + j))) (cond (ltb c card_count) (D.memory.stamp_in (end_by Y g c)) D.memory.no_stamp)
      stm c (inl e) = rw e (stamp-noise noise g s.long c (ltb-true c card_count e) (has_card (control_by D g).failed c) refl)
      stm c (inr e) = rw (e, never_true (has_card (control_by D g).failed c) (λ h. tf (ltb c card_count) (lt-ltb c card_count (has-card (control_by D g).failed c h)) e))
