-- What noise on failed cards and the plan of a call leave of an image, part by part. Assumes nothing.
use Prim.Native.Nat.{◌+◌, ◌<◌, ◌≤◌, ℕ}
use borrow.Author.Tests.{le-leb, lt-leb}
use lib.ListN.{get_or, length}
use mathlib.Core.Bool.{false}
use mathlib.Core.Path.{◌∙◌, ◌≡◌, ap, sym}
use native.Mathlib.Omega.{arith}
use Rattle.lists.proofs.Bools.{never_true}
use Rattle.lists.proofs.Tabulate.{at-tabulate, length-tabulate}
use Rattle.image.specs.Layout.{Layout, block_address_of, block_count, block_start, card_count, control_size, image_size_of, table_size_of, table_start_of}
use Rattle.image.specs.Layout.{tail_start_of}
use Rattle.mask.specs.Masks.{has_card}
use Rattle.mask.proofs.Masks.{has-card}
use Rattle.slot.proofs.Blocks.{block-ext, byte-in}
use Rattle.method.specs.Rules.{Plan, updated}
use Rattle.cabinet_rules.specs.Cabinet.{rules_of}
use Rattle.cabinet_rules.specs.Claims.{noisy_by, noisy_byte}
use Rattle.cabinet_rules.specs.Delivery.{Delivery, PartOf}
use Rattle.cabinet_rules.specs.Images.{Image, after_plan, block_by, card_by, control_by, end_of, tail_by}
use Rattle.cabinet_rules.proofs.After.{after_block, after-control, after_tail, behind-tables, card-of, in_tables, length-after}
use Rattle.cabinet_rules.proofs.Lawful.{Wrote}

-- The control bytes of the image are those that are written of k.
abbrev pub WroteIn : (D : Delivery) → Image → PartOf D → Type 0
WroteIn D g k = Wrote D (λ n. get_or g n 0) (tail_by D.memory.layout g) k

-- ---- noise on failed cards is not seen
module _ (D : Delivery) where
  abbrev Y : Layout
  Y = D.memory.layout

  pub length-noisy : (noise : ℕ → ℕ) (g : Image) → length (noisy_by D noise g) ≡ length g
  unfolding noisy_by
  length-noisy noise g = length-tabulate (length g) (noisy_byte D noise g)

  pub control-noisy : (noise : ℕ → ℕ) (g : Image) (n : ℕ) → n < control_size → n < length g → get_or (noisy_by D noise g) n 0 ≡ get_or g n 0
  unfolding noisy_by noisy_byte
  control-noisy noise g n h l = at-tabulate (length g) (noisy_byte D noise g) n l ∙ rw (lt-leb control_size n h)

  -- byte j of the table of a card that has not failed
  pub table-noisy : (noise : ℕ → ℕ) (g : Image) (c j : ℕ) → length g ≡ image_size_of Y → c < card_count → j < table_size_of Y → has_card (control_by D g).failed c ≡ false
      → get_or (noisy_by D noise g) (table_start_of Y c + j) 0 ≡ get_or g (table_start_of Y c + j) 0
  unfolding noisy_by noisy_byte
  table-noisy noise g c j long hc hj off =
      let h : table_start_of Y c + j < tail_start_of Y = in_tables Y c j hc hj in
      at-tabulate (length g) (noisy_byte D noise g) (table_start_of Y c + j) (omega (arith, long))
      ∙ rw (card-of Y c j hj, off, le-leb control_size (table_start_of Y c + j) (omega arith))

  pub block-noisy : (noise : ℕ → ℕ) (g : Image) (c b : ℕ) → length g ≡ image_size_of Y → c < card_count → b < block_count → has_card (control_by D g).failed c ≡ false
      → block_by Y (noisy_by D noise g) c b ≡ block_by Y g c b
  block-noisy noise g c b long hc hb off = block-ext (block_by Y (noisy_by D noise g) c b) (block_by Y g c b) (λ j l.
      byte-in (λ i. get_or (noisy_by D noise g) (block_address_of Y c b + i) 0) j l
      ∙ ap (λ (n : ℕ). get_or (noisy_by D noise g) n 0) (flat (table_start_of Y c) j)
      ∙ table-noisy noise g c (block_start b + j) long hc (omega arith) off
      ∙ sym (ap (λ (n : ℕ). get_or g n 0) (flat (table_start_of Y c) j)) ∙ sym (byte-in (λ i. get_or g (block_address_of Y c b + i) 0) j l))
    where
      flat : (a j : ℕ) → a + block_start b + j ≡ a + (block_start b + j)
      flat a j = omega arith

  -- a control byte behind the tables
  pub tail-noisy : (noise : ℕ → ℕ) (g : Image) (n : ℕ) → length g ≡ image_size_of Y → n < Y.image_tail → tail_by Y (noisy_by D noise g) n ≡ tail_by Y g n
  unfolding noisy_by noisy_byte
  tail-noisy noise g n long h = at-tabulate (length g) (noisy_byte D noise g) (tail_start_of Y + n) (omega (arith, long))
      ∙ rw (no-card, le-leb control_size (tail_start_of Y + n) (omega arith))
    where
      far : card_count ≤ card_by Y (tail_start_of Y + n)
      far = behind-tables Y n

      no-card : has_card (control_by D g).failed (card_by Y (tail_start_of Y + n)) ≡ false
      no-card = never_true (has_card (control_by D g).failed (card_by Y (tail_start_of Y + n)))
          (λ e. let l : card_by Y (tail_start_of Y + n) < card_count = has-card (control_by D g).failed (card_by Y (tail_start_of Y + n)) e in absurd (omega (arith, far)))

  -- so the control bytes are
  pub noise-wrote : (noise : ℕ → ℕ) (g : Image) (k : PartOf D) → length g ≡ image_size_of Y → WroteIn D g k → WroteIn D (noisy_by D noise g) k
  noise-wrote noise g k long w = record {
    front = λ n h. control-noisy noise g n h (omega (arith, long)) ∙ w.front n h;
    behind = λ n h. tail-noisy noise g n long h ∙ w.behind n h;
  }

  -- ---- the image after a plan: its length, its control bytes, its blocks
  module _ (p : Plan (rules_of D)) (g : Image) where
    pub plan-long : length (after_plan D p g) ≡ image_size_of Y
    plan-long = length-after Y (D.memory.bytes p.after) (D.memory.tail p.after) p.write (λ c. end_of D (p.stamps c)) g

    pub plan-wrote : WroteIn D (after_plan D p g) p.after
    plan-wrote = record {
      front = after-control Y (D.memory.bytes p.after) (D.memory.tail p.after) p.write (λ c. end_of D (p.stamps c)) g;
      behind = after_tail Y (D.memory.bytes p.after) (D.memory.tail p.after) p.write (λ c. end_of D (p.stamps c)) g;
    }

    pub plan-block : (c b : ℕ) → c < card_count → b < block_count → block_by Y (after_plan D p g) c b ≡ updated (p.write c b) (block_by Y g c b)
    plan-block = after_block Y (D.memory.bytes p.after) (D.memory.tail p.after) p.write (λ c. end_of D (p.stamps c)) g
