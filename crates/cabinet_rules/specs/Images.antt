-- The rules on images of any length and contents: what a call answers, and the whole image after it. Assumes nothing.
use Rattle.std.specs.Prelude.{◌%◌, ◌+◌, ◌-◌, ◌/◌, ℕ, ltb, get_or, Bool, ◌&&◌, cond, List}
use Rattle.std.proofs.Math.Option.{Option, none, some}
use Rattle.lists.specs.Tabulate.{tabulate}
use Rattle.image.specs.Layout.{Layout, block_address_of, block_count, block_size, blocks_size, card_count, control_size, end_start_of}
use Rattle.image.specs.Layout.{image_size_of, layout, table_size_of, tail_start_of}
use Rattle.slot.specs.Blocks.{BlockBytes, block_of_bytes, byte_in, empty_block}
use Rattle.method.specs.PlainList.{or_refused}
use Rattle.method.specs.Rules.{Answer, Call, Plan, State, act, is_start, look, refusal, unless_refused, updated}
use Rattle.control.specs.ControlBytes.{Part}
use Rattle.control_form.specs.ControlForm.{form_rows_of}
use Rattle.cabinet_rules.specs.Cabinet.{cabinet, rules_of}
use Rattle.cabinet_rules.specs.Delivery.{Delivery, PartOf, current}

abbrev pub Image : Type 0
Image = List ℕ

-- ---- by a layout
-- For each card and block what is written there; for each card what is written behind its blocks.
abbrev pub Writes : Type 0
Writes = ℕ → ℕ → Option BlockBytes

abbrev pub Ends : Type 0
Ends = ℕ → Option (ℕ → ℕ)

module _ (y : Layout) where
  -- What an image shows: block b of card c, the bytes behind the card's blocks, the control bytes behind the tables.
  abbrev pub block_by : Image → ℕ → ℕ → BlockBytes
  block_by g c b = block_of_bytes (λ j. get_or g (block_address_of y c b + j) 0)

  abbrev pub end_by : Image → ℕ → ℕ → ℕ
  end_by g c j = get_or g (end_start_of y c + j) 0

  abbrev pub tail_by : Image → ℕ → ℕ
  tail_by g n = get_or g (tail_start_of y + n) 0

  -- The card of the byte n of an image, and its place in the card's table.
  abbrev pub card_by : ℕ → ℕ
  card_by n = (n - control_size) / table_size_of y

  abbrev pub place_by : ℕ → ℕ
  place_by n = (n - control_size) % table_size_of y

  -- The byte at place j of card c's table: a block's, or behind the blocks.
  unfoldable pub table_byte : Writes → Ends → Image → ℕ → ℕ → ℕ
  table_byte w e g c j =
      cond (ltb j blocks_size)
      (byte_in (updated (w c (j / block_size)) (block_by g c (j / block_size))) (j % block_size))
      (updated (e c) (end_by g c) (j - blocks_size))

  -- g with other control bytes, at the front and behind the tables, and in the tables what is written there.
  unfoldable pub after_byte : (ℕ → ℕ) → (ℕ → ℕ) → Writes → Ends → Image → ℕ → ℕ
  after_byte head tail w e g n =
      cond (ltb n control_size) (head n) (
      cond (ltb n (tail_start_of y)) (table_byte w e g (card_by n) (place_by n)) (
      tail (n - tail_start_of y)))

  unfoldable pub after_by : (ℕ → ℕ) → (ℕ → ℕ) → Writes → Ends → Image → Image
  after_by head tail w e g = tabulate (image_size_of y) (after_byte head tail w e g)

-- By the layout in force.
abbrev pub block_in : Image → ℕ → ℕ → BlockBytes
block_in = block_by layout

abbrev pub tail_in : Image → ℕ → ℕ
tail_in = tail_by layout

abbrev pub end_in : Image → ℕ → ℕ → ℕ
end_in = end_by layout

abbrev pub after : (ℕ → ℕ) → (ℕ → ℕ) → Writes → Ends → Image → Image
after = after_by layout

-- ---- by a delivery
-- There is such a card with such a block; what is not there is as if empty.
abbrev pub is_there : ℕ → ℕ → Bool
is_there c b = ltb c card_count && ltb b block_count

module _ (D : Delivery) where
  -- The control part that an image shows, its control form, and the whole state.
  abbrev pub control_by : Image → PartOf D
  control_by g = D.memory.part (λ n. get_or g n 0) (tail_by D.memory.layout g)

  abbrev pub form_by : Image → Bool
  form_by g = D.memory.form (λ n. get_or g n 0) (tail_by D.memory.layout g)

  unfoldable pub state_by : Image → State (rules_of D)
  state_by g = record {
    control = control_by g;
    block = λ c b. cond (is_there c b) (block_by D.memory.layout g c b) empty_block;
    stamp = λ c. cond (ltb c card_count) (D.memory.stamp_in (end_by D.memory.layout g c)) D.memory.no_stamp;
  }

  -- The whole refusal table: rows 1 and 2, then the rows from 3 on.
  unfoldable pub refusal_by : Call (rules_of D) → Image → ℕ
  refusal_by c g =
      form_rows_of (image_size_of D.memory.layout) (is_start c) (form_by g) g
      (refusal (rules_of D) c (control_by g) (look (rules_of D) (state_by g)))

  -- What an accepted call answers and writes.
  abbrev pub plan_by : Call (rules_of D) → Image → Plan (rules_of D)
  plan_by c g = act (rules_of D) c (control_by g) (look (rules_of D) (state_by g))

  -- The answer: the lowest number that applies is returned.
  unfoldable pub answer_by : Call (rules_of D) → Image → Answer (rules_of D)
  answer_by c g = or_refused (rules_of D) (refusal_by c g) (plan_by c g).answer

  -- The bytes of a stamp that is written.
  abbrev pub end_of : Option D.memory.Stamp → Option (ℕ → ℕ)
  end_of none = none
  end_of (some m) = some (D.memory.stamp_bytes m)

  -- The image after a plan.
  abbrev pub after_plan : Plan (rules_of D) → Image → Image
  after_plan p g =
      after_by D.memory.layout (D.memory.bytes p.after) (D.memory.tail p.after) p.write (λ c. end_of (p.stamps c)) g

  -- The image after the call: a refused one leaves it as found.
  unfoldable pub next_by : Call (rules_of D) → Image → Image
  next_by c g = unless_refused (refusal_by c g) g (after_plan (plan_by c g) g)

-- ---- by the delivery in force
-- What an image shows.
abbrev pub control_in : Image → Part
control_in = control_by current

abbrev pub state_in : Image → State cabinet
state_in = state_by current

-- What a call is refused with, or what it does.
abbrev pub refusal_on : Call cabinet → Image → ℕ
refusal_on = refusal_by current

abbrev pub plan_on : Call cabinet → Image → Plan cabinet
plan_on = plan_by current

-- What it answers, and the image after it.
abbrev pub answer : Call cabinet → Image → Answer cabinet
answer = answer_by current

abbrev pub next : Call cabinet → Image → Image
next = next_by current
