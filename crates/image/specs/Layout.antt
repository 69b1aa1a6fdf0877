-- The image: RULES, "The image". The counts, the limits and the sizes stand here and nowhere else; the fields of
-- the control part, of a block's first byte and of a slot's 40 bits stand with their codecs.
--
--   offset in the image      size     what
--   0                        32       control part
--   32 + card × 2,628        2,624    the card's table: 64 blocks of 41 bytes, block 0 first
--   2,656 + card × 2,628     4        behind them its stamp: a placement's serial 24 bits and mask 8; zero after a fit
--   21,056 + i × 48          48       of active placement i, oldest first: its pairs, if it is by table; else zero
--
--   offset in a block        size     what
--   0                        1        highest bit: held
--   1 + place × 5            5        slot: present 1 bit, value 16, lock 4, pending present 1 and value 16, unnamed 2
-- Assumes nothing.
use Rattle.std.specs.Prelude.{ℕ, ◌+◌, ◌-◌, ◌*◌}

-- Cards, blocks and the slots of a block are numbered from 0, transactions from 1. A value has 16 bits. Every record
-- lies on two cards.
abbrev pub card_count : ℕ
card_count = 8

abbrev pub block_count : ℕ
block_count = 64

abbrev pub slot_count : ℕ
slot_count = 8

abbrev pub record_count : ℕ
record_count = block_count * slot_count

abbrev pub tran_bound : ℕ
tran_bound = 16

abbrev pub tran_count : ℕ
tran_count = tran_bound - 1

abbrev pub value_bound : ℕ
value_bound = 65536

abbrev pub copy_count : ℕ
copy_count = 2

-- A placement has as many members as copies at least.
abbrev pub least_members : ℕ
least_members = copy_count

-- The most active placements that a place leaves. Behind them failures add fewer placements than there are copies, so
-- that there are never more than these.
abbrev pub most_placed : ℕ
most_placed = 3

abbrev pub most_active : ℕ
most_active = most_placed + copy_count - 1

-- Cards 0 to 3 hang on one supply rail and 4 to 7 on the other.
abbrev pub rail_size : ℕ
rail_size = 4

-- Sizes in bytes.
abbrev pub control_size : ℕ
control_size = 32

abbrev pub slot_size : ℕ
slot_size = 5

abbrev pub block_size : ℕ
block_size = 1 + slot_count * slot_size

abbrev pub blocks_size : ℕ
blocks_size = block_count * block_size

-- Behind a table's blocks: the stamp, a serial of three bytes and a mask.
abbrev pub stamp_size : ℕ
stamp_size = 4

-- The pairs of a placement by table: of each block two cards, in six bits.
abbrev pub pairs_size : ℕ
pairs_size = 48

-- Those of all active placements.
abbrev pub tail_size : ℕ
tail_size = most_active * pairs_size

-- Where a slot starts in its block, and a block in its table.
abbrev pub slot_start : ℕ → ℕ
slot_start i = 1 + i * slot_size

abbrev pub block_start : ℕ → ℕ
block_start b = b * block_size

-- ---- what the deliveries differ in: the bytes behind the blocks of a table, and behind the tables
pub record Layout : Type 0 where
  pub table_tail : ℕ
  pub image_tail : ℕ

module _ (y : Layout) where
  abbrev pub table_size_of : ℕ
  table_size_of = blocks_size + y.table_tail

  -- Where a table starts, a block, the bytes behind a table's blocks, and those behind the tables.
  abbrev pub table_start_of : ℕ → ℕ
  table_start_of c = control_size + c * table_size_of

  abbrev pub block_address_of : ℕ → ℕ → ℕ
  block_address_of c b = table_start_of c + block_start b

  abbrev pub end_start_of : ℕ → ℕ
  end_start_of c = table_start_of c + blocks_size

  abbrev pub tail_start_of : ℕ
  tail_start_of = table_start_of card_count

  abbrev pub image_size_of : ℕ
  image_size_of = tail_start_of + y.image_tail

-- ---- the layout in force
abbrev pub layout : Layout
layout = record { table_tail = stamp_size; image_tail = tail_size }

abbrev pub table_size : ℕ
table_size = table_size_of layout

abbrev pub image_size : ℕ
image_size = image_size_of layout

abbrev pub table_start : ℕ → ℕ
table_start = table_start_of layout

abbrev pub block_address : ℕ → ℕ → ℕ
block_address = block_address_of layout

abbrev pub end_start : ℕ → ℕ
end_start = end_start_of layout

abbrev pub tail_start : ℕ
tail_start = tail_start_of layout
