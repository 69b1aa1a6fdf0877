-- This cabinet: the values that the rules of the method take. Eight cards, two copies, 64 blocks of eight records.
-- Assumes nothing.
use Rattle.std.specs.Prelude.{◌%◌, ◌/◌, ℕ, ltb, Bool, ◌&&◌}
use Rattle.image.specs.Layout.{block_count, card_count, copy_count, record_count, slot_count, tran_bound, most_placed}
use Rattle.mask.specs.Masks.{Byte, has_card, no_cards, with_card, without_card}
use Rattle.slot.specs.Blocks.{BlockBytes, empty_block, end_slots, fresh_block, is_held, lock_slot, slot_at}
use Rattle.slot.specs.Words.{state_of}
use Rattle.method.specs.Parameters.{Parameters}
use Rattle.method.specs.Slots.{Slot}
use Rattle.control.specs.ControlBytes.{Setting}
use Rattle.cabinet_rules.specs.Delivery.{Delivery, current}
unfoldable pub use Rattle.cabinet_rules.specs.Places.{place_rows, start_row}

-- A slot as the rules see it: an absence shows no value, and the unnamed bits are ignored.
abbrev pub slot_seen : BlockBytes → ℕ → Slot
slot_seen x i = record {
  committed = state_of (slot_at x i).committed;
  lock = (slot_at x i).lock;
  pending = state_of (slot_at x i).pending;
}

-- Transactions are 1 to 15.
abbrev pub tran_ok : ℕ → Bool
tran_ok t = ltb 0 t && ltb t tran_bound

module _ (D : Delivery) where
  -- The rules by a delivery.
  abbrev pub rules_of : Parameters
  rules_of = record {
    Mask = Byte;
    Placement = D.Placement;
    Setting = Setting;
    Block = BlockBytes;
    Serial = D.Serial;
    first_serial = D.first_serial;
    next_serial = D.next_serial;
    numbered = D.numbered;
    Stamp = D.memory.Stamp;
    no_stamp = D.memory.no_stamp;
    stamp_of = D.memory.stamp_of;
    same_stamp = D.memory.same_stamp;
    marks_while_stopped = D.marks_while_stopped;
    StartArgument = Byte;
    PlaceArgument = D.PlaceArgument;
    cards = card_count;
    transactions = tran_bound;
    slots = slot_count;
    copies = λ σ. copy_count;
    blocks = λ σ. block_count;
    tran_in_range = tran_ok;
    rec_in_range = λ σ r. ltb r record_count;
    value_in_range = D.value_in_range;
    -- a block has eight records, in the order of their numbers
    block_of = λ r. r / slot_count;
    place_of = λ r. r % slot_count;
    has = has_card;
    no_cards = no_cards;
    insert = with_card;
    remove = without_card;
    mask = D.mask;
    sites = λ σ p b. D.sites p b;
    without = λ p c. D.from_mask (without_card (D.mask p) c);
    usable = λ σ p. D.usable p;
    starts = D.from_mask;
    start_setting = λ m. tt;
    start_refusal = start_row;
    places = D.places;
    place_in_range = D.place_in_range;
    place_refusal = D.place_refusal;
    place_limit = λ σ. most_placed;
    empty = empty_block;
    fresh = fresh_block;
    held = is_held;
    slot = slot_seen;
    lock_slot = lock_slot;
    end_slots = end_slots;
  }

-- The rules in force.
abbrev pub cabinet : Parameters
cabinet = rules_of current
