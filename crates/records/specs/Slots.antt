-- The slots of a record on an image. Assumes nothing.
use Rattle.std.specs.Prelude.{◌%◌, ◌/◌, ℕ, Bool}
use Rattle.image.specs.Layout.{slot_count}
use Rattle.slot.specs.Words.{state_of}
use Rattle.slot.specs.declared.Slot.{Slot as Struct}
use Rattle.method.specs.Rules.{locked_out, look, seen_slot}
use Rattle.method.specs.Slots.{Slot, locked_by_other}
use Rattle.cabinet_rules.specs.Cabinet.{cabinet, slot_seen}
use Rattle.cabinet_rules.specs.Images.{Image, block_in, control_in, state_in}

-- The code's slot as the rules see it.
abbrev pub rules_slot : Struct → Slot
rules_slot s = record { committed = state_of s.committed; lock = s.lock; pending = state_of s.pending }

-- The slot that a read of record r sees.
abbrev pub seen_in : Image → ℕ → Slot
seen_in g r = seen_slot cabinet (control_in g) (look cabinet (state_in g)) r

-- Row 7: some holder's slot is locked by another number than t.
abbrev pub locked_out_in : Image → ℕ → ℕ → Bool
locked_out_in g t r = locked_out cabinet (control_in g) (look cabinet (state_in g)) t r

-- The slot of record r on card c is locked by another number than t.
unfoldable pub locked_at : Image → ℕ → ℕ → ℕ → Bool
locked_at g t r c = locked_by_other t (slot_seen (block_in g c (r / slot_count)) (r % slot_count))
