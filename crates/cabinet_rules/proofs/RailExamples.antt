-- Examples of request A.1, computed from the rules: an older store goes onto two rails. Assumes nothing.
use Prim.Native.Nat.{ℕ}
use mathlib.Core.List.{List, [], ◌∷◌}
use mathlib.Core.Path.{◌≡◌, refl}
use Rattle.lists.specs.Tabulate.{tabulate}
use Rattle.mask.specs.Masks.{byte, has_card, is_within, members, no_cards, size, with_card, without_card}
use Rattle.mask.specs.Placements.{across_rails, chained_sites, member_at, members_after, rail_sites, sites_of}
use Rattle.slot.specs.Blocks.{end_slots, ended_byte, is_held, lock_slot, put_slot, word_at}
use Rattle.slot.specs.Words.{slot_of, word_of}
use Rattle.method.specs.Rules.{settled_by}
use Rattle.method.specs.Growth.{grown_state}
use Rattle.method.specs.OneRecordList.{rules_after, zeroed}
use Rattle.method.specs.Rules.{Call, State, act, answer_of, any_locked, apply, begin, clear_card, commit, drop_held, end_held}
use Rattle.method.specs.Rules.{fail, get, holders, is_protected, lay_block, lock_holders, look, lost_of, move, move_writes}
use Rattle.method.specs.Rules.{next_state, place, plan, refusal, settle, settled, start, stopping, store, trail}
use Rattle.control.specs.ControlBytes.{control_byte}
use Rattle.cabinet_rules.specs.Cabinet.{cabinet, place_rows, rules_of, start_row}
use Rattle.cabinet_rules.specs.Places.{by_mask, placed_row}
use Rattle.cabinet_rules.specs.Delivery.{resuming}
use Rattle.cabinet_rules.specs.Retired.{base, below_wire, by_tables, two_rails}
use Rattle.cabinet_rules.specs.GoesOn.{from_base, from_rails, from_tables, from_wire}
use Rattle.cabinet_rules.proofs.GoesOn.{growth_of}
use Rattle.cabinet_rules.proofs.Examples.{answers, answers_by}

-- An older store: the base's start with cards 0, 1, 4 and 5, and record 0, in block 0, stored as 4660 and committed.
older : State cabinet
unfolding rules_after
older = grown_state (rules_of by_tables) (growth_of by_tables resuming from_tables)
    (grown_state (rules_of below_wire) (growth_of below_wire by_tables from_wire) (grown_state (rules_of two_rails) (growth_of two_rails below_wire from_rails)
    (grown_state (rules_of base) (growth_of base two_rails from_base) (rules_after (rules_of base) (start (byte 0xCC) ∷ begin 1 0 ∷ store 1 0 4660 ∷ commit 1 ∷ []) (zeroed (rules_of base) no_cards)))))

-- Byte 7 after calls.
marks : List (Call cabinet) → State cabinet → ℕ
unfolding rules_after
marks l s = control_byte (rules_after cabinet l s).control 7

-- Start writes mark 1. An older store is marked 0, and the newest mask is placed again there, once. The block then lies at 0 and 1 and
-- goes to 0 and 4; settle moves the mark. A fail writes 1 behind an older placement.
rail-examples :
    (marks (start (byte 0xCC) ∷ []) (zeroed cabinet no_cards) ∷ [])
    ∷ (marks [] older ∷ [])
    ∷ (marks (place (by_mask (byte 0xCC)) ∷ []) older ∷ [])
    ∷ (marks (fail 1 ∷ []) older ∷ [])
    ∷ (marks (place (by_mask (byte 0xCC)) ∷ move 0 0 ∷ move 1 0 ∷ settle ∷ []) older ∷ [])
    ∷ answers (place (by_mask (byte 0xCC)) ∷ place (by_mask (byte 0xCC)) ∷ move 0 0 ∷ settle ∷ move 1 0 ∷ settle ∷ begin 2 0 ∷ get 2 0 ∷ []) older
    ≡ (0x80 ∷ [])
    ∷ (0x00 ∷ [])
    ∷ (0x40 ∷ [])
    ∷ (0x40 ∷ [])
    ∷ (0x80 ∷ [])
    ∷ (0 ∷ []) ∷ (15 ∷ 9 ∷ []) ∷ (6 ∷ 1 ∷ []) ∷ (15 ∷ 13 ∷ []) ∷ (6 ∷ 0 ∷ []) ∷ (7 ∷ 1 ∷ []) ∷ (0 ∷ []) ∷ (1 ∷ 4660 ∷ [])
    ∷ []
unfolding older marks rules_after control_byte answers_by answer_of next_state apply plan refusal act look trail holders lost_of stopping settled settled_by is_protected lock_holders
    lay_block end_held drop_held clear_card move_writes any_locked has_card with_card without_card is_within member_at chained_sites members_after across_rails rail_sites sites_of start_row
    place_rows placed_row is_held word_at slot_of word_of put_slot lock_slot ended_byte end_slots tabulate members size
rail-examples = refl
