-- Stops that are resumed and stops that stay final, computed from the rules (RULES, "Start again after a stop"). Assumes nothing.
use Prim.Native.Nat.{ℕ}
use mathlib.Core.List.{List, [], ◌∷◌}
use mathlib.Core.Path.{◌≡◌, refl}
use Rattle.lists.specs.Tabulate.{tabulate}
use Rattle.mask.specs.Masks.{byte, has_card, is_within, members, size, with_card, without_card}
use Rattle.mask.specs.Placements.{across_rails, chained_sites, member_at, members_after, rail_sites, sites_of}
use Rattle.slot.specs.Blocks.{end_slots, ended_byte, is_held, lock_slot, put_slot, word_at}
use Rattle.slot.specs.Words.{slot_of, word_of}
use Rattle.method.specs.Returning.{after_return, can_run, drop_locks, is_stale, return_answer, return_refusal, returning}
use Rattle.method.specs.Rules.{State, act, answer_of, any_locked, apply, begin, clear_card, clear_stamp, commit, drop_held, end_held, fail, get, holders}
use Rattle.method.specs.Rules.{is_protected, lay_block, lock_holders, look, lost_of, move_writes, next_state, place, plan, refusal, settled, settled_by, stamp_all}
use Rattle.method.specs.Rules.{stamped, start, stopping, store, trail}
use Rattle.method.specs.ThroughStops.{Step, call, return}
use Rattle.control.specs.Stamps.{same_stamp}
use Rattle.cabinet_rules.specs.Cabinet.{cabinet, place_rows, start_row}
use Rattle.cabinet_rules.specs.Places.{by_mask, placed_row}
use Rattle.cabinet_rules.proofs.Examples.{answer_numbers, nothing}

-- The answers of a list of calls and returns.
said : List (Step cabinet) → State cabinet → List (List ℕ)
said [] s = []
said (call c ∷ l) s = answer_numbers (answer_of cabinet c s) ∷ said l (next_state cabinet c s)
said (return c ∷ l) s = answer_numbers (return_answer cabinet c s) ∷ said l (after_return cabinet c s)

-- Cards 0, 1 and 2 hold the records; record 9 is stored as 4660 and committed, and stored again as 1 in a transaction that stays open. The supply fails: 1 goes,
-- and a placement of 0 and 2 follows; 0 goes, and the store stops; 2 goes while it is stopped. A get says 4. Card 1 is stale: the newest placement does not name
-- it. 2 and 0 come back, and the record is what was committed; the transaction is closed.
resumed : said (call (start (byte 0xE0)) ∷ call (begin 1 0) ∷ call (store 1 9 4660) ∷ call (commit 1) ∷ call (begin 2 2) ∷ call (store 2 9 1)
    ∷ call (fail 1) ∷ call (fail 0) ∷ call (fail 2) ∷ call (get 2 9) ∷ return 1 ∷ return 2 ∷ return 2 ∷ call (get 2 9) ∷ return 0 ∷ call (get 2 9)
    ∷ call (begin 3 0) ∷ call (get 3 9) ∷ []) nothing
    ≡ (0 ∷ []) ∷ (0 ∷ []) ∷ (0 ∷ []) ∷ (0 ∷ []) ∷ (0 ∷ []) ∷ (0 ∷ [])
    ∷ (3 ∷ 0xA0 ∷ []) ∷ (5 ∷ []) ∷ (5 ∷ []) ∷ (15 ∷ 4 ∷ []) ∷ (15 ∷ 19 ∷ []) ∷ (0 ∷ []) ∷ (15 ∷ 8 ∷ []) ∷ (15 ∷ 4 ∷ []) ∷ (0 ∷ []) ∷ (15 ∷ 5 ∷ [])
    ∷ (0 ∷ []) ∷ (1 ∷ 4660 ∷ []) ∷ []
unfolding said answer_of next_state apply plan refusal act look trail holders lost_of stopping settled settled_by is_protected lock_holders lay_block end_held drop_held clear_card
    clear_stamp stamp_all stamped move_writes any_locked has_card with_card without_card is_within member_at chained_sites members_after across_rails rail_sites sites_of start_row place_rows
    placed_row is_held word_at slot_of word_of put_slot lock_slot ended_byte end_slots tabulate members size after_return return_answer returning return_refusal is_stale same_stamp can_run drop_locks
resumed = refl

-- Start F0, place E0, and cards 0, 1, 2, 3 fail: 1 and 2 come back, 0 is stale, since it failed before the newest placement was made, and 3 is not named. The
-- placement F0 keeps two failed cards, so the store stays stopped, though every byte is there.
final : said (call (start (byte 0xF0)) ∷ call (place (by_mask (byte 0xE0))) ∷ call (fail 0) ∷ call (fail 1) ∷ call (fail 2) ∷ call (fail 3)
    ∷ return 0 ∷ return 3 ∷ return 1 ∷ return 2 ∷ call (begin 1 1) ∷ []) nothing
    ≡ (0 ∷ []) ∷ (0 ∷ []) ∷ (3 ∷ 0x60 ∷ []) ∷ (5 ∷ []) ∷ (5 ∷ []) ∷ (5 ∷ [])
    ∷ (15 ∷ 19 ∷ []) ∷ (15 ∷ 19 ∷ []) ∷ (0 ∷ []) ∷ (0 ∷ []) ∷ (15 ∷ 4 ∷ []) ∷ []
unfolding said answer_of next_state apply plan refusal act look trail holders lost_of stopping settled settled_by is_protected lock_holders lay_block end_held drop_held clear_card
    clear_stamp stamp_all stamped move_writes any_locked has_card with_card without_card is_within member_at chained_sites members_after across_rails rail_sites sites_of start_row place_rows
    placed_row is_held word_at slot_of word_of put_slot lock_slot ended_byte end_slots tabulate members size after_return return_answer returning return_refusal is_stale same_stamp can_run drop_locks
final = refl
