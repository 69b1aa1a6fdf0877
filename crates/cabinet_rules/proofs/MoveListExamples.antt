-- Examples of request A.3, computed from the rules: the move list and what its call answers. Assumes nothing.
use Prim.Native.Nat.{ℕ}
use mathlib.Core.List.{List, [], ◌∷◌, ◌++◌}
use mathlib.Core.Path.{◌≡◌, refl}
use Rattle.lists.specs.Tabulate.{tabulate}
use Rattle.mask.specs.Masks.{byte, has_card, is_within, members, size, with_card, without_card}
use Rattle.mask.specs.Placements.{across_rails, chained_sites, member_at, members_after, rail_sites, sites_of}
use Rattle.slot.specs.Blocks.{end_slots, ended_byte, is_held, lock_slot, put_slot, word_at}
use Rattle.slot.specs.Words.{slot_of, word_of}
use Rattle.method.specs.MoveList.{origin_by}
use Rattle.method.specs.Rules.{settled_by}
use Rattle.method.specs.MoveList.{Entry, ListAnswer, any_move_locked, list_answer, listed, move_list, moves_of, no_list}
use Rattle.method.specs.MoveList.{not_listed}
use Rattle.method.specs.Rules.{Call, act, answer_of, any_locked, apply, begin, clear_card, commit, drop_held, end_held}
use Rattle.method.specs.Rules.{fail, holders, is_protected, lay_block, lock_holders, look, lost_of, move, move_writes, next_state}
use Rattle.method.specs.Rules.{place, plan, refusal, settle, settled, start, stopping, store, trail}
use Rattle.cabinet_rules.specs.Cabinet.{cabinet, place_rows, start_row}
use Rattle.cabinet_rules.specs.Places.{by_mask, placed_row}
use Rattle.cabinet_rules.proofs.Examples.{after_all, answers_by, final, nothing}

-- An answer as numbers: its kind, then its number; and the cards and blocks of a list.
abbrev answer_numbers : ListAnswer → List ℕ
answer_numbers (listed n) = 0 ∷ n ∷ []
answer_numbers no_list = 1 ∷ []
answer_numbers (not_listed n) = 15 ∷ n ∷ []

abbrev entry_numbers : List Entry → List ℕ
entry_numbers [] = []
entry_numbers (e ∷ l) = e.card ∷ e.block ∷ entry_numbers l

-- After a start with a mask and calls: the list, and the answer to a lent list with so much room.
moves : ℕ → List (Call cabinet) → List ℕ
unfolding after_all
moves m l = let s = after_all (start (byte m) ∷ l) nothing in entry_numbers (move_list cabinet s.control (look cabinet s))

answered : ℕ → ℕ → List (Call cabinet) → List ℕ
unfolding after_all
answered room m l = let s = after_all (start (byte m) ∷ l) nothing in answer_numbers (list_answer cabinet s.control (look cabinet s) room)

-- Records of blocks 0, 1 and 2 are stored and committed; then cards 2 and 3 alone are placed.
abbrev three : List (Call cabinet)
three = begin 1 0 ∷ store 1 0 7 ∷ store 1 9 7 ∷ store 1 17 7 ∷ commit 1 ∷ place (by_mask (byte 0x30)) ∷ []

-- A record of block 0 is stored and not committed; then other cards are placed, or the same.
abbrev open-store : List (Call cabinet)
open-store = begin 1 0 ∷ store 1 0 7 ∷ []

-- A bare start. Block 0 at 0 and 1 goes to 2 and 3, two moves; block 1 at 1 and 2 goes to 3 and 2, one move; block 2 at 2 and 3 stays.
-- The room needed, and one too little. Settle after these moves, and after all but the last. A failed site: the other sends. A locked block
-- that must move, with no room either, and one that need not.
move-list-examples :
    answered 0 0xE0 []
    ∷ moves 0xF0 three
    ∷ answered 3 0xF0 three
    ∷ answered 2 0xF0 three
    ∷ final 0xF0 (three ++ (move 0 0 ∷ move 1 0 ∷ move 1 1 ∷ settle ∷ []))
    ∷ final 0xF0 (three ++ (move 0 0 ∷ move 1 0 ∷ settle ∷ []))
    ∷ moves 0xE0 (begin 1 0 ∷ store 1 9 7 ∷ commit 1 ∷ fail 1 ∷ [])
    ∷ answered 0 0xF0 (open-store ++ (place (by_mask (byte 0x30)) ∷ []))
    ∷ answered 0 0xF0 open-store
    ∷ []
    ≡ (0 ∷ 0 ∷ [])
    ∷ (0 ∷ 0 ∷ 1 ∷ 0 ∷ 1 ∷ 1 ∷ [])
    ∷ (0 ∷ 3 ∷ [])
    ∷ (15 ∷ 16 ∷ [])
    ∷ (7 ∷ 1 ∷ [])
    ∷ (15 ∷ 13 ∷ [])
    ∷ (2 ∷ 1 ∷ [])
    ∷ (1 ∷ [])
    ∷ (0 ∷ 0 ∷ [])
    ∷ []
unfolding moves answered final answers_by after_all answer_of next_state apply plan refusal act look trail holders lost_of stopping settled settled_by is_protected lock_holders lay_block
    end_held drop_held clear_card move_writes any_locked has_card with_card without_card is_within member_at chained_sites members_after across_rails rail_sites sites_of start_row place_rows placed_row
    is_held word_at slot_of word_of put_slot lock_slot ended_byte end_slots tabulate members size origin_by moves_of move_list any_move_locked list_answer
move-list-examples = refl
