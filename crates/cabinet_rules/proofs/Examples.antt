-- The marked examples M1 to M10 in one table (RULES, "The calls"), and the ten answers of the listing (RULES, "Commands
-- and the listing"), computed from the rules. Assumes nothing.
use Prim.Native.Nat.{◌+◌, ℕ}
use mathlib.Core.List.{List, [], ◌∷◌}
use mathlib.Core.Path.{◌≡◌, refl}
use Rattle.lists.specs.Tabulate.{tabulate}
use Rattle.image.specs.Layout.{slot_start}
use Rattle.mask.specs.Masks.{byte, has_card, is_within, members, no_cards, size, with_card, without_card}
use Rattle.mask.specs.Placements.{across_rails, chained_sites, from_mask, member_at, members_after, rail_sites, sites_of}
use Rattle.slot.specs.Blocks.{byte_in, end_slots, ended_byte, is_held, lock_slot, put_slot, word_at}
use Rattle.slot.specs.Words.{slot_of, word_of}
use Rattle.method.specs.Rules.{settled_by}
use Rattle.method.specs.OneRecordList.{zeroed}
use Rattle.method.specs.Parameters.{Parameters}
use Rattle.method.specs.Rules.{Answer, Call, State, absent, act, answer_of, any_locked, apply, begin, clear_card, commit}
use Rattle.method.specs.Rules.{copied, delete, drop_held, end_held, fail, get, holders, is_protected, lay_block, loaded}
use Rattle.method.specs.Rules.{lock_holders, look, lost_of, move, move_writes, next_state, ok, place, placed, plan}
use Rattle.method.specs.Rules.{protected, refusal, refused, retired, settle, settled, start, stopping, stops}
use Rattle.method.specs.Rules.{store, trail, unplaced, unprotected, value}
use Rattle.cabinet_rules.specs.Cabinet.{cabinet, place_rows, rules_of, start_row}
use Rattle.cabinet_rules.specs.Places.{by_mask, placed_row}
use Rattle.cabinet_rules.specs.Delivery.{Delivery, current}

-- An answer as numbers: its kind, then its number.
abbrev pub answer_numbers : Answer cabinet → List ℕ
answer_numbers ok = 0 ∷ []
answer_numbers (value n) = 1 ∷ n ∷ []
answer_numbers absent = 2 ∷ []
answer_numbers (placed m) = 3 ∷ m.0 ∷ []
answer_numbers unplaced = 4 ∷ []
answer_numbers stops = 5 ∷ []
answer_numbers (copied n) = 6 ∷ n ∷ []
answer_numbers (retired n) = 7 ∷ n ∷ []
answer_numbers protected = 8 ∷ []
answer_numbers unprotected = 9 ∷ []
answer_numbers (loaded n) = 10 ∷ n ∷ []
answer_numbers (refused n) = 15 ∷ n ∷ []

-- The state after a list of calls, and the answers of all of them.
unfoldable pub after_all : List (Call cabinet) → State cabinet → State cabinet
after_all [] s = s
after_all (c ∷ l) s = after_all l (next_state cabinet c s)

unfoldable pub answers_by : (D : Delivery) → List (Call (rules_of D)) → State (rules_of D) → List (List ℕ)
answers_by D [] s = []
answers_by D (c ∷ l) s = answer_numbers (answer_of (rules_of D) c s) ∷ answers_by D l (next_state (rules_of D) c s)

abbrev pub answers : List (Call cabinet) → State cabinet → List (List ℕ)
answers = answers_by current

-- Before the first start: nothing is there.
abbrev pub nothing : State cabinet
nothing = zeroed cabinet no_cards

abbrev pub last_of : List (List ℕ) → List ℕ
last_of [] = []
last_of (x ∷ []) = x
last_of (x ∷ (y ∷ l)) = last_of (y ∷ l)

-- The last answer of a start with a mask and the calls after it.
unfoldable pub final : ℕ → List (Call cabinet) → List ℕ
unfolding answers_by
final m l = last_of (answers (start (byte m) ∷ l) nothing)

-- The five bytes of slot i in block b of card c after them.
slot_bytes : ℕ → List (Call cabinet) → ℕ → ℕ → ℕ → List ℕ
unfolding after_all
slot_bytes m l c b i =
    let x = (after_all (start (byte m) ∷ l) nothing).block c b in
    byte_in x (slot_start i) ∷ byte_in x (slot_start i + 1) ∷ byte_in x (slot_start i + 2) ∷ byte_in x (slot_start i + 3) ∷ byte_in x (slot_start i + 4) ∷ []

-- M1 to M10: each row begins with its example's number.
marked-examples :
    (1 ∷ sites_of (from_mask (byte 0xE0)) 1)
    ∷ (1 ∷ sites_of (from_mask (byte 0xE0)) 2)
    ∷ (2 ∷ sites_of (from_mask (byte 0x81)) 63)
    ∷ (3 ∷ Parameters.block_of cabinet 511 ∷ final 0xE0 (begin 1 0 ∷ store 1 511 7 ∷ []))
    ∷ (3 ∷ final 0xE0 (begin 1 0 ∷ store 1 512 7 ∷ []))
    ∷ (4 ∷ final 0x80 [])
    ∷ (4 ∷ final 0xC0 [])
    ∷ (5 ∷ slot_bytes 0xE0 (begin 1 0 ∷ store 1 9 4660 ∷ commit 1 ∷ []) 1 1 1)
    ∷ (5 ∷ slot_bytes 0xE0 (begin 1 0 ∷ store 1 9 4660 ∷ []) 2 1 1)
    ∷ (6 ∷ final 0xE0 (fail 1 ∷ []))
    ∷ (6 ∷ final 0xA0 (fail 2 ∷ []))
    ∷ (7 ∷ final 0xF0 (place (by_mask (byte 0xE0)) ∷ place (by_mask (byte 0x70)) ∷ []))
    ∷ (7 ∷ final 0xF0 (place (by_mask (byte 0xE0)) ∷ place (by_mask (byte 0x70)) ∷ place (by_mask (byte 0xC0)) ∷ []))
    ∷ (8 ∷ final 0xE0 (begin 1 0 ∷ store 1 9 1 ∷ move 1 1 ∷ []))
    ∷ (9 ∷ final 0xE0 (begin 1 0 ∷ delete 1 9 ∷ []))
    ∷ (9 ∷ final 0xE0 (begin 1 0 ∷ delete 1 9 ∷ begin 2 0 ∷ store 2 9 5 ∷ []))
    ∷ (10 ∷ final 0xE0 (settle ∷ []))
    ∷ []
    ≡ (1 ∷ 1 ∷ 2 ∷ [])
    ∷ (1 ∷ 2 ∷ 0 ∷ [])
    ∷ (2 ∷ 7 ∷ 0 ∷ [])
    ∷ (3 ∷ 63 ∷ 0 ∷ [])
    ∷ (3 ∷ 15 ∷ 3 ∷ [])
    ∷ (4 ∷ 15 ∷ 9 ∷ [])
    ∷ (4 ∷ 0 ∷ [])
    ∷ (5 ∷ 0x89 ∷ 0x1A ∷ 0x00 ∷ 0x00 ∷ 0x00 ∷ [])
    ∷ (5 ∷ 0x00 ∷ 0x00 ∷ 0x0C ∷ 0x48 ∷ 0xD0 ∷ [])
    ∷ (6 ∷ 3 ∷ 0xA0 ∷ [])
    ∷ (6 ∷ 5 ∷ [])
    ∷ (7 ∷ 0 ∷ [])
    ∷ (7 ∷ 15 ∷ 10 ∷ [])
    ∷ (8 ∷ 15 ∷ 12 ∷ [])
    ∷ (9 ∷ 2 ∷ [])
    ∷ (9 ∷ 0 ∷ [])
    ∷ (10 ∷ 7 ∷ 0 ∷ [])
    ∷ []
unfolding final slot_bytes after_all answers_by answer_of next_state apply plan refusal act look trail holders lost_of stopping settled settled_by is_protected lock_holders lay_block end_held
    drop_held clear_card move_writes any_locked has_card with_card without_card is_within member_at chained_sites members_after across_rails rail_sites sites_of start_row place_rows placed_row is_held word_at
    slot_of word_of put_slot lock_slot ended_byte end_slots tabulate members size
marked-examples = refl

-- The ten answers of the listing.
listing :
    answers (start (byte 0xE0) ∷ begin 1 0 ∷ store 1 9 4660 ∷ commit 1 ∷ fail 1 ∷ move 2 1 ∷ settle ∷ begin 1 0 ∷ get 1 9 ∷ fail 2 ∷ []) nothing
    ≡ (0 ∷ []) ∷ (0 ∷ []) ∷ (0 ∷ []) ∷ (0 ∷ []) ∷ (3 ∷ 0xA0 ∷ []) ∷ (6 ∷ 1 ∷ []) ∷ (7 ∷ 1 ∷ []) ∷ (0 ∷ []) ∷ (1 ∷ 4660 ∷ []) ∷ (5 ∷ []) ∷ []
unfolding answers_by answer_of next_state apply plan refusal act look trail holders lost_of stopping settled settled_by is_protected lock_holders lay_block end_held drop_held clear_card
    move_writes any_locked has_card with_card without_card is_within member_at chained_sites members_after across_rails rail_sites sites_of start_row place_rows placed_row is_held word_at slot_of word_of
    put_slot lock_slot ended_byte end_slots tabulate members size
listing = refl
