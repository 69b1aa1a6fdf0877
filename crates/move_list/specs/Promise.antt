-- The promise of the call that lists moves (request A.3). Assumes nothing.
use Rattle.std.specs.Prelude.{Option, Some, None, Result, Ok, Err, ◌*◌, ◌≤◌, ℕ, drop, length, replicate, List, ◌++◌, map, ◌≡◌}
use Rattle.image.specs.Layout.{block_count, card_count}
use Rattle.method.specs.MoveList.{ListAnswer, listed, no_list, not_listed}
use Rattle.cabinet_rules.specs.Images.{Image}
use Rattle.cabinet_rules.specs.MoveLists.{list_answer_on, moves_on}
use Rattle.move_list.specs.Plans.{move_for}
use Rattle.refusals.specs.Refusals.{number}
use Rattle.refusals.specs.declared.Refusal.{Refusal}
use Rattle.move_list.specs.declared.Move.{Move}

-- What the call answers: the number of moves, none where one of them is locked, or its refusal.
abbrev pub Listed : Type 0
Listed = Result (Option ℕ) Refusal

-- The answer of the rules for it, by the number that its refusal stands for; and where that is a refusal of the table.
abbrev pub shown_list_by : {E : Type 0} → (E → ℕ) → Result (Option ℕ) E → ListAnswer
shown_list_by numbered (Ok (Some n)) = listed n
shown_list_by numbered (Ok None) = no_list
shown_list_by numbered (Err r) = not_listed (numbered r)

abbrev pub shown_list : Listed → ListAnswer
shown_list = shown_list_by number

-- The lent list after the call: the moves in its first entries, those beyond their number as lent; the whole list as
-- lent where the answer is 'none' or a refusal.
abbrev pub filled_by : ListAnswer → List Move → List Move → List Move
filled_by (listed n) moves lent = moves ++ drop n lent
filled_by no_list moves lent = lent
filled_by (not_listed n) moves lent = lent

unfoldable pub list_after : Image → List Move → List Move
list_after g lent = filled_by (list_answer_on (length lent) g) (map move_for (moves_on g)) lent

-- A list that has room for every list of moves: every block from every card.
abbrev pub most_moves : ℕ
most_moves = card_count * block_count

abbrev pub blank_move : Move
blank_move = record { 0 = record { 0 = 0 }; 1 = record { 0 = 0 } }

unfoldable pub blank_list : List Move
blank_list = replicate most_moves blank_move

-- No list of moves is longer, so a lent list of so many entries is never too short.
unfoldable pub EveryListFits : Type 0
EveryListFits = (g : Image) → length (moves_on g) ≤ most_moves

-- The call on an image with a lent list answered a and left the list filled.
pub record ListDone (g : Image) (lent : List Move) (a : Listed) (filled : List Move) : Type 0 where
  pub answers : shown_list a ≡ list_answer_on (length lent) g
  pub fills : filled ≡ list_after g lent
