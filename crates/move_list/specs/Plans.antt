-- What the code finds of the moves in an image. Assumes nothing.
use Rattle.std.specs.Prelude.{Option, Some, None, is_none, IfSome, Result, Ok, Err, IfOk, suc, zero, ℕ, ltb, get_or, length, cond, List, [], ◌++◌, ◌∷◌, map, ◌≡◌}
use Rattle.lists.specs.Tests.{concat_map, numbers_below}
use Rattle.image.specs.Layout.{block_count}
use Rattle.mask.specs.Masks.{byte, members}
use Rattle.method.specs.MoveList.{Entry, ListAnswer, any_move_locked, entry_at, listed, no_list, not_listed}
use Rattle.cabinet_rules.specs.Cabinet.{cabinet}
use Rattle.cabinet_rules.specs.Images.{Image, control_in}
use Rattle.cabinet_rules.specs.MoveLists.{list_refusal, moves_on}
use Rattle.promise.specs.Given.{view_of}
use Rattle.refusals.specs.Refusals.{number, row_of}
use Rattle.refusals.specs.declared.Refusal.{Refusal}
use Rattle.refusals.specs.declared.Refusal.TheVariants.{List as TooShort}
use Rattle.move_list.specs.declared.Move.{Move}
use Rattle.move_list.specs.declared.Plan.{Plan}

-- ---- the moves that masks stand for
-- Of each block the members of its mask, blocks rising and then cards rising.
abbrev pub moves_at : List ℕ → ℕ → List Entry
moves_at origins b = map (entry_at b) (members (byte (get_or origins b 0)))

unfoldable pub moves_in : List ℕ → List Entry
moves_in origins = concat_map (moves_at origins) (numbers_below block_count)

-- The code's entry for one of the rules'; number n of a list of entries, and the first n of them.
abbrev pub move_for : Entry → Move
move_for e = record { 0 = record { 0 = e.card }; 1 = record { 0 = e.block } }

unfoldable pub move_at : List Entry → ℕ → Move
move_at l n = move_for (get_or l n (entry_at 0 0))

abbrev pub first_moves : List Entry → ℕ → List Move
first_moves l zero = []
first_moves l (suc n) = first_moves l n ++ (move_at l n ∷ [])

-- ---- a plan
-- No move is locked and the masks stand for these moves; or one is locked, and there is no plan.
pub record Finds (g : Image) (p : Option Plan) : Type 0 where
  pub locked-is : is_none p ≡ any_move_locked cabinet (control_in g) (view_of g)
  pub moves-are : IfSome p (λ q. moves_in q.origins ≡ moves_on g)
  pub count-is : IfSome p (λ q. q.count ≡ length (moves_on g))

-- What is found in an image: the call is refused, or this.
pub record Plans (g : Image) (p : Result (Option Plan) Refusal) : Type 0 where
  pub refusal_is : row_of p ≡ list_refusal g
  pub finds : IfOk p (Finds g)

-- How many moves are listed in a lent list with so much room: all that there are, or the list is too short.
unfoldable pub plan_answer : Plan → ℕ → Result ℕ Refusal
plan_answer p room = cond (ltb room p.count) (Err TooShort) (Ok p.count)

-- The answer of the rules for that.
abbrev pub plan_listed : Result ℕ Refusal → ListAnswer
plan_listed (Ok n) = listed n
plan_listed (Err r) = not_listed (number r)

-- What is answered to such a list by what was found, whose refusal stands for a number: what a plan answers, that a move is
-- locked, or the refusal.
unfoldable pub found_answer : {E : Type 0} → (E → ℕ) → Result (Option Plan) E → ℕ → ListAnswer
found_answer numbered (Ok (Some p)) room = plan_listed (plan_answer p room)
found_answer numbered (Ok None) room = no_list
found_answer numbered (Err r) room = not_listed (numbered r)

-- How many entries of the list are then filled: none but where moves are listed.
abbrev pub entries_of : ListAnswer → ℕ
entries_of (listed n) = n
entries_of no_list = 0
entries_of (not_listed n) = 0
