-- What a list of moves is worth to a caller (request A.3): the statements, of the calls. Assumes nothing.
use Rattle.std.specs.Prelude.{Ok, Some, None, ◌≤◌, ℕ, length, take, List, map, ◌≡◌}
use Rattle.mask.specs.Masks.{byte}
use Rattle.method.specs.Rules.{Call, refused, retired, settle, start}
use Rattle.cabinet_rules.specs.Cabinet.{cabinet}
use Rattle.cabinet_rules.specs.Claims.{noisy}
use Rattle.cabinet_rules.specs.GoesOn.{Earlier, Store}
use Rattle.cabinet_rules.specs.Images.{Image, control_in}
use Rattle.move_list.specs.Promise.{ListDone}
use Rattle.move_list.specs.declared.Move.{Move}
use Rattle.promise.specs.Promise.{Answered, Done, asked, shown}
use Rattle.promise.specs.declared.Answer.TheVariants.{Accepted, Retired}
use Rattle.promise.specs.declared.Call.TheVariants.{Move as MoveCall}
use Rattle.store.specs.Runs.{IsRun, NeverStopped, RunCall, memory_after, run_calls}

-- The call of an entry: a move from its card of its block.
abbrev pub move_of : Move → Call cabinet
move_of e = asked (MoveCall e.0 e.1)

-- On memory g came a run of moves of these entries, in order, and of no other calls but such as list moves; then a
-- settle, which said so.
pub record MovesThenSettle (g : Image) (entries : List Move) (said : Answered) : Type 0 where
  pub moves : List RunCall
  pub ran : IsRun moves g
  pub are-moves : run_calls moves ≡ map move_of entries
  pub noise : ℕ → ℕ
  pub left : Image
  pub settles : Done settle (noisy noise (memory_after moves g)) said left

-- On memory of any length and contents. Where n moves were listed, a settle succeeds after moves of the first n entries
-- of the list as filled: it retires all the older placements that the memory had.
unfoldable pub ListedMovesSettle : Type 0
ListedMovesSettle = (g : Image) (lent filled : List Move) (n : ℕ) → ListDone g lent (Ok (Some n)) filled
    → (said : Answered) → MovesThenSettle g (take n filled) said
    → shown said ≡ retired (length (control_in g).older)

-- There a settle succeeds after no fewer moves.
unfoldable pub NoShorterMoves : Type 0
NoShorterMoves = (g : Image) (lent filled : List Move) (n : ℕ) → ListDone g lent (Ok (Some n)) filled
    → (entries : List Move) (m : ℕ) → MovesThenSettle g entries (Ok (Retired m))
    → n ≤ length entries

-- 'None' is final after a run on memory g that did not stop the store: where it is said, a settle is refused 13 after
-- whatever moves.
unfoldable pub NoneIsFinalOn : Image → Type 0
NoneIsFinalOn g = (l : List RunCall) → IsRun l g → NeverStopped l
    → (noise : ℕ → ℕ) (lent filled : List Move) → ListDone (noisy noise (memory_after l g)) lent (Ok None) filled
    → (entries : List Move) (said : Answered) → MovesThenSettle (noisy noise (memory_after l g)) entries said
    → shown said ≡ refused 13

-- So it is on memory that a start left which said ok, whatever the memory held before.
unfoldable pub NoneIsFinalOfCalls : Type 0
NoneIsFinalOfCalls = (m : ℕ) (before behind : Image) → Done (start (byte m)) before (Ok Accepted) behind → NoneIsFinalOn behind

-- And on the memory of a store that earlier deliveries left.
unfoldable pub NoneGoesOnOfCalls : Type 0
NoneGoesOnOfCalls = (s : Store) → Earlier s → NoneIsFinalOn s.image
