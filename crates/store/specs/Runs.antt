-- Demand 3 of the calls themselves: a run of the store as its caller sees it, and the statement. Assumes nothing.
use Rattle.std.specs.Prelude.{Result, Ok, ℕ, cond, List, [], ◌++◌, ◌∷◌, map, ◌≢◌, ◌≡◌, length}
use Rattle.image.specs.Layout.{image_size}
use Rattle.mask.specs.Masks.{byte}
use Rattle.method.specs.OneRecordList.{Observation, is_last, observe, run_plain, zeroed}
use Rattle.method.specs.PlainList.{plain_start}
use Rattle.method.specs.Rules.{Answer, Call, place, start, stops}
use Rattle.cabinet_rules.specs.Cabinet.{cabinet}
use Rattle.cabinet_rules.specs.Claims.{noisy}
use Rattle.cabinet_rules.specs.Delivery.{resuming}
use Rattle.cabinet_rules.specs.GoesOn.{LeftByTables, Store, StoreBy, from_tables, taken_over}
use Rattle.cabinet_rules.specs.Images.{Image}
use Rattle.cabinet_rules.specs.Places.{by_lines}
use Rattle.cabinet_rules.specs.Retired.{by_tables}
use Rattle.converter.specs.Promise.{StampsDone}
use Rattle.move_list.specs.Promise.{Listed, ListDone}
use Rattle.move_list.specs.declared.Move.{Move}
use Rattle.promise.specs.Promise.{Answered, Done, asked, shown}
use Rattle.promise.specs.declared.Call.{Call as CallValue}
use Rattle.refusals.specs.declared.Refusal.{Refusal}
use Rattle.promise.specs.declared.Answer.TheVariants.{Accepted}
use Rattle.returns.specs.Promise.{ReturnDone}

-- A call that was made on the memory.
pub data Made : Type 0 where
  -- one of the fifteen: what was asked, what it answered, and the memory that it left
  store_call : CallValue → Answered → Image → Made
  -- one that places by table (request A.6): the lines that were lent, what it answered, and the memory that it left
  table_call : List ℕ → Answered → Image → Made
  -- one that returns a card (request A.7): the card, what it answered, and the memory that it left
  return_call : ℕ → Answered → Image → Made
  -- one that lists moves (request A.3): the list that was lent, what was said, and the list as filled
  list_call : List Move → Listed → List Move → Made

-- It kept its promise on memory g.
abbrev pub Kept : Made → Image → Type 0
Kept (store_call c a left) g = Done (asked c) g a left
Kept (table_call lines a left) g = Done (place (by_lines lines)) g a left
Kept (return_call c a left) g = ReturnDone c g a left
Kept (list_call lent a filled) g = ListDone g lent a filled

-- The memory that it left. One that lists moves leaves it as it was given.
abbrev pub memory_left : Made → Image → Image
memory_left (store_call c a left) g = left
memory_left (table_call lines a left) g = left
memory_left (return_call c a left) g = left
memory_left (list_call lent a filled) g = g

-- What it means to the rules: calls of theirs with their answers. One that lists moves is none, nor one that returns a
-- card: while the store runs it is refused and changes nothing.
abbrev pub meant_calls : Made → List (Call cabinet × Answer cabinet)
meant_calls (store_call c a left) = (asked c, shown a) ∷ []
meant_calls (table_call lines a left) = (place (by_lines lines), shown a) ∷ []
meant_calls (return_call c a left) = []
meant_calls (list_call lent a filled) = []

-- A call in a run: the noise in the tables of failed cards before it, and what was made.
pub record RunCall : Type 0 where
  pub noise : ℕ → ℕ
  pub made : Made

-- Calls that keep their promises, each getting the memory as the last left it, but for the noise; and the memory that
-- they leave.
unfoldable pub IsRun : List RunCall → Image → Type 0
IsRun [] g = Unit
IsRun (r ∷ l) g = Kept r.made (noisy r.noise g) × IsRun l (memory_left r.made (noisy r.noise g))

unfoldable pub memory_after : List RunCall → Image → Image
memory_after [] g = g
memory_after (r ∷ l) g = memory_after l (memory_left r.made (noisy r.noise g))

-- What a run means to the rules, and the calls alone, as the plain record list is given them.
abbrev pub run_steps : List RunCall → List (Call cabinet × Answer cabinet)
run_steps [] = []
run_steps (r ∷ l) = meant_calls r.made ++ run_steps l

abbrev pub run_calls : List RunCall → List (Call cabinet)
run_calls l = map (λ s. s.0) (run_steps l)

-- What is observed up to the first stop.
unfoldable pub observed_in : List (Call cabinet × Answer cabinet) → List (Observation cabinet)
observed_in [] = []
observed_in (s ∷ l) =
    observe cabinet s.0 s.1 ∷ cond (is_last cabinet (observe cabinet s.0 s.1)) [] (observed_in l)

abbrev pub observed : List RunCall → List (Observation cabinet)
observed l = observed_in (run_steps l)

-- None of the calls stopped the store.
unfoldable pub NoneStops : List (Call cabinet × Answer cabinet) → Type 0
NoneStops [] = Unit
NoneStops (s ∷ l) = (s.1 ≢ stops) × NoneStops l

abbrev pub NeverStopped : List RunCall → Type 0
NeverStopped l = NoneStops (run_steps l)

-- A store of the delivery before as this one goes on with it.
abbrev pub taken : StoreBy by_tables → Store
taken = taken_over by_tables resuming from_tables

-- DEMAND 3 of the calls. After a start that said ok, on memory of any contents, the calls answer what the plain record
-- list answers to the same calls, until the store stops; and it stops exactly when the stop rule says.
unfoldable pub OneRecordListOfCalls : Type 0
OneRecordListOfCalls = (m : ℕ) (before behind : Image) → Done (start (byte m)) before (Ok Accepted) behind
    → (l : List RunCall) → IsRun l behind
    → observed l ≡ run_plain cabinet (run_calls l) (zeroed cabinet (byte m)) (plain_start cabinet (byte m))

-- The converter was given an older image and lent a buffer of the length of today, and left it so.
pub record Converted (older left : Image) : Type 0 where
  pub lent : Image
  pub said : Result ℕ Refusal
  pub room : length lent ≡ image_size
  pub done : StampsDone older lent said left

-- DEMAND 3 of the calls, going on. The same on the memory of a running store that earlier deliveries left and the
-- converter made longer: the plain record list was fed their calls too.
unfoldable pub GoesOnOfCalls : Type 0
GoesOnOfCalls = (s : StoreBy by_tables) → LeftByTables s → (left : Image) → Converted s.image left
    → (l : List RunCall) → IsRun l left
    → observed l ≡ run_plain cabinet (run_calls l) (taken s).rules (taken s).plain
