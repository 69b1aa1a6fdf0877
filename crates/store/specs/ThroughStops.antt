-- Demand 3 of the calls themselves, through stops and returns of cards (request A.7): the statements. Assumes nothing.
use Rattle.std.specs.Prelude.{Ok, Err, ◌+◌, ◌<◌, ℕ, get_or, List, [], ◌++◌, ◌∷◌, ◌≡◌}
use Rattle.image.specs.Layout.{table_size, table_start}
use Rattle.mask.specs.Masks.{byte}
use Rattle.method.specs.OneRecordList.{Observation, observe, zeroed}
use Rattle.method.specs.PlainList.{plain_start}
use Rattle.method.specs.Rules.{place, start}
use Rattle.method.specs.ThroughStops.{Step, call, return, run_plain_through}
use Rattle.cabinet_rules.specs.Cabinet.{cabinet}
use Rattle.cabinet_rules.specs.Claims.{noisy}
use Rattle.cabinet_rules.specs.Delivery.{current}
use Rattle.cabinet_rules.specs.GoesOn.{LeftByTables, StoreBy}
use Rattle.cabinet_rules.specs.Images.{Image}
use Rattle.cabinet_rules.specs.Places.{by_lines}
use Rattle.cabinet_rules.specs.Retired.{by_tables}
use Rattle.cabinet_rules.specs.ThroughStops.{recorded_byte}
use Rattle.promise.specs.Promise.{Answered, Done, asked, shown}
use Rattle.promise.specs.declared.Answer.TheVariants.{Absent, Copied, Loaded, Accepted, Placed, Protected, Retired}
use Rattle.promise.specs.declared.Answer.TheVariants.{Stopped, Unplaced, Unprotected, Value}
use Rattle.store.specs.Runs.{Converted, IsRun, Made, RunCall, list_call, memory_left, return_call, store_call}
use Rattle.store.specs.Runs.{table_call, taken}

-- ---- what the plain record list is given
-- A return that said ok is a step of it; one that was refused is none.
abbrev pub return_steps : ℕ → Answered → List (Step cabinet)
return_steps c (Ok Accepted) = return c ∷ []
return_steps c (Ok (Value n)) = []
return_steps c (Ok Absent) = []
return_steps c (Ok (Placed m)) = []
return_steps c (Ok Unplaced) = []
return_steps c (Ok Stopped) = []
return_steps c (Ok (Copied n)) = []
return_steps c (Ok (Retired n)) = []
return_steps c (Ok Protected) = []
return_steps c (Ok Unprotected) = []
return_steps c (Ok (Loaded n)) = []
return_steps c (Err r) = []

abbrev pub meant_steps : Made → List (Step cabinet)
meant_steps (store_call c a left) = call (asked c) ∷ []
meant_steps (table_call lines a left) = call (place (by_lines lines)) ∷ []
meant_steps (return_call c a left) = return_steps c a
meant_steps (list_call lent a filled) = []

-- The steps of a run.
abbrev pub run_steps_through : List RunCall → List (Step cabinet)
run_steps_through [] = []
run_steps_through (r ∷ l) = meant_steps r.made ++ run_steps_through l

-- ---- what is observed, on behind every stop
abbrev pub observed_of : Made → List (Observation cabinet)
observed_of (store_call c a left) = observe cabinet (asked c) (shown a) ∷ []
observed_of (table_call lines a left) = observe cabinet (place (by_lines lines)) (shown a) ∷ []
observed_of (return_call c a left) = []
observed_of (list_call lent a filled) = []

abbrev pub observed_through : List RunCall → List (Observation cabinet)
observed_through [] = []
observed_through (r ∷ l) = observed_of r.made ++ observed_through l

-- ---- the proviso
-- A card whose return said ok has in its whole table, stamp included, the bytes of its failing: those recorded in t.
abbrev pub SameTable : ℕ → Image → (ℕ → ℕ) → Type 0
SameTable c g t = (j : ℕ) → j < table_size → get_or g (table_start c + j) 0 ≡ t (table_start c + j)

unfoldable pub CameBackWhole : Made → Image → (ℕ → ℕ) → Type 0
CameBackWhole (store_call c a left) g t = Unit {0}
CameBackWhole (table_call lines a left) g t = Unit {0}
CameBackWhole (return_call c a left) g t = a ≡ Ok Accepted → SameTable c g t
CameBackWhole (list_call lent a filled) g t = Unit {0}

-- So it is at every call of the run; the tables of cards that fail are recorded as the call leaves them.
unfoldable pub CardsIntact : List RunCall → Image → (ℕ → ℕ) → Type 0
CardsIntact [] g t = Unit {0}
CardsIntact (r ∷ l) g t =
    CameBackWhole r.made (noisy r.noise g) t
    × CardsIntact l (memory_left r.made (noisy r.noise g))
    (recorded_byte current (noisy r.noise g) (memory_left r.made (noisy r.noise g)) t)

-- DEMAND 3 THROUGH STOPS, of the calls. After a start that said ok, on memory of any contents, over any run in which every
-- card that comes back has the bytes of its failing: the calls answer what the plain record list answers to the same calls
-- and returns, through every stop.
unfoldable pub OneRecordListThroughStopsOfCalls : Type 0
OneRecordListThroughStopsOfCalls = (m : ℕ) (before behind : Image) → Done (start (byte m)) before (Ok Accepted) behind
    → (t : ℕ → ℕ) (l : List RunCall) → IsRun l behind → CardsIntact l behind t
    → observed_through l ≡ run_plain_through cabinet (run_steps_through l) (zeroed cabinet (byte m)) (plain_start cabinet (byte m))

-- The same on the memory of a running store that earlier deliveries left and the converter of today made longer.
unfoldable pub GoesOnThroughStopsOfCalls : Type 0
GoesOnThroughStopsOfCalls = (s : StoreBy by_tables) → LeftByTables s → (left : Image) → Converted s.image left
    → (t : ℕ → ℕ) (l : List RunCall) → IsRun l left → CardsIntact l left t
    → observed_through l ≡ run_plain_through cabinet (run_steps_through l) (taken s).rules (taken s).plain
