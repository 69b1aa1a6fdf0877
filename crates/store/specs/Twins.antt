-- Twins agree, of the calls themselves: all working cards that hold a block show the same slots of it. The statements.
-- Assumes nothing.
use Rattle.std.specs.Prelude.{Ok, ℕ, List, [], ◌∷◌, ◌≢◌}
use Rattle.mask.specs.Masks.{byte}
use Rattle.method.specs.Rules.{start}
use Rattle.cabinet_rules.specs.GoesOn.{EarlierImage, LeftByTables, StoreBy}
use Rattle.cabinet_rules.specs.Images.{Image}
use Rattle.cabinet_rules.specs.Retired.{by_tables}
use Rattle.cabinet_rules.specs.Twins.{TwinsOn}
use Rattle.promise.specs.Promise.{Done}
use Rattle.promise.specs.declared.Answer.TheVariants.{Accepted}
use Rattle.store.specs.Runs.{Converted, IsRun, Made, RunCall, list_call, memory_after, return_call, store_call, table_call}
use Rattle.store.specs.ThroughStops.{CardsIntact}

-- TWINS AGREE. After a start that said ok, on memory of any contents, and any run in which every card that comes back has
-- the bytes of its failing, whether the store runs then or has stopped, any two working cards that hold a block show the
-- same eight slots of it.
unfoldable pub TwinsAgreeOfCalls : Type 0
TwinsAgreeOfCalls = (m : ℕ) (before behind : Image) → Done (start (byte m)) before (Ok Accepted) behind
    → (t : ℕ → ℕ) (l : List RunCall) → IsRun l behind → CardsIntact l behind t → TwinsOn (memory_after l behind)

-- The same on the memory of a running store that earlier deliveries left and the converter of today made longer.
unfoldable pub TwinsGoOnOfCalls : Type 0
TwinsGoOnOfCalls = (s : StoreBy by_tables) → LeftByTables s → (left : Image) → Converted s.image left
    → (t : ℕ → ℕ) (l : List RunCall) → IsRun l left → CardsIntact l left t → TwinsOn (memory_after l left)

-- No card came back.
abbrev pub StaysAway : Made → Type 0
StaysAway (store_call c a left) = Unit {0}
StaysAway (table_call lines a left) = Unit {0}
StaysAway (return_call c a left) = a ≢ Ok Accepted
StaysAway (list_call lent a filled) = Unit {0}

abbrev pub NoneCameBack : List RunCall → Type 0
NoneCameBack [] = Unit {0}
NoneCameBack (r ∷ l) = StaysAway r.made × NoneCameBack l

-- Where the earlier deliveries' store had stopped too, after a run in which no card came back.
unfoldable pub TwinsStayOfCalls : Type 0
TwinsStayOfCalls = (g left : Image) → EarlierImage g → Converted g left
    → (l : List RunCall) → IsRun l left → NoneCameBack l → TwinsOn (memory_after l left)
