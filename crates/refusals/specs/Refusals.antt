-- The numbers of the refusal table. Assumes nothing.
use Rattle.std.specs.Prelude.{ℕ, Result, Ok, Err}
use Rattle.refusals.specs.declared.Refusal.{Refusal}
use Rattle.refusals.specs.declared.Refusal.TheVariants.{Length, ControlForm, Range, Stopped, NotOpen, AlreadyOpen, Locked, Card}
use Rattle.refusals.specs.declared.Refusal.TheVariants.{Placement, Active, NotHeld, CopyLocked, Unsettled, Home, Malformed}
use Rattle.refusals.specs.declared.Refusal.TheVariants.{List, Gap, Overlap, Stale, Serials}

-- The number of a refusal.
abbrev pub number : Refusal → ℕ
number Length = 1
number ControlForm = 2
number Range = 3
number Stopped = 4
number NotOpen = 5
number AlreadyOpen = 6
number Locked = 7
number Card = 8
number Placement = 9
number Active = 10
number NotHeld = 11
number CopyLocked = 12
number Unsettled = 13
number Home = 14
number Malformed = 15
number List = 16
number Gap = 17
number Overlap = 18
number Stale = 19
number Serials = 20

-- The row of the table that an answer gives, by the number that its error stands for: 0 where it is no refusal.
abbrev pub row_by : {A E : Type 0} → (E → ℕ) → Result A E → ℕ
row_by numbered (Ok a) = 0
row_by numbered (Err r) = numbered r

-- The same of an answer whose error is a refusal of the table.
abbrev pub row_of : {A : Type 0} → Result A Refusal → ℕ
row_of = row_by number
