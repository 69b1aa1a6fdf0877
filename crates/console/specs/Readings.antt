-- The program over its readings: RULES, "Commands and the listing". An input comes in readings of any length; one that
-- gives no byte is its end, and a read that fails performs nothing. Assumes nothing.
use Rattle.std.specs.Prelude.{◌%◌, ◌*◌, ◌+◌, ◌-◌, ◌^◌, ℕ, eqb, leb, ltb, Result, Ok, Err, IfSome, None, Some}
use Rattle.std.specs.Prelude.{is_some, drop, length, take, Bool, ◌&&◌, cond, not, true, List, ◌++◌, ◌∷◌, [], ◌<◌, ◌≡◌}
use Rattle.std.specs.Io.KnownBytes.{Appends, Consumes, IsAtEnd, Keeps}
use Rattle.std.specs.declared.option.Option.{Option}
use Rattle.lists.specs.Segments.{segment}
use Rattle.cabinet_rules.specs.Images.{Image}
use Rattle.command.specs.Commands.{command_size}
use Rattle.lines.specs.Text.{Puts}
use Rattle.listing.specs.Listing.{command_count, image_behind, listing}
use Rattle.console.specs.declared.Position.{Position}
use Rattle.console.specs.declared.Step.{Step}
use Rattle.console.specs.declared.ending.Failure.{Failure}
use Rattle.console.specs.declared.ending.Failure.TheVariants.{Input, Output}

-- Where the program stands: the number of its next command, the bytes of that command that wait for the rest of it, and
-- the image.
pub record Standing : Type 0 where
  pub number : ℕ
  pub waiting : List ℕ
  pub image : Image

-- Where it begins on an image: commands are numbered from 1.
abbrev pub at_first : Image → Standing
at_first g = record { number = 1; waiting = []; image = g }

-- What one read of standard input gave: a reading, or nothing, since it failed.
pub data Given : Type 0 where
  gave : List ℕ → Given
  read_failed : Given

-- A read answers the length of the reading, which then stands in a buffer behind the bytes that wait, or an error where it
-- failed.
abbrev pub given_size : {E : Type 0} → Result ℕ E → ℕ
given_size (Ok n) = n
given_size (Err e) = 0

abbrev pub given_by : {E : Type 0} → Result ℕ E → ℕ → List ℕ → Given
given_by (Ok n) waiting buffer = gave (segment buffer waiting n)
given_by (Err e) waiting buffer = read_failed

-- A reading that gives no byte is the end of the input.
abbrev pub is_end : List ℕ → Bool
is_end reading = eqb (length reading) 0

-- Nothing is read behind the end of the input, nor behind a read that failed.
abbrev pub is_last : Given → Bool
is_last (gave reading) = is_end reading
is_last read_failed = true

-- How many of the bytes held are performed: those of whole commands; at the end of the input all, as its last command may
-- be short.
abbrev pub performed_size : ℕ → Bool → ℕ
performed_size held last = cond last held (held - held % command_size)

-- The bytes that wait and those of a reading; those of them that are performed with it; and the rest, a command that the
-- reading cuts. With a read that failed nothing is performed, and what waited still waits.
abbrev pub held_bytes : Standing → List ℕ → List ℕ
held_bytes s reading = s.waiting ++ reading

unfoldable pub performed : Standing → Given → List ℕ
performed s (gave reading) = take (performed_size (length (held_bytes s reading)) (is_end reading)) (held_bytes s reading)
performed s read_failed = []

unfoldable pub cut : Standing → Given → List ℕ
cut s (gave reading) = drop (performed_size (length (held_bytes s reading)) (is_end reading)) (held_bytes s reading)
cut s read_failed = s.waiting

-- The lines that a read adds to the listing, and where the program stands after it.
abbrev pub lines_of : Standing → Given → List ℕ
lines_of s given = listing s.number (performed s given) s.image (command_count (performed s given))

abbrev pub standing_after : Standing → Given → Standing
standing_after s given = record {
  number = s.number + command_count (performed s given);
  waiting = cut s given;
  image = image_behind (performed s given) s.image (command_count (performed s given));
}

-- Behind its last reading an input ends, or a read fails.
abbrev pub last_given : Bool → Given
last_given ends = cond ends (gave []) read_failed

-- All lines of an input that comes in these readings, and the image behind it.
unfoldable pub lines_over : Standing → List (List ℕ) → Bool → List ℕ
lines_over s [] ends = lines_of s (last_given ends)
lines_over s (reading ∷ rest) ends = lines_of s (gave reading) ++ lines_over (standing_after s (gave reading)) rest ends

unfoldable pub image_over : Standing → List (List ℕ) → Bool → Image
image_over s [] ends = (standing_after s (last_given ends)).image
image_over s (reading ∷ rest) ends = image_over (standing_after s (gave reading)) rest ends

-- The bytes of the readings, one behind the other.
unfoldable pub all_bytes : List (List ℕ) → List ℕ
all_bytes [] = []
all_bytes (reading ∷ rest) = reading ++ all_bytes rest

-- Each of the readings has a byte: one of none is the end of the input.
unfoldable pub none_empty : List (List ℕ) → Bool
none_empty [] = true
none_empty (reading ∷ rest) = not (is_end reading) && none_empty rest

-- The bytes of an input that are commands: all, where it ends; where a read fails those of whole commands, since the rest
-- of a cut one may follow.
abbrev pub commands_of : List (List ℕ) → Bool → List ℕ
commands_of readings ends = take (performed_size (length (all_bytes readings)) ends) (all_bytes readings)

-- However an input is cut into readings, the lines are the listing of its commands, from 1 on, and the image is the one
-- that all its commands leave.
pub record ListsAll (g : Image) (readings : List (List ℕ)) (ends : Bool) : Type 0 where
  pub prints : lines_over (at_first g) readings ends ≡ listing 1 (commands_of readings ends) g (command_count (commands_of readings ends))
  pub leaves : image_over (at_first g) readings ends ≡ image_behind (commands_of readings ends) g (command_count (commands_of readings ends))

abbrev pub AllListed : Type 0
AllListed = (g : Image) (readings : List (List ℕ)) (ends : Bool) → none_empty readings ≡ true → ListsAll g readings ends

-- A number has 64 bits. What was given is performed if the numbers of its commands have, and the program goes on behind it
-- if the next one has too and it was not the last.
abbrev pub numbers_fit : Standing → Given → Bool
numbers_fit s given = leb (s.number + command_count (performed s given)) (2 ^ 64)

abbrev pub goes_on : Standing → Given → Bool
goes_on s given = not (is_last given) && ltb (s.number + command_count (performed s given)) (2 ^ 64)

-- The program's position before the first reading, and behind so many commands, where so many bytes wait: none where the
-- program does not go on.
abbrev pub first_position : Position
first_position = record { number = 1; waiting = 0 }

unfoldable pub position_behind : ℕ → ℕ → ℕ → Bool → Option Position
position_behind number commands waiting last = cond (not last && ltb (number + commands) (2 ^ 64))
    (Some (record { number = number + commands; waiting = waiting }))
    None

-- Bytes wait at the start of a buffer, and the program's position has their count and the number of the next command.
abbrev pub standing : Position → List ℕ → Image → Standing
standing at buffer g = record { number = at.number; waiting = take at.waiting buffer; image = g }

-- What was given was performed: its lines were put into a buffer, none where the numbers do not fit, and the image left
-- so. Where the program goes on, it stands where that leads.
pub record Advanced (s : Standing) (given : Given) (out : List ℕ) (step : Step) (left buffer : List ℕ) (behind : Image) : Type 0 where
  pub prints : Puts (cond (numbers_fit s given) (lines_of s given) []) out 0 step.put left
  pub leaves : behind ≡ cond (numbers_fit s given) (standing_after s given).image s.image
  pub goes : is_some step.next ≡ goes_on s given
  pub stands : IfSome step.next (λ next. standing next buffer behind ≡ standing_after s given)

-- The same of a read that the operating system answered as it chose. Nothing is known of its bytes.
pub record ReadSome (s : Standing) (next : Option Position) (buffer : List ℕ) (behind : Image) : Type 0 where
  pub given : Given
  pub leaves : behind ≡ cond (numbers_fit s given) (standing_after s given).image s.image
  pub goes : is_some next ≡ true → goes_on s given ≡ true
  pub stands : IfSome next (λ at. standing at buffer behind ≡ standing_after s given)

-- The same of a read that gave a reading, and of what is known of the bytes that the reader has left and that the writer
-- holds: the reading was the first of the bytes left, and all of them where it has no byte; its lines were written behind
-- the bytes held.
pub record ReadOne (s : Standing) (next : Option Position) (buffer : List ℕ) (behind : Image) (left left_behind held held_behind : Option (List ℕ)) : Type 0 where
  pub reading : List ℕ
  pub leaves : behind ≡ cond (numbers_fit s (gave reading)) (standing_after s (gave reading)).image s.image
  pub goes : is_some next ≡ goes_on s (gave reading)
  pub stands : IfSome next (λ at. standing at buffer behind ≡ standing_after s (gave reading))
  pub takes : Consumes left left_behind reading
  pub ends : is_end reading ≡ true → IsAtEnd left_behind
  pub writes : Appends held held_behind (cond (numbers_fit s (gave reading)) (lines_of s (gave reading)) [])

-- Where a read failed nothing was performed, taken or written. Of a write that failed nothing is said.
abbrev pub NoneRead : Image → Image → Option (List ℕ) → Option (List ℕ) → Option (List ℕ) → Option (List ℕ) → Failure → Type 0
NoneRead before behind left left_behind held held_behind (Input e) = (behind ≡ before) × Keeps left left_behind × (held_behind ≡ held)
NoneRead before behind left left_behind held held_behind (Output e) = Unit {0}

-- All commands of an input were performed, and their listing written behind the bytes that a writer holds, where those
-- are known.
pub record ListsInput (before behind : Image) (held held_behind : Option (List ℕ)) (input : List ℕ) : Type 0 where
  pub leaves : behind ≡ image_behind input before (command_count input)
  pub writes : Appends held held_behind (listing 1 input before (command_count input))

-- The same of the input that a reader had, where its bytes are known and the numbers of its commands have 64 bits.
abbrev pub ListsKnown : Image → Image → Option (List ℕ) → Option (List ℕ) → Option (List ℕ) → Type 0
ListsKnown before behind left held held_behind =
    IfSome left (λ (input : List ℕ). command_count input + 1 < 2 ^ 64 → ListsInput before behind held held_behind input)

-- Where a read failed the whole commands among the bytes taken were performed and listed, and the rest of these bytes, fewer
-- than a command, waits.
pub record ListsWhole (before behind : Image) (left left_behind held held_behind : Option (List ℕ)) : Type 0 where
  pub input : List ℕ
  pub waiting : List ℕ
  pub whole : length input ≡ command_count input * command_size
  pub short : length waiting < command_size
  pub takes : Consumes left left_behind (input ++ waiting)
  pub lists : ListsInput before behind held held_behind input

abbrev pub ListsRead : Image → Image → Option (List ℕ) → Option (List ℕ) → Option (List ℕ) → Option (List ℕ) → Failure → Type 0
ListsRead before behind left left_behind held held_behind (Input e) = ListsWhole before behind left left_behind held held_behind
ListsRead before behind left left_behind held held_behind (Output e) = Unit {0}

-- The image behind is the one that all commands of an input leave, an input of the operating system's choice. A read that
-- failed added nothing to it (`ReadSome`).
pub record RanSome (before behind : Image) : Type 0 where
  pub input : List ℕ
  pub leaves : behind ≡ image_behind input before (command_count input)
