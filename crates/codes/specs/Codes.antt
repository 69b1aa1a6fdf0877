-- Answers as numbers of 32 bits, for callers in other languages. Assumes nothing.
use Rattle.std.specs.Prelude.{◌*◌, ◌+◌, ◌<◌, ℕ, List, ◌≡◌}
use Rattle.method.specs.Rules.{Answer, Call, absent, copied, loaded, ok, placed, protected, refused, retired, stops}
use Rattle.method.specs.Rules.{unplaced, unprotected, value}
use Rattle.cabinet_rules.specs.Cabinet.{cabinet}
use Rattle.cabinet_rules.specs.Images.{Image, answer, next}
use Rattle.cabinet_rules.specs.Returns.{after_return_on, answer_to_return}
use Rattle.command.specs.Meaning.{command_answer, command_next}
use Rattle.codes.specs.declared.Kind.{Kind}
use Rattle.codes.specs.declared.Kind.TheVariants.{Absent, Copies, Done, Listed, Load, Nothing, Number, Placed, Protected, Refused, Retired}
use Rattle.codes.specs.declared.Kind.TheVariants.{Stopped, Unplaced, Unprotected, Value, Written}

-- The number of each kind of answer. Listed and Nothing are of the move list (ListCodes), Nothing and Number of questions
-- (ToldCodes), Written of calls that fill lent bytes (FilledCodes).
abbrev pub number_of_kind : Kind → ℕ
number_of_kind Done = 0
number_of_kind Value = 1
number_of_kind Absent = 2
number_of_kind Placed = 3
number_of_kind Unplaced = 4
number_of_kind Stopped = 5
number_of_kind Copies = 6
number_of_kind Retired = 7
number_of_kind Protected = 8
number_of_kind Unprotected = 9
number_of_kind Load = 10
number_of_kind Listed = 11
number_of_kind Nothing = 12
number_of_kind Number = 13
number_of_kind Written = 14
number_of_kind Refused = 15

-- The number of the kind of an answer, and its own number: 0 where it has none.
unfoldable pub kind_of : Answer cabinet → ℕ
kind_of ok = number_of_kind Done
kind_of (value n) = number_of_kind Value
kind_of absent = number_of_kind Absent
kind_of (placed m) = number_of_kind Placed
kind_of unplaced = number_of_kind Unplaced
kind_of stops = number_of_kind Stopped
kind_of (copied n) = number_of_kind Copies
kind_of (retired n) = number_of_kind Retired
kind_of protected = number_of_kind Protected
kind_of unprotected = number_of_kind Unprotected
kind_of (loaded n) = number_of_kind Load
kind_of (refused n) = number_of_kind Refused

unfoldable pub answer_number : Answer cabinet → ℕ
answer_number ok = 0
answer_number (value n) = n
answer_number absent = 0
answer_number (placed m) = m.0
answer_number unplaced = 0
answer_number stops = 0
answer_number (copied n) = n
answer_number (retired n) = n
answer_number protected = 0
answer_number unprotected = 0
answer_number (loaded n) = n
answer_number (refused n) = n

-- The code of an answer: kind × 65,536 + number.
abbrev pub number_range : ℕ
number_range = 65536

abbrev pub coded : ℕ → ℕ → ℕ
coded kind number = kind * number_range + number

abbrev pub code_of : Answer cabinet → ℕ
code_of a = coded (kind_of a) (answer_number a)

-- Each answer, of those whose number has 16 bits, has a code of its own.
abbrev pub OneNumberEach : Type 0
OneNumberEach =
    (a b : Answer cabinet) → answer_number a < number_range → answer_number b < number_range → code_of a ≡ code_of b → a ≡ b

-- A call on an image was answered with this code and left the image behind.
pub record Coded (c : Call cabinet) (before : Image) (code : ℕ) (behind : Image) : Type 0 where
  pub answers : code ≡ code_of (answer c before)
  pub leaves : behind ≡ next c before

-- The return of a card on an image was answered with this code and left the image behind.
pub record CodedReturn (c : ℕ) (before : Image) (code : ℕ) (behind : Image) : Type 0 where
  pub answers : code ≡ code_of (answer_to_return c before)
  pub leaves : behind ≡ after_return_on c before

-- The bytes of a command on an image were answered with this code and left the image behind.
pub record CodedCommand (l : List ℕ) (before : Image) (code : ℕ) (behind : Image) : Type 0 where
  pub answers : code ≡ code_of (command_answer l before)
  pub leaves : behind ≡ command_next l before
