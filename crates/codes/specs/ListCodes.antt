-- Answers of the move list as numbers of 32 bits, for callers in other languages. Assumes nothing.
use Rattle.std.specs.Prelude.{◌<◌, ℕ, List, ◌≡◌}
use Rattle.method.specs.MoveList.{ListAnswer, listed, no_list, not_listed}
use Rattle.cabinet_rules.specs.Images.{Image}
use Rattle.cabinet_rules.specs.MoveLists.{list_answer_on}
use Rattle.move_bytes.specs.MoveBytes.{bytes_after, room_of}
use Rattle.codes.specs.Codes.{coded, number_of_kind, number_range}
use Rattle.codes.specs.declared.Kind.TheVariants.{Listed, Nothing, Refused}

-- The kind of each answer, beside those of the other calls, and its number: 0 where it has none. A refusal has the kind
-- that it has there.
unfoldable pub list_kind : ListAnswer → ℕ
list_kind (listed n) = number_of_kind Listed
list_kind no_list = number_of_kind Nothing
list_kind (not_listed n) = number_of_kind Refused

unfoldable pub list_number : ListAnswer → ℕ
list_number (listed n) = n
list_number no_list = 0
list_number (not_listed n) = n

abbrev pub list_code : ListAnswer → ℕ
list_code a = coded (list_kind a) (list_number a)

-- Each answer, of those whose number has 16 bits, has a code of its own.
abbrev pub OneListCodeEach : Type 0
OneListCodeEach =
    (a b : ListAnswer) → list_number a < number_range → list_number b < number_range → list_code a ≡ list_code b → a ≡ b

-- The call on an image with a lent buffer was answered with this code and left the buffer filled.
pub record CodedList (g : Image) (lent : List ℕ) (code : ℕ) (filled : List ℕ) : Type 0 where
  pub answers : code ≡ list_code (list_answer_on (room_of lent) g)
  pub fills : filled ≡ bytes_after g lent
