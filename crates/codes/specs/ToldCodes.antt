-- What questions are told, as numbers of 32 bits, for callers in other languages. Assumes nothing.
use Rattle.std.specs.Prelude.{◌<◌, ℕ, ◌≡◌}
use Rattle.queries.specs.Queries.{Told, not_told, tells, tells_none}
use Rattle.codes.specs.Codes.{coded, number_of_kind, number_range}
use Rattle.codes.specs.declared.Kind.TheVariants.{Nothing, Number, Refused}

-- The kind, beside those of the answers, and the number: 0 where there is none. None and a refusal have the kinds that they
-- have there.
unfoldable pub told_kind : Told → ℕ
told_kind (tells n) = number_of_kind Number
told_kind tells_none = number_of_kind Nothing
told_kind (not_told n) = number_of_kind Refused

unfoldable pub told_number : Told → ℕ
told_number (tells n) = n
told_number tells_none = 0
told_number (not_told n) = n

abbrev pub told_code : Told → ℕ
told_code t = coded (told_kind t) (told_number t)

-- What is told, of that whose number has 16 bits, has a code of its own.
abbrev pub OneToldCodeEach : Type 0
OneToldCodeEach = (a b : Told) → told_number a < number_range → told_number b < number_range → told_code a ≡ told_code b → a ≡ b
