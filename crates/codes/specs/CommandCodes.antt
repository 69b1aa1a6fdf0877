-- A command by its fields, for callers in other languages. Assumes nothing.
use Rattle.std.specs.Prelude.{ℕ, Bool, cond, List, ◌≡◌}
use Rattle.method.specs.Rules.{ok, refused}
use Rattle.command.specs.declared.Fields.{Fields}
use Rattle.command.specs.Commands.{fields_fit, fields_in, fields_leave, malformed, well_formed}
use Rattle.codes.specs.Codes.{code_of}

-- Ok where the command is formed, else refused as malformed.
unfoldable pub form_code : Bool → ℕ
form_code formed = cond formed (code_of ok) (code_of (refused malformed))

-- A command with these fields was to be written into lent bytes: the code, and the bytes left.
pub record CodedWriting (lent : List ℕ) (f : Fields) (code : ℕ) (left : List ℕ) : Type 0 where
  pub answers : code ≡ form_code (fields_fit lent f)
  pub leaves : left ≡ fields_leave lent f

-- The fields of bytes were to be read: the code, and five lent numbers behind it, which stay where the bytes are malformed.
pub record CodedReading (bytes : List ℕ) (lent : Fields) (code : ℕ) (left : Fields) : Type 0 where
  pub answers : code ≡ form_code (well_formed bytes)
  pub leaves : left ≡ cond (well_formed bytes) (fields_in bytes) lent
