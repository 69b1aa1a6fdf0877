-- The laws that finish the proofs of the functions on a command's fields. Assumes nothing.
use Prim.Native.Nat.{ℕ}
use mathlib.Core.Bool.{Bool, cond, false, true}
use mathlib.Core.List.{List}
use mathlib.Core.Path.{◌∙◌, ◌≡◌, ap, sym}
use Rattle.std.specs.Prelude.{Err, Ok, Result, ⊤}
use Rattle.command.specs.declared.Fields.{Fields}
use Rattle.command.specs.declared.Malformed.{Malformed}
use Rattle.command.specs.Commands.{fields_fit, fields_in, no_command, shown_fields, write_fields}
use Rattle.command.proofs.Answers.{answered, refused}
use Rattle.command.proofs.FieldCodec.{FieldsLeft, shown-has, shown-malformed}
use Rattle.codes.specs.CommandCodes.{CodedReading, CodedWriting, form_code}

-- ---- writing
module _ {lent left : List ℕ} {f : Fields} {w : Result ⊤ Malformed} {n : ℕ} (done : FieldsLeft w lent f left) where
  pub write_done : w ≡ Ok tt → n ≡ form_code true → CodedWriting lent f n left
  unfolding write_fields
  write_done e code =
      record { answers = code ∙ ap form_code (sym (answered (fields_fit lent f) tt tt (sym done.0 ∙ e)).0); leaves = done.1 }

  pub write-refused : w ≡ Err no_command → n ≡ form_code false → CodedWriting lent f n left
  unfolding write_fields
  write-refused e code =
      record { answers = code ∙ ap form_code (sym (refused (fields_fit lent f) tt (sym done.0 ∙ e))); leaves = done.1 }

-- ---- reading
pub read_has : (l : List ℕ) (lent f : Fields) {n : ℕ} → shown_fields l ≡ Ok f → n ≡ form_code true → CodedReading l lent n f
read_has l lent f e code =
    let h = shown-has l f e in
    record {
      answers = code ∙ ap form_code (sym h.0);
      leaves = sym (ap (λ (b : Bool). cond b (fields_in l) lent) h.0 ∙ h.1);
    }

pub read_none : (l : List ℕ) (lent : Fields) {n : ℕ} → shown_fields l ≡ Err no_command → n ≡ form_code false → CodedReading l lent n lent
read_none l lent e code =
    let h = shown-malformed l e in
    record { answers = code ∙ ap form_code (sym h); leaves = sym (ap (λ (b : Bool). cond b (fields_in l) lent) h) }
