-- The fields that are shown, or none, and whether they are, coded. Assumes nothing.
use mathlib.Core.Path.{◌∙◌, sym}
use Rattle.codes.proofs.CommandCodes.{read_has, read_none}
use Rattle.nolpigat.proofs.nolpigat_read_command.Goals as goal

pub returns-in-Ok : goal.returns-in-Ok
returns-in-Ok c =
    let a = c.args in
    read_has a.bytes.now _ c.in-Ok.f (sym c.read.ensures ∙ c.in-Ok.is) c.form_code.ensures

pub returns-in-Err : goal.returns-in-Err
returns-in-Err c =
    let a = c.args in
    read_none a.bytes.now _ (sym c.read.ensures ∙ c.in-Err.is) c.form_code-in-Err.ensures
