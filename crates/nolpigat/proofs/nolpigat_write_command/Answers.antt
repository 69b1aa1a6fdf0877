-- Whether the command was written, coded. Assumes nothing.
use Rattle.codes.proofs.CommandCodes.{write_done, write-refused}
use Rattle.nolpigat.proofs.nolpigat_write_command.Goals as goal

pub returns-in-Ok : goal.returns-in-Ok
returns-in-Ok c = write_done c.write.ensures c.in-Ok.is c.form_code.ensures

pub returns-in-Err : goal.returns-in-Err
returns-in-Err c = write-refused c.write.ensures c.in-Err.is c.form_code-in-Err.ensures
