-- `nolpigat_command` meets its contract: the store's answer, coded. Assumes nothing.
use Rattle.codes.proofs.Codes.{coded-obeyed}
use Rattle.nolpigat.proofs.nolpigat_command.Goals as goal

pub returns : goal.returns
returns c = coded-obeyed c.perform_command.ensures c.code.ensures
