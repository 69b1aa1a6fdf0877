-- `nolpigat_delete` meets its contract: the store's answer, coded. Assumes nothing.
use Rattle.codes.proofs.Codes.{coded-done}
use Rattle.nolpigat.proofs.nolpigat_delete.Goals as goal

pub returns : goal.returns
returns c = coded-done c.delete.ensures c.code.ensures
