-- `nolpigat_settle` meets its contract: the store's answer, coded. Assumes nothing.
use Rattle.codes.proofs.Codes.{coded-done}
use Rattle.nolpigat.proofs.nolpigat_settle.Goals as goal

pub returns : goal.returns
returns c = coded-done c.settle.ensures c.code.ensures
