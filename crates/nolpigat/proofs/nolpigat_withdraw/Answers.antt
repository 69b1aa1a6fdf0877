-- `nolpigat_withdraw` meets its contract: the store's answer, coded. Assumes nothing.
use Rattle.codes.proofs.Codes.{coded-done}
use Rattle.nolpigat.proofs.nolpigat_withdraw.Goals as goal

pub returns : goal.returns
returns c = coded-done c.withdraw.ensures c.code.ensures
