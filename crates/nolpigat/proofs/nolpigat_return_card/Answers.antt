-- `nolpigat_return_card` meets its contract: the store's answer, coded. Assumes nothing.
use Rattle.codes.proofs.Codes.{coded-return}
use Rattle.nolpigat.proofs.nolpigat_return_card.Goals as goal

pub returns : goal.returns
returns c = coded-return c.return_card.ensures c.code.ensures
