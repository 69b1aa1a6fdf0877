-- `nolpigat_place` meets its contract: the store's answer, coded. Assumes nothing.
use Rattle.codes.proofs.Codes.{coded-done}
use Rattle.nolpigat.proofs.nolpigat_place.Goals as goal

pub returns : goal.returns
returns c = coded-done c.place.ensures c.code.ensures
