-- `nolpigat_store` meets its contract: the store's answer, coded. Assumes nothing.
use Rattle.codes.proofs.Codes.{coded-done}
use Rattle.nolpigat.proofs.nolpigat_store.Goals as goal

pub returns : goal.returns
returns c = coded-done c.store.ensures c.code.ensures
