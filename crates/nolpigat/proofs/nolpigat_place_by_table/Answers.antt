-- `nolpigat_place_by_table` meets its contract: the store's answer, coded. Assumes nothing.
use Rattle.codes.proofs.Codes.{coded-done}
use Rattle.nolpigat.proofs.nolpigat_place_by_table.Goals as goal

pub returns : goal.returns
returns c = coded-done c.place_by_table.ensures c.code.ensures
