-- `nolpigat_move` meets its contract: the store's answer, coded. Assumes nothing.
use Rattle.codes.proofs.Codes.{coded-done}
use Rattle.nolpigat.proofs.nolpigat_move.Goals as goal

pub returns : goal.returns
returns c = coded-done c.move_block.ensures c.code.ensures
