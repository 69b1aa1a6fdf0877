-- The answer on bytes, coded. Assumes nothing.
use Rattle.codes.proofs.ListCodes.{coded-list}
use Rattle.nolpigat.proofs.nolpigat_move_list.Goals as goal

pub returns : goal.returns
returns c = coded-list c.list.ensures c.list_code.ensures
