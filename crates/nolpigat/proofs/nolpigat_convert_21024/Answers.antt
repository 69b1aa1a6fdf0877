-- `nolpigat_convert_21024` meets its contract: the converter's answer, coded. Assumes nothing.
use Rattle.codes.proofs.FilledCodes.{coded-conversion}
use Rattle.nolpigat.proofs.nolpigat_convert_21024.Goals as goal

pub returns : goal.returns
returns c = coded-conversion c.convert_21024.ensures c.filled_code.ensures
