-- `call_by` meets its contract: the call of the table at the number of the operation. Assumes nothing.
use Rattle.command.proofs.call_by.Goals as goal

pub returns-in-Get : goal.returns-in-Get
returns-in-Get c = simp c.in-Get.is
