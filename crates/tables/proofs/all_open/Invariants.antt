-- A home is picked where there is one. Assumes nothing.
use Rattle.method.specs.Slots.{is_some}
use Rattle.tables.proofs.all_open.Given as goal

abbrev pub ghost-set_by : goal.ghost-set_by
ghost-set_by a = is_some
