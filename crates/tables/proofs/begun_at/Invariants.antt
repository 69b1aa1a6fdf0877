-- A home is picked where it is the card. Assumes nothing.
use Rattle.method.specs.ControlPart.{is_card}
use Rattle.tables.proofs.begun_at.Given as goal

abbrev pub ghost-set_by : goal.ghost-set_by
ghost-set_by a = λ home. is_card home a.passes.0.now.0
