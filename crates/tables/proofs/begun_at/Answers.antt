-- The bytes of the homes mean what the control part says. Assumes nothing.
use Rattle.control.specs.Meaning.{meaning}
use Rattle.tables.proofs.begun_at.Goals as goal

pub returns : goal.returns
unfolding meaning
returns c = c.set_by.ensures
