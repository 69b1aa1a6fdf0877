-- One mask, by rails, and no open transaction. Assumes nothing.
use Rattle.control.proofs.Changes.{start_is}
use Rattle.control.proofs.Control.started.Goals as goal

pub returns : goal.returns
returns c = start_is c.args.mask
