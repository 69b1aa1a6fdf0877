-- The struct with another stopped bit means the control part with it (`rest-is`). Assumes nothing.
use Rattle.control.proofs.Changes.{rest-is}
use Rattle.control.proofs.Control.rest.Goals as goal

pub returns : goal.returns
returns c = rest-is c.args.self c.requires c.args.stopped
