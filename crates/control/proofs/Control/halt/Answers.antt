-- Zero homes mean that nothing is open (`halt-is`). Assumes nothing.
use Rattle.control.proofs.Changes.{halt-is}
use Rattle.control.proofs.Control.halt.Goals as goal

pub returns : goal.returns
returns c = halt-is c.args.self c.requires
