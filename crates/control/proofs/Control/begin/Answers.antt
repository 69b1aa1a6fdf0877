-- One byte of the homes is set, and means the home of one transaction (`open_is`). Assumes nothing.
use Rattle.control.proofs.Changes.{open_is}
use borrow.Author.Rules.{rules}
use Rattle.control.proofs.Control.begin.Goals as goal

pub returns : goal.returns
returns c = open_is c.args.self c.requires.counted c.args.tran.0 c.args.home.0 (search rules) (search rules) (search rules) (search rules)
