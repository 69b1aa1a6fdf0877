-- One byte of the homes is zeroed, and its transaction is closed (`close-is`). Assumes nothing.
use Rattle.control.proofs.Changes.{close-is}
use borrow.Author.Rules.{rules}
use Rattle.control.proofs.Control.close.Goals as goal

pub returns : goal.returns
returns c = close-is c.args.self c.requires.counted c.args.tran.0 (search rules) (search rules) (search rules)
