-- One mask more, at the count, with its mark for rails. Assumes nothing.
use Rattle.control.proofs.Changes.{add_is}
use borrow.Author.Rules.{rules}
use Rattle.control.proofs.Control.add.Goals as goal

pub returns : goal.returns
returns c = rw c.with_mask.ensures (add_is c.args.self c.requires.counted c.args.mask (search rules) c.requires.count_lt_most_active (search rules))
