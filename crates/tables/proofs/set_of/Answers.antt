-- The shift stays below 16 bits. Assumes nothing.
use borrow.Author.Rules.{rules}
use Rattle.tables.proofs.Sets.{shift_one}
use Rattle.tables.proofs.set_of.Goals as goal

pub returns : goal.returns
returns c = shift_one c.args.tran.0 (search rules)
