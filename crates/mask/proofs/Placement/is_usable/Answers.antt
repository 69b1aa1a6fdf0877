-- The count of bits is the number of members (`size_is`). Assumes nothing.
use mathlib.Core.Path.{ap}
use lib.Dec.{leb}
use borrow.Author.Rules.{rules}
use Rattle.mask.proofs.Sets.{size_is}
use Rattle.mask.proofs.Placement.is_usable.Goals as goal

pub returns : goal.returns
returns c = ap (leb 2) (size_is c.args.self.mask (search rules))
