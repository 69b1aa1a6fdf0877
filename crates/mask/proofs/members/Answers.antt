-- The count of bits is the number of members (`size_is`). Assumes nothing.
use native.Mathlib.Omega.{arith}
use Rattle.mask.proofs.Sets.{size_is}
use Rattle.mask.proofs.members.Goals as goal

pub returns : goal.returns
returns c = size_is c.args.mask (omega arith)
