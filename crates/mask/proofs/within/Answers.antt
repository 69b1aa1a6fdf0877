-- No bit outside is no card outside (`within-is`). Assumes nothing.
use native.Mathlib.Omega.{arith}
use Rattle.mask.proofs.Sets.{within-is}
use Rattle.mask.proofs.within.Goals as goal

pub returns : goal.returns
returns c = within-is c.args.a c.args.b (omega arith) (omega arith)
