-- The common bits are the common cards (`common-is`). Assumes nothing.
use native.Mathlib.Omega.{arith}
use Rattle.mask.proofs.Sets.{common-is}
use Rattle.mask.proofs.common.Goals as goal

pub returns : goal.returns
returns c = common-is c.args.a c.args.b (omega arith) (omega arith)
