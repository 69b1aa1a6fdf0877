-- No common bit is no common card (`apart-is`). Assumes nothing.
use native.Mathlib.Omega.{arith}
use Rattle.mask.proofs.Sets.{apart-is}
use Rattle.mask.proofs.apart.Goals as goal

pub returns : goal.returns
returns c = apart-is c.args.a c.args.b (omega arith) (omega arith)
