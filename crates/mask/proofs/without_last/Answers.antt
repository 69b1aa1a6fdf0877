-- A computed test of all masks. Assumes nothing.
use native.Mathlib.Omega.{arith}
use Rattle.mask.proofs.LastMember.{not-zero, without-last-is}
use Rattle.mask.proofs.without_last.Goals as goal

pub overflow_sub-result : goal.overflow_sub-result
overflow_sub-result c = not-zero c.args.mask c.requires

pub returns : goal.returns
returns c = without-last-is c.args.mask (omega arith)
