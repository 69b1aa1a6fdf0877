-- A computed test of all masks. Assumes nothing.
use native.Mathlib.Omega.{arith}
use Rattle.mask.proofs.LastMember.{last-is, not-zero}
use Rattle.mask.proofs.last_member.Goals as goal

pub overflow_sub-result : goal.overflow_sub-result
overflow_sub-result c = not-zero c.args.mask c.requires

pub returns : goal.returns
returns c = last-is c.args.mask c.requires (omega arith)
