-- The count of leading zeros is it, computed for every mask. Assumes nothing.
use native.Mathlib.Omega.{arith}
use Rattle.mask.proofs.FirstMember.{first-card, first-is}
use Rattle.mask.proofs.first_member.Goals as goal

pub returns : goal.returns
returns c = (first-is c.args.mask (omega arith) c.requires, first-card c.args.mask (omega arith) c.requires)
