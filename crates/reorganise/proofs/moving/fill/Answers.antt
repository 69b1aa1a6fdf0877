-- A site that has the block is left, another one gets it and counts as a copy. Assumes nothing.
use native.Mathlib.Omega.{arith}
use Rattle.reorganise.proofs.moving.fill.Goals as goal

pub returns : goal.returns
returns c = let e = c.if-has.false in (rw e, omega arith, rw e c.put_block.ensures)
