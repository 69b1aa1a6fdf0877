-- The first byte shows the bit 'held'. Assumes nothing.
use native.Mathlib.Omega.{arith}
use Rattle.slot.proofs.Steps.{held-of-list}
use Rattle.slot.proofs.block.is_held.Goals as goal

pub returns : goal.returns
returns c = held-of-list c.args.block.now (omega arith)
