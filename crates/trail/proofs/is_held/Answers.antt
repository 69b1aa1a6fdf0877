-- The first byte of the block, read in the image, shows whether it is held. Assumes nothing.
use native.Mathlib.Omega.{arith}
use Rattle.trail.proofs.Holding.{held-byte}
use Rattle.trail.proofs.is_held.Goals as goal

pub returns : goal.returns
returns c =
    let a = c.args in
    held-byte a.image.now a.card.0 a.block.0 c.block_address-at.result c.block_address-at.ensures (omega (arith, c.type_inv.image c.block_address-at.result))
