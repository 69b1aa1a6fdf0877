-- The bytes read at a block's address are the block. Assumes nothing.
use Rattle.image.specs.Parts.{block_at}
use Rattle.image.proofs.get_block.Goals as goal

pub returns : goal.returns
unfolding block_at
returns c = cc
