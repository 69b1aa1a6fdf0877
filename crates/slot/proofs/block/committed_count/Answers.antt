-- At the end all slots are counted. Assumes nothing.
use borrow.Author.Rules.{rules}
use Rattle.slot.specs.Blocks.{committed_count}
use Rattle.slot.proofs.block.committed_count.Goals as goal

pub returns : goal.returns
unfolding committed_count
returns c = search rules
