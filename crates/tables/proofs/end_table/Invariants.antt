-- The blocks below b have ended, each as the part that was lent. Assumes nothing.
use Rattle.std.proofs.Common.{◌≡◌}
use Rattle.lists.specs.Segments.{each}
use Rattle.image.specs.Layout.{block_size}
use Rattle.slot.specs.Blocks.{in_set}
use Rattle.tables.proofs.Ends.{block_wise}
use Rattle.tables.proofs.end_table.Given as goal

abbrev pub invariant-loop-b : goal.invariant-loop-b
invariant-loop-b l = l.table ≡ each (block_wise l.take (in_set l.set)) 0 block_size l.b l.initial.table
