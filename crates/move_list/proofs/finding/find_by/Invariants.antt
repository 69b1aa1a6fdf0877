-- The moves of the blocks before b have been found and counted, and none of their copies has a lock. Assumes nothing.
use Prim.Native.Nat.{◌%◌, ◌*◌, ◌≤◌}
use lib.ListN.{length}
use mathlib.Core.Bool.{false}
use mathlib.Core.Path.{◌≡◌}
use Rattle.lists.specs.Tests.{any_below}
use Rattle.image.specs.Layout.{block_count, card_count}
use Rattle.mask.specs.SiteMasks.{MasksBelow}
use Rattle.move_list.proofs.FoundMoves.{locked_block, moves_below, origin}
use Rattle.move_list.proofs.finding.find_by.Given as goal

abbrev pub invariant-loop-b : goal.invariant-loop-b
invariant-loop-b l = (length l.origins ≡ block_count) × (l.count ≤ card_count * l.b)
    × (l.count ≡ length (moves_below l.image l.b)) × MasksBelow (origin l.image) l.origins l.b × (any_below l.b (locked_block l.image) ≡ false) × (l.place ≡ l.b % l.round)
