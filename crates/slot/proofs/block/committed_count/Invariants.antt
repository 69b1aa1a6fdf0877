-- The loop counts the slots below i. Assumes nothing.
use mathlib.Core.Path.{◌≡◌}
use Prim.Native.Nat.{◌≤◌}
use Rattle.lists.specs.Tests.{count_below}
use Rattle.slot.specs.Blocks.{is_committed, of_list}
use Rattle.slot.proofs.block.committed_count.Given as goal

abbrev pub invariant-loop-i : goal.invariant-loop-i
invariant-loop-i l = (l.n ≤ l.i) × (l.n ≡ count_below l.i (is_committed (of_list l.block)))
