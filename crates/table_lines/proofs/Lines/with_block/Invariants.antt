-- The loop counts those of the first i lines that have the block. Assumes nothing.
use mathlib.Core.Path.{◌≡◌}
use Prim.Native.Nat.{◌≤◌}
use Rattle.lists.specs.Tests.{count_below}
use Rattle.table_lines.specs.Lines.{has_block, line_at}
use Rattle.table_lines.proofs.Lines.with_block.Given as goal

abbrev pub invariant-loop-i : goal.invariant-loop-i
invariant-loop-i l = (l.n ≤ l.i) × (l.n ≡ count_below l.i (λ j. has_block (line_at l.self.bytes.now j) l.block.0))
