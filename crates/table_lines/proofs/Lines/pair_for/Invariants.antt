-- The pair is that of the last of the first i lines that has the block. Assumes nothing.
use mathlib.Core.Path.{◌≡◌}
use Prim.Native.Nat.{◌<◌}
use Rattle.mask.specs.Pairs.{pair_bound}
use Rattle.table_lines.specs.Lines.{pair_by}
use Rattle.table_lines.proofs.Lines.pair_for.Given as goal

abbrev pub invariant-loop-i : goal.invariant-loop-i
invariant-loop-i l = (l.pair < pair_bound) × (l.pair ≡ pair_by l.self.bytes.now l.block.0 l.i)
