-- What is found is of the blocks below b, each looked up once. Assumes nothing.
use mathlib.Core.Path.{◌≡◌}
use Rattle.table_lines.proofs.LineLaws.{gap_below, overlap_below}
use Rattle.table_lines.proofs.Lines.coverage.Given as goal

abbrev pub invariant-loop-b : goal.invariant-loop-b
invariant-loop-b l = (l.found.gap ≡ gap_below l.self.bytes.now l.b) × (l.found.overlap ≡ overlap_below l.self.bytes.now l.b)
