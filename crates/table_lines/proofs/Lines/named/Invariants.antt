-- The mask has the cards that the first i lines name. Assumes nothing.
use mathlib.Core.Path.{◌≡◌}
use Rattle.mask.specs.Masks.{byte}
use Rattle.table_lines.specs.Lines.{named_by}
use Rattle.table_lines.proofs.Lines.named.Given as goal

abbrev pub invariant-loop-i : goal.invariant-loop-i
invariant-loop-i l = byte l.mask ≡ named_by l.self.bytes.now l.i
