-- The first i bytes are spliced in; each turn splices in one more. Assumes nothing.
use mathlib.Core.Path.{◌≡◌}
use lib.ListN.{length, take}
use Rattle.lists.specs.Segments.{splice}
use Rattle.image.proofs.write_at.Given as goal

abbrev pub invariant-loop-i : goal.invariant-loop-i
invariant-loop-i l = (length l.s ≡ length l.initial.s) × (l.s ≡ splice l.initial.s l.at (take l.i l.bytes))
