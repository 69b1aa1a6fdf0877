-- The bytes of the entries before i stand at the front, one entry more at each turn. Assumes nothing.
use mathlib.Core.Path.{◌≡◌}
use Rattle.lists.specs.Segments.{splice}
use Rattle.move_bytes.specs.MoveBytes.{first_bytes}
use Rattle.move_bytes.proofs.put_entries.Given as goal

abbrev pub invariant-loop-i : goal.invariant-loop-i
invariant-loop-i l = l.bytes ≡ splice l.initial.bytes 0 (first_bytes l.moves l.i)
