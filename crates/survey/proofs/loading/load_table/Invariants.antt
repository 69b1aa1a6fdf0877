-- The load of the blocks before b has been added up, and it is at most eight a block. Assumes nothing.
use Prim.Native.Nat.{◌*◌, ◌≤◌}
use mathlib.Core.Path.{◌≡◌}
use Rattle.image.specs.Layout.{slot_count}
use Rattle.survey.specs.Loads.{load_below}
use Rattle.survey.proofs.loading.load_table.Given as goal

abbrev pub invariant-loop-b : goal.invariant-loop-b
invariant-loop-b l = (l.n ≤ slot_count * l.b) × (l.n ≡ load_below l.image l.card.0 l.b)
