-- The bytes before this one, or-ed, are zero where each of them is. Assumes nothing.
use mathlib.Core.Path.{◌≡◌}
use lib.Dec.{eqb}
use lib.ListN.{get_or}
use Rattle.lists.specs.Tests.{all_below}
use Rattle.image.proofs.all_zero.Given as goal

abbrev pub invariant-loop-b : goal.invariant-loop-b
invariant-loop-b l = eqb l.any 0 ≡ all_below l.b-index (λ n. eqb (get_or l.bytes n 0) 0)
