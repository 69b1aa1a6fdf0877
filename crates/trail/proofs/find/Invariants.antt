-- After i turns the holders among the sites of the first i placements are found. Assumes nothing.
use Rattle.trail.specs.Trail.{Lists}
use Rattle.trail.proofs.Holding.{first_holders}
use Rattle.trail.proofs.find.Given as goal

abbrev pub invariant-loop-i : goal.invariant-loop-i
invariant-loop-i l = Lists l.found (first_holders l.image l.block.0 l.i)
