-- The set of the transactions up to i has been collected, and each new bit is above it. Assumes nothing.
use Rattle.std.proofs.Common.{◌+◌, ◌≡◌}
use Rattle.tables.specs.Tables.{set_below}
use Rattle.tables.proofs.Sets.{picked}
use Rattle.tables.proofs.set_by.Given as goal

abbrev pub invariant-loop-i : goal.invariant-loop-i
invariant-loop-i g l = l.set ≡ set_below (l.i + 1) (picked g.picks l.homes)
