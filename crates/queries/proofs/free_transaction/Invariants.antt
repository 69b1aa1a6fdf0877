-- The transactions below t are open. Assumes nothing.
use Prim.Native.Nat.{◌-◌}
use mathlib.Core.Path.{◌≡◌}
use Rattle.image.specs.Layout.{tran_bound}
use Rattle.control.specs.Meaning.{meaning}
use Rattle.queries.specs.Queries.{free_from, free_in}
use Rattle.queries.proofs.free_transaction.Given as goal

abbrev pub invariant-loop-t : goal.invariant-loop-t
invariant-loop-t l = free_in (meaning l.k) ≡ free_from (meaning l.k) l.t (tran_bound - l.t)
