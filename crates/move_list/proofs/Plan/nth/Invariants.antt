-- The moves of the blocks before b are passed over: what is left of n counts from block b. Assumes nothing.
use Prim.Native.Nat.{◌+◌}
use mathlib.Core.Path.{◌≡◌}
use Rattle.move_list.proofs.MovePlans.{moves_below}
use Rattle.move_list.proofs.Plan.nth.Given as goal

abbrev pub invariant-loop-b : goal.invariant-loop-b
invariant-loop-b l = l.n ≡ moves_below l.self.origins l.b + l.left
