-- The locks joined are 0 exactly if no slot is locked. Assumes nothing.
use Prim.Native.Nat.{ℕ}
use mathlib.Core.Bool.{not}
use mathlib.Core.Path.{ap, ◌∙◌}
use lib.Dec.{eqb}
use Rattle.slot.specs.Blocks.{of_list}
use Rattle.slot.proofs.Locks.{locked-joined}
use Rattle.slot.proofs.block.any_locked.Goals as goal

pub returns : goal.returns
returns c =
    let x = of_list c.args.block.now in
    ap (λ (n : ℕ). not (eqb n 0)) c.joined_locks.ensures ∙ locked-joined x
