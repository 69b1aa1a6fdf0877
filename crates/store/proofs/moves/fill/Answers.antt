-- A turn puts the next move in its place (`set_next`).
use Prim.Native.Nat.{◌<◌}
use lib.ListN.{length, length-set, set}
use mathlib.Core.List.{List}
use mathlib.Core.Path.{◌∙◌, ap}
use native.Mathlib.Omega.{arith}
use Rattle.move_list.specs.Plans.{move_at, moves_in}
use Rattle.move_list.specs.declared.Move.{Move}
use Rattle.store.proofs.MoveRows.{set_next}
use Rattle.store.proofs.moves.fill.Goals as goal

pub loop-i-preserved : goal.loop-i-preserved
loop-i-preserved c =
    let l = c.loop-i in
    let a = c.args in
    let within : l.i < length a.list.now = omega arith in (
      length-set l.list l.i c.nth.result ∙ l.invariant.0,
      ap (set l.list l.i) c.nth.ensures
          ∙ ap (λ (x : List Move). set x l.i (move_at (moves_in a.plan.origins) l.i)) l.invariant.1
          ∙ set_next (moves_in a.plan.origins) l.i a.list.now within,
    )
