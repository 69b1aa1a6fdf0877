-- A block that is not held, and one in which nothing is picked, stays as it is. Assumes nothing.
use mathlib.Core.Path.{sym, ◌∙◌}
use Rattle.slot.specs.Blocks.{in_set}
use Rattle.slot.proofs.Ends.{ended-bare, ended_held, ended-idle}
use Rattle.slot.proofs.block.end_held.Goals as goal
use Rattle.slot.proofs.block.end_held.Goals.{else-is_held-via-then-is_held+else-may_pick, else-is_held-via-else-is_held}

pub returns-then-may_pick : goal.returns-then-may_pick
returns-then-may_pick c =
    let a = c.args in
    c.end_slots.ensures ∙ ended_held a.take (in_set a.set) a.block.now (sym c.is_held.ensures ∙ c.if-is_held.true)

pub returns-else-is_held : goal.returns-else-is_held
returns-else-is_held c =
    let a = c.args in
    elim c.else-is_held.branch [
      | else-is_held-via-then-is_held+else-may_pick w ↦ ended-idle a.take (in_set a.set) a.block.now c.requires (w.may_pick.ensures w.if-may_pick.false)
      | else-is_held-via-else-is_held w ↦ ended-bare a.take (in_set a.set) a.block.now (sym c.is_held.ensures ∙ w.if-is_held.false)
    ]
