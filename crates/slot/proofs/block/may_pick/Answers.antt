-- Without a lock only transaction 0 is found in the slots, and a lock that the set has also has the bits that its numbers share. Assumes nothing.
use mathlib.Core.Path.{sym, ◌∙◌}
use native.Mathlib.Omega.{arith}
use Rattle.slot.specs.Blocks.{of_list}
use Rattle.slot.proofs.Locks.{bits-missing, no-lock, none-picked}
use Rattle.slot.proofs.block.may_pick.Goals as goal

pub returns-then-joined-eq0 : goal.returns-then-joined-eq0
returns-then-joined-eq0 c = λ e.
    let a = c.args in
    let x = of_list a.block.now in
    none-picked a.set x (omega arith) (no-lock x (sym c.joined_locks-joined.ensures ∙ c.if-joined-eq0.true))

pub returns : goal.returns
returns c = λ e.
    let a = c.args in
    bits-missing a.set (of_list a.block.now) (rw (c.joined_locks-joined.ensures, c.shared_bits-shared.ensures) at e)
