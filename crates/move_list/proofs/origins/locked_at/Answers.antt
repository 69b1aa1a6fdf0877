-- The lent part is the card's block. Assumes nothing.
use Prim.Native.Nat.{◌+◌, ◌-◌}
use mathlib.Core.Path.{◌∙◌, ap, sym}
use native.Mathlib.Omega.{arith}
use Rattle.image.specs.Layout.{block_size}
use Rattle.slot.specs.Blocks.{some_locked}
use Rattle.promise.proofs.Laid.{of_part}
use Rattle.move_list.proofs.origins.locked_at.Goals as goal

pub returns-then-has : goal.returns-then-has
returns-then-has c =
    let a = c.args in
    let t = c.block_address-start.result in
    rw (sym c.has.ensures ∙ c.if-has.true)
    (c.any_locked.ensures ∙ ap some_locked (of_part a.image.now c.requires.0 a.card.0 a.block.0 c.requires.1 c.requires.2 t (t + block_size - t) c.block_address-start.ensures (omega arith)))

pub returns : goal.returns
returns c = rw (sym c.has.ensures ∙ c.if-has.false)
