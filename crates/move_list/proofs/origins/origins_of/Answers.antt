-- A settled block sends nothing; else its strays send, and where there are none the lowest holder. Assumes nothing.
use mathlib.Core.Path.{◌∙◌, sym}
use native.Mathlib.Omega.{arith}
use Rattle.move_list.proofs.OriginMasks.{lowest-moves, settled-stays, strays-move}
use Rattle.move_list.proofs.origins.origins_of.Goals as goal

pub returns-then-block_settled : goal.returns-then-block_settled
returns-then-block_settled c =
    let a = c.args in
    settled-stays a.held a.sites (sym c.if-block_settled.true ∙ c.block_settled.ensures)

pub returns-then-strays-ne0 : goal.returns-then-strays-ne0
returns-then-strays-ne0 c =
    let a = c.args in
    strays-move a.held a.sites (sym c.if-block_settled.false ∙ c.block_settled.ensures) c.without-strays.result (omega arith) c.without-strays.ensures c.if-strays-ne0.true

pub returns : goal.returns
returns c =
    let a = c.args in
    lowest-moves a.held a.sites (sym c.if-block_settled.false ∙ c.block_settled.ensures) c.without-strays.result (omega arith) c.without-strays.ensures c.if-strays-ne0.false c.lowest.result c.lowest.ensures
