-- Refused by a row of a working card; else each return is what the rows say of the two tests behind these. Assumes nothing.
use mathlib.Core.Path.{◌∙◌, refl}
use Rattle.refusals.proofs.HandedOn.{row-handed-on}
use Rattle.refusals.proofs.Numbers.{not-none}
use Rattle.control.specs.Meaning.{meaning}
use Rattle.cards.proofs.Rows.{withdraw-by, withdraw-refused}
use Rattle.cards.proofs.check_withdraw.Goals as goal

pub returns-in_err-check_card : goal.returns-in_err-check_card
returns-in_err-check_card c =
    let a = c.args in
    row-handed-on _ _ c.from_residual.ensures ∙ withdraw-refused (meaning a.k) a.card.0 _ c.in_err-check_card.ensures (not-none _)

pub returns-then-in_active : goal.returns-then-in_active
returns-then-in_active c =
    let a = c.args in
    rw c.if-in_active.true at (withdraw-by (meaning a.k) a.card.0 0 c.in_ok-check_card.ensures refl c.in_active.result _ c.in_active.ensures refl)

pub returns-then-begun_here : goal.returns-then-begun_here
returns-then-begun_here c =
    let a = c.args in
    rw (c.if-in_active.false, c.if-begun_here.true) at
    (withdraw-by (meaning a.k) a.card.0 0 c.in_ok-check_card.ensures refl _ _ c.in_active.ensures c.begun_here.ensures)

pub returns : goal.returns
returns c =
    let a = c.args in
    rw (c.if-in_active.false, c.if-begun_here.false) at
    (withdraw-by (meaning a.k) a.card.0 0 c.in_ok-check_card.ensures refl _ _ c.in_active.ensures c.begun_here.ensures)
