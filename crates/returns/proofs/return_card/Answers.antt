-- Refused by the form or by a row, or taken. Assumes nothing.
use mathlib.Core.Path.{sym}
use Rattle.promise.proofs.Finish.{given}
use Rattle.returns.proofs.Finish.{by_form, by-rules, by-taking}
use Rattle.returns.proofs.Rows.{in-range}
use Rattle.returns.proofs.return_card.Goals as goal

pub returns-in_err-k : goal.returns-in_err-k
returns-in_err-k c = let a = c.args in by_form a.card.0 a.image.now _ _ c.in_err-k.ensures c.from_residual.ensures

pub check-requires : goal.check-requires
check-requires c = given c.in_ok-k.ensures

pub returns-in_err-check : goal.returns-in_err-check
returns-in_err-check c =
    let a = c.args in by-rules a.card.0 a.image.now (given c.in_ok-k.ensures).formed _ _ c.in_err-check.ensures c.from_residual-in_err-check.ensures

pub rejoin-requires : goal.rejoin-requires
rejoin-requires c =
    let a = c.args in record { given = given c.in_ok-k.ensures; card_lt_card_count = in-range a.image.now a.card.0 (sym c.in_ok-check.ensures) }

pub returns : goal.returns
returns c = let a = c.args in by-taking a.card.0 a.image.now (given c.in_ok-k.ensures).formed _ c.in_ok-check.ensures c.rejoin.ensures
