-- Refused by the form or by a row; else the card's table is emptied and the card admitted. Assumes nothing.
use mathlib.Core.Path.{refl}
use Rattle.method.specs.Rules.{fit}
use Rattle.promise.proofs.Finish.{by_form, given, given-whole}
use Rattle.cards.proofs.Plans.{fit-card, fit-done, fit_refused}
use Rattle.cards.proofs.fit.Goals as goal

pub returns-in_err-k : goal.returns-in_err-k
returns-in_err-k c = let a = c.args in by_form (fit a.card.0) refl a.image.now _ _ c.in_err-k.ensures c.from_residual.ensures

pub check_fit-requires : goal.check_fit-requires
check_fit-requires c = (given c.in_ok-k.ensures).is.counted

pub returns-in_err-check_fit : goal.returns-in_err-check_fit
returns-in_err-check_fit c = fit_refused (given c.in_ok-k.ensures) c.args.card.0 _ _ c.in_err-check_fit.ensures c.from_residual-in_err-check_fit.ensures

pub admit-requires : goal.admit-requires
admit-requires c =
    let e = given c.in_ok-k.ensures in record { counted = e.is.counted; card_lt_card_count = fit-card e c.args.card.0 c.in_ok-check_fit.ensures }

pub empty_card-requires : goal.empty_card-requires
empty_card-requires c =
    let e = given c.in_ok-k.ensures in
    record { whole = (given-whole e, fit-card e c.args.card.0 c.in_ok-check_fit.ensures); counted = c.admit.ensures.counted }

pub returns : goal.returns
returns c = fit-done (given c.in_ok-k.ensures) c.args.card.0 _ _ c.in_ok-check_fit.ensures c.admit.ensures c.empty_card.ensures
