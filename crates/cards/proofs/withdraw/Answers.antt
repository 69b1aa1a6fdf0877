-- Refused by the form or by a row; else the card's table is emptied and the card dismissted. Assumes nothing.
use mathlib.Core.Path.{refl}
use Rattle.method.specs.Rules.{withdraw}
use Rattle.promise.proofs.Finish.{by_form, given, given-whole}
use Rattle.cards.proofs.Plans.{withdraw-card, withdraw-done, withdraw-refused-on}
use Rattle.cards.proofs.withdraw.Goals as goal

pub returns-in_err-k : goal.returns-in_err-k
returns-in_err-k c = let a = c.args in by_form (withdraw a.card.0) refl a.image.now _ _ c.in_err-k.ensures c.from_residual.ensures

pub check_withdraw-requires : goal.check_withdraw-requires
check_withdraw-requires c = (given c.in_ok-k.ensures).is.counted

pub returns-in_err-check_withdraw : goal.returns-in_err-check_withdraw
returns-in_err-check_withdraw c = withdraw-refused-on (given c.in_ok-k.ensures) c.args.card.0 _ _ c.in_err-check_withdraw.ensures c.from_residual-in_err-check_withdraw.ensures

pub dismiss-requires : goal.dismiss-requires
dismiss-requires c =
    let e = given c.in_ok-k.ensures in record { counted = e.is.counted; card_lt_card_count = withdraw-card e c.args.card.0 c.in_ok-check_withdraw.ensures }

pub empty_card-requires : goal.empty_card-requires
empty_card-requires c =
    let e = given c.in_ok-k.ensures in
    record { whole = (given-whole e, withdraw-card e c.args.card.0 c.in_ok-check_withdraw.ensures); counted = c.dismiss.ensures.counted }

pub returns : goal.returns
returns c = withdraw-done (given c.in_ok-k.ensures) c.args.card.0 _ _ c.in_ok-check_withdraw.ensures c.dismiss.ensures c.empty_card.ensures
