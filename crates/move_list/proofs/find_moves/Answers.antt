-- Refused by the form or as stopped; else what was found is the rules'. Assumes nothing.
use Rattle.promise.proofs.Finish.{given}
use Rattle.move_list.proofs.MovePlans.{plan-by-form, plan-found, plan-stopped}
use Rattle.move_list.proofs.find_moves.Goals as goal

pub returns-in_err-k : goal.returns-in_err-k
returns-in_err-k c = plan-by-form c.args.image.now _ _ c.in_err-k.ensures.refusal_is c.from_residual.ensures

pub returns-then-k : goal.returns-then-k
returns-then-k c = plan-stopped c.in_ok-k.k c.args.image.now (given c.in_ok-k.ensures) c.if-k.true

pub find-requires : goal.find-requires
find-requires c = given c.in_ok-k.ensures

pub returns : goal.returns
returns c = plan-found c.in_ok-k.k c.args.image.now (given c.in_ok-k.ensures) c.if-k.false c.find.result c.find.ensures
