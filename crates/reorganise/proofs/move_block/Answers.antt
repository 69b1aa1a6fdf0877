-- Refused by the form or by a row; else what the spreading promises. Assumes nothing.
use mathlib.Core.Path.{refl}
use Rattle.method.specs.Rules.{move}
use Rattle.promise.proofs.Finish.{by_form, by-rules, given}
use Rattle.reorganise.proofs.move_block.Goals as goal

pub returns-in_err-k : goal.returns-in_err-k
returns-in_err-k c = let a = c.args in by_form (move a.card.0 a.block.0) refl a.image.now _ _ c.in_err-k.ensures c.from_residual.ensures

pub check-requires : goal.check-requires
check-requires c = given c.in_ok-k.ensures

pub returns-in_err-check : goal.returns-in_err-check
returns-in_err-check c =
    let a = c.args in
    by-rules (move a.card.0 a.block.0) refl a.image.now (given c.in_ok-k.ensures).formed _ _ c.in_err-check.ensures c.from_residual-in_err-check.ensures

pub spread-requires : goal.spread-requires
spread-requires c = record { given = given c.in_ok-k.ensures; value = c.in_ok-check.ensures }
