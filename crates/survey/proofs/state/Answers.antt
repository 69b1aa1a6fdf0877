-- Refused by the form or as stopped; else nothing changes, and the word follows from whether every placement withstands a failure. Assumes nothing.
use mathlib.Core.Bool.{false, true}
use mathlib.Core.Path.{◌∙◌, refl, sym}
use Rattle.method.specs.Rules.{state}
use Rattle.refusals.specs.declared.Refusal.TheVariants.{Stopped}
use Rattle.promise.specs.declared.Answer.TheVariants.{Protected, Unprotected}
use Rattle.promise.proofs.Finish.{by_form, by-look, given, refused-by-rules}
use Rattle.promise.proofs.SharedRows.{state-rows}
use Rattle.survey.proofs.States.{state-plan}
use Rattle.survey.proofs.state.Goals as goal

pub returns-in_err-k : goal.returns-in_err-k
returns-in_err-k c = by_form state refl c.args.image.now _ _ c.in_err-k.ensures c.from_residual.ensures

pub returns-then-k : goal.returns-then-k
returns-then-k c =
    let g = c.args.image.now in
    let e = given c.in_ok-k.ensures in
    refused-by-rules state refl g e.formed Stopped (rw c.if-k.true at (state-rows c.in_ok-k.k g e))

pub all_withstand-requires : goal.all_withstand-requires
all_withstand-requires c = (given c.in_ok-k.ensures).is.counted

pub returns-then-all_withstand : goal.returns-then-all_withstand
returns-then-all_withstand c =
    let g = c.args.image.now in
    let e = given c.in_ok-k.ensures in
    let k = c.in_ok-k.k in
    by-look state refl g e.formed Protected (rw c.if-k.false at (state-rows k g e)) (state-plan k g e true c.if-k.false (sym c.if-all_withstand.true ∙ c.all_withstand.ensures))

pub returns : goal.returns
returns c =
    let g = c.args.image.now in
    let e = given c.in_ok-k.ensures in
    let k = c.in_ok-k.k in
    by-look state refl g e.formed Unprotected (rw c.if-k.false at (state-rows k g e)) (state-plan k g e false c.if-k.false (sym c.if-all_withstand.false ∙ c.all_withstand.ensures))
