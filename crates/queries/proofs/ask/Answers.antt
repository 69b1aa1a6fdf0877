-- Refused by the form, or what the control part tells. Assumes nothing.
use mathlib.Core.Path.{◌∙◌, ap}
use Rattle.control.specs.ControlBytes.{Part}
use Rattle.cabinet_rules.specs.Images.{control_in}
use Rattle.promise.proofs.Finish.{given}
use Rattle.queries.specs.Queries.{told_of, told_on}
use Rattle.queries.proofs.Telling.{refused-by, told-by, told-front}
use Rattle.queries.proofs.ask.Goals as goal

pub returns-in_err-read : goal.returns-in_err-read
unfolding told_on
returns-in_err-read c = refused-by _ _ _ _ c.in_err-read.ensures.refusal_is c.from_residual.ensures

pub tell-requires : goal.tell-requires
tell-requires c = (given c.in_ok-read.ensures).is.counted

pub returns : goal.returns
unfolding told_on
returns c =
    let e = c.in_ok-read.ensures in
    let q = c.args.query in
    told-by _ _ _ e.refusal_is (c.tell.ensures ∙ ap (λ (k : Part). told_of q k) (given e).is.means ∙ told-front q (control_in c.args.image.now))
