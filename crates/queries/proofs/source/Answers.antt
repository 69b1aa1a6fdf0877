-- Refused as the get is, or the first holder if there is one. Assumes nothing.
use Rattle.queries.specs.Queries.{source_on}
use Rattle.queries.proofs.Telling.{first-none, first_some, refused-by, told-by}
use Rattle.queries.proofs.source.Goals as goal

pub returns-in_err-found : goal.returns-in_err-found
unfolding source_on
returns-in_err-found c = refused-by _ _ _ _ c.in_err-found.ensures.refusal_is c.from_residual.ensures

pub returns-in-Some : goal.returns-in-Some
unfolding source_on
returns-in-Some c =
    let e = c.in_ok-found.ensures in
    told-by _ _ _ e.refusal_is (first_some _ e.ready.holders-are c.in-Some.card c.in-Some.is)

pub returns-in-None : goal.returns-in-None
unfolding source_on
returns-in-None c =
    let e = c.in_ok-found.ensures in
    told-by _ _ _ e.refusal_is (first-none _ e.ready.holders-are c.in-None.is)
