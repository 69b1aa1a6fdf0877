-- Refused as the get is, or the number of the holders' mask. Assumes nothing.
use Prim.Native.Nat.{ℕ}
use mathlib.Core.Path.{◌∙◌, ap}
use native.Mathlib.Omega.{arith}
use Rattle.mask.specs.Masks.{byte}
use Rattle.mask.proofs.MaskSites.{size-le}
use Rattle.queries.specs.Queries.{holders_on, tells}
use Rattle.queries.proofs.Telling.{cards-told, refused-by, told-by}
use Rattle.queries.proofs.holders.Goals as goal

pub returns-in_err-found : goal.returns-in_err-found
unfolding holders_on
returns-in_err-found c = refused-by _ _ _ _ c.in_err-found.ensures.refusal_is c.from_residual.ensures

pub overflow_cast-result : goal.overflow_cast-result
overflow_cast-result c = omega (arith, c.members.ensures, size-le (byte c.in_ok-found.found.holders.cards))

pub returns : goal.returns
unfolding holders_on
returns c =
    let e = c.in_ok-found.ensures in
    told-by _ _ _ e.refusal_is (ap (λ (n : ℕ). tells n) (c.members.ensures ∙ cards-told _ e.ready.holders-are))
