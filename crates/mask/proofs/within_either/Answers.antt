-- The joined bits of two masks are the cards of either (`within-either-is`). Assumes nothing.
use mathlib.Core.Path.{◌∙◌}
use native.Mathlib.Omega.{arith}
use Rattle.mask.proofs.Sets.{within-either-is}
use Rattle.mask.specs.Masks.{byte}
use Rattle.mask.proofs.within_either.Goals as goal

pub returns : goal.returns
returns c =
    let a = c.args in
    c.within.ensures ∙ within-either-is a.b a.c (omega arith) (omega arith) (byte a.a)
