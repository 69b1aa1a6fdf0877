-- All bits but the card's are kept (`without_is`). Assumes nothing.
use mathlib.Core.Path.{ap, ◌∙◌}
use Prim.Native.Nat.{ℕ, ◌-◌}
use lib.Bits.{bit_and}
use native.Mathlib.Omega.{arith}
use Rattle.mask.specs.Masks.{byte}
use Rattle.mask.proofs.Sets.{without_is}
use Rattle.mask.proofs.without_card.Goals as goal

pub returns : goal.returns
returns c =
    let a = c.args in
    ap (λ (n : ℕ). byte (bit_and a.mask (255 - n))) c.bit_of.ensures ∙ without_is a.mask a.card.0 (omega arith)
