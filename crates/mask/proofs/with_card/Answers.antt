-- The card's bit is joined (`with-is`). Assumes nothing.
use mathlib.Core.Path.{ap, ◌∙◌}
use Prim.Native.Nat.{ℕ}
use lib.Bits.{bit_or}
use native.Mathlib.Omega.{arith}
use Rattle.mask.specs.Masks.{byte}
use Rattle.mask.proofs.Sets.{with-is}
use Rattle.mask.proofs.with_card.Goals as goal

pub returns : goal.returns
returns c =
    let a = c.args in
    ap (λ (n : ℕ). byte (bit_or a.mask n)) c.bit_of.ensures ∙ with-is a.mask a.card.0 (omega arith)
