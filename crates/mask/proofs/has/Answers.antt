-- A card is asked by its bit (`bit_is_lem`); a number above the cards is no member. Assumes nothing.
use mathlib.Core.Path.{sym, ap, ◌∙◌}
use mathlib.Core.Bool.{not}
use Prim.Native.Nat.{ℕ}
use lib.Bits.{bit_and}
use lib.Dec.{eqb}
use native.Mathlib.Omega.{arith}
use borrow.Author.Tests.{le-ltb}
use Rattle.image.specs.Layout.{card_count}
use Rattle.mask.specs.Masks.{byte}
use Rattle.mask.proofs.Sets.{bit_is_lem, no-card}
use Rattle.mask.proofs.has.Goals as goal

pub returns-then-card-lt-MOST_CARDS : goal.returns-then-card-lt-MOST_CARDS
returns-then-card-lt-MOST_CARDS c =
    let a = c.args in
    ap (λ (n : ℕ). not (eqb (bit_and a.mask n) 0)) c.bit_of.ensures ∙ bit_is_lem a.mask a.card.0 (omega arith) (omega arith)

pub returns-else-card-lt-MOST_CARDS : goal.returns-else-card-lt-MOST_CARDS
returns-else-card-lt-MOST_CARDS c =
    let a = c.args in le-ltb a.card.0 card_count (omega arith) ∙ sym (no-card (byte a.mask) a.card.0 (omega arith))
