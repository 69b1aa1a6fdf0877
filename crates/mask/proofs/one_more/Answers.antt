-- The first card that the mask has more is the only one, if with it the two masks are equal. Assumes nothing.
use mathlib.Core.Path.{sym, ap, ◌∙◌}
use Prim.Native.Nat.{◌<◌}
use native.Mathlib.Nat.{mod-eq_of_lt}
use native.Mathlib.Omega.{arith}
use lib.Dec.{eqb}
use Rattle.mask.specs.Masks.{Byte, byte}
use Rattle.mask.proofs.Masks.{has-card}
use Rattle.mask.proofs.Sets.{one-more-is, extra_of}
use borrow.Author.Rules.{rules}
use Rattle.mask.proofs.one_more.Goals as goal

pub with_card-requires : goal.with_card-requires
with_card-requires c =
    let a = c.args in
    has-card (byte a.failed) (extra_of a.base a.mask) (sym c.has.ensures ∙ c.if-has.true)

pub returns-then-has : goal.returns-then-has
returns-then-has c =
    let a = c.args in
    let h : c.with_card.result < 256 = search rules in
    ap (eqb a.mask) (sym (mod-eq_of_lt h) ∙ ap (λ (x : Byte). x.0) c.with_card.ensures)
    ∙ rw (sym c.has.ensures ∙ c.if-has.true) at (one-more-is (byte a.failed) a.base a.mask (omega arith) (omega arith))

pub returns-else-has : goal.returns-else-has
returns-else-has c =
    let a = c.args in
    c.if-has.false ∙ rw (sym c.has.ensures ∙ c.if-has.false) at (one-more-is (byte a.failed) a.base a.mask (omega arith) (omega arith))
