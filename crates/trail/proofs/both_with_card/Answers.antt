-- The card is taken where it works and holds the block, for each of two blocks. Assumes nothing.
use Prim.Native.Nat.{◌+◌}
use mathlib.Core.Path.{◌∙◌, subst, sym}
use Rattle.mask.specs.Masks.{byte}
use Rattle.trail.specs.Trail.{WithCard}
use Rattle.trail.proofs.Holding.{idle-holds, works-holds}
use Rattle.trail.proofs.both_with_card.Goals as goal

pub returns-then-works : goal.returns-then-works
returns-then-works c =
    let a = c.args in
    let g = a.image.now in
    let works = sym c.has-works.ensures ∙ c.if-works.true in (
      subst (WithCard a.held.first c.with_if.result a.card.0)
          (works-holds g (byte a.working) a.block.0 a.card.0 c.is_held-first.result works c.is_held-first.ensures) c.with_if.ensures,
      subst (WithCard a.held.second c.with_if-then-works.result a.card.0)
          (works-holds g (byte a.working) (a.block.0 + 1) a.card.0 c.is_held-second.result works c.is_held-second.ensures) c.with_if-then-works.ensures,
    )

pub returns : goal.returns
returns c =
    let a = c.args in
    let g = a.image.now in
    let idle = sym c.has-works.ensures ∙ c.if-works.false in
    (rw (sym (idle-holds g (byte a.working) a.block.0 a.card.0 idle)), rw (sym (idle-holds g (byte a.working) (a.block.0 + 1) a.card.0 idle)))
