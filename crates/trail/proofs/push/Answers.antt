-- The card stands at the end of the list where it holds the block. Assumes nothing.
use mathlib.Core.Path.{◌∙◌, ap, sym}
use Rattle.std.specs.Prelude.{Some}
use Rattle.mask.specs.Masks.{byte}
use Rattle.trail.specs.Trail.{holds_at}
use Rattle.trail.proofs.Listed.{push-no, push-yes}
use Rattle.trail.proofs.push.Goals as goal

pub returns-then-holds : goal.returns-then-holds
returns-then-holds c =
    let a = c.args in
    push-yes (holds_at a.image.now (byte a.working) a.block.0) a.card _ c.requires.1 (sym c.holds.ensures ∙ c.if-holds.true)
    (ap Some c.unwrap_or.ensures) c.with_card.ensures

pub returns : goal.returns
returns c =
    let a = c.args in
    push-no (holds_at a.image.now (byte a.working) a.block.0) a.card.0 (sym c.holds.ensures ∙ c.if-holds.false)
