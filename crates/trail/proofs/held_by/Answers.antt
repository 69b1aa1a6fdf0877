-- The cards before c that hold the block have been found. Assumes nothing.
use native.Mathlib.Omega.{arith}
use Rattle.mask.specs.Masks.{byte}
use Rattle.mask.proofs.Masks.{card-more, none_below}
use Rattle.trail.specs.Trail.{holds_at}
use Rattle.trail.proofs.Holding.{all_held}
use Rattle.trail.proofs.held_by.Goals as goal

pub loop-c-init : goal.loop-c-init
loop-c-init c = none_below (holds_at c.args.image.now (byte c.args.working) c.args.block.0)

pub loop-c-preserved : goal.loop-c-preserved
loop-c-preserved c =
    let a = c.args in
    card-more (holds_at a.image.now (byte a.working) a.block.0) c.loop-c.held c.with_if-held.result c.loop-c.c c.loop-c-test.true c.loop-c.invariant
    c.holds-on.result c.holds-on.ensures c.with_if-held.ensures

pub returns : goal.returns
returns c =
    let a = c.args in
    all_held a.image.now (byte a.working) a.block.0 c.loop-c.held c.loop-c.c (omega arith) c.loop-c.invariant
