-- The cards before c that hold each of the two blocks have been found. Assumes nothing.
use Prim.Native.Nat.{◌+◌}
use mathlib.Core.Path.{refl}
use native.Mathlib.Omega.{arith}
use Rattle.mask.specs.Masks.{byte}
use Rattle.mask.proofs.Masks.{card-more, none_below}
use Rattle.trail.specs.Trail.{holds_at}
use Rattle.trail.proofs.Holding.{all_held}
use Rattle.trail.proofs.held_by_two.Goals as goal

pub loop-c-init : goal.loop-c-init
loop-c-init c =
    let a = c.args in record {
      first = none_below (holds_at a.image.now (byte a.working) a.block.0);
      second = none_below (holds_at a.image.now (byte a.working) (a.block.0 + 1));
    }

pub loop-c-preserved : goal.loop-c-preserved
loop-c-preserved c =
    let a = c.args in
    let l = c.loop-c in
    let g = a.image.now in
    let r = c.both_with_card-held in record {
      first = card-more (holds_at g (byte a.working) a.block.0) l.held.first r.result.first l.c c.loop-c-test.true l.invariant.first
          (holds_at g (byte a.working) a.block.0 l.c) refl r.ensures.0;
      second = card-more (holds_at g (byte a.working) (a.block.0 + 1)) l.held.second r.result.second l.c c.loop-c-test.true l.invariant.second
          (holds_at g (byte a.working) (a.block.0 + 1) l.c) refl r.ensures.1;
    }

pub returns : goal.returns
returns c =
    let a = c.args in
    let l = c.loop-c in (
      all_held a.image.now (byte a.working) a.block.0 l.held.first l.c (omega arith) l.invariant.first,
      all_held a.image.now (byte a.working) (a.block.0 + 1) l.held.second l.c (omega arith) l.invariant.second,
    )
