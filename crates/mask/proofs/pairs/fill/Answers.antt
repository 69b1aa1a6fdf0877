-- One mask more is of the cards of its block's pair (`mask-turn`). Assumes nothing.
use native.Mathlib.Omega.{arith}
use lib.ListN.{get_or}
use Rattle.mask.proofs.PairLaws.{mask-turn}
use Rattle.mask.proofs.pairs.fill.Goals as goal

pub loop-place-preserved : goal.loop-place-preserved
loop-place-preserved c =
    let l = c.loop-place in
    mask-turn (λ j. get_or c.args.pairs.now j 0) l.masks c.loop-q.q l.place c.group-bits.result c.mask_in.result (omega arith) c.loop-place-test.true c.group-bits.ensures.0
    c.mask_in.ensures l.invariant
