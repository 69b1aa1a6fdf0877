-- One byte more is or-ed. Assumes nothing.
use Rattle.image.proofs.Zeros.{zeros-more}
use Rattle.image.proofs.all_zero.Goals as goal

pub loop-b-preserved : goal.loop-b-preserved
loop-b-preserved c = zeros-more c.args.bytes.now c.loop-b.b-index c.loop-b.any c.loop-b.invariant
