-- At the end all bytes are those of what is packed. Assumes nothing.
use native.Mathlib.Omega.{arith}
use lib.ListN.{get_or}
use Rattle.mask.proofs.PairLaws.{are-packed}
use Rattle.mask.proofs.pairs.pack.Goals as goal

pub returns : goal.returns
returns c =
    let l = c.loop-q in
    are-packed (λ b. get_or c.args.pairs b 0) l.bytes l.invariant.long (λ k h. l.invariant.so_far k (omega arith))
