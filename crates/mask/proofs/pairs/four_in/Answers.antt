-- The set shifted by each of the four pairs (`top-four`). Assumes nothing.
use mathlib.Core.Path.{refl}
use Prim.Native.Nat.{◌%◌, ◌/◌, ◌^◌}
use native.Mathlib.Omega.{arith}
use Rattle.mask.specs.Pairs.{pair_bound}
use Rattle.mask.proofs.PairSets.{top-four}
use Rattle.mask.proofs.pairs.four_in.Goals as goal

pub returns : goal.returns
returns c =
    let n = c.args.bits in
    top-four c.args.set n (n / pair_bound ^ 3) (n / pair_bound ^ 2 % pair_bound) (n / pair_bound % pair_bound) (n % pair_bound) (omega arith) refl refl (omega arith)
