-- Two groups more are and-ed (`top-turn`), and at the end the highest bit tells (`top-tells`). Assumes nothing.
use mathlib.Core.Path.{refl}
use Prim.Native.Nat.{◌*◌, ◌+◌, ℕ}
use native.Mathlib.Omega.{arith}
use lib.Bits.{bit_and}
use lib.ListN.{get_or}
use Rattle.image.specs.Layout.{block_count}
use Rattle.mask.specs.Masks.{byte}
use Rattle.mask.specs.Pairs.{blocks_in_group, is_pair_of, pair_at}
use Rattle.mask.proofs.PairSets.{top-tells, top-turn}
use Rattle.mask.proofs.pairs.are_pairs_of.Invariants.{in_turn}
use Rattle.mask.proofs.pairs.are_pairs_of.Goals as goal

pub loop-i-preserved : goal.loop-i-preserved
loop-i-preserved c =
    let l = c.loop-i in
    let m = c.args.mask in
    let s = c.good_pairs-good.result in
    let f : ℕ → ℕ = λ j. get_or c.args.pairs.now j 0 in
    let one = top-turn m s l.all c.four_in.result (l.i * 2) c.group.result (l.i * in_turn) (l.i * in_turn + blocks_in_group) f
    c.good_pairs-good.ensures c.group.ensures.0 (omega arith) refl c.four_in.ensures l.invariant in
    top-turn m s (bit_and l.all c.four_in.result) c.four_in-in-loop-i.result (l.i * 2 + 1) c.group-in-loop-i.result
    (l.i * in_turn + blocks_in_group) ((l.i + 1) * in_turn) f c.good_pairs-good.ensures c.group-in-loop-i.ensures.0 (omega arith) (omega arith) c.four_in-in-loop-i.ensures one

pub returns : goal.returns
returns c =
    let l = c.loop-i in
    top-tells l.all (l.i * in_turn) block_count (λ b. is_pair_of (byte c.args.mask) (pair_at (λ j. get_or c.args.pairs.now j 0) b)) (omega arith) l.invariant
