-- The block's place in the bits of its group. Assumes nothing.
use mathlib.Core.Path.{◌∙◌, ap}
use Prim.Native.Nat.{◌%◌, ℕ}
use Rattle.mask.specs.Pairs.{blocks_in_group, pair_at, pair_in_group}
use Rattle.mask.proofs.pairs.pair_at.Goals as goal

pub returns : goal.returns
unfolding pair_at
returns c =
    let b = c.args.block.0 in
    (c.pair_in.ensures.0 ∙ ap (λ (n : ℕ). pair_in_group n (b % blocks_in_group)) c.group.ensures.0, c.pair_in.ensures.1)
