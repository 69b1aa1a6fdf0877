-- The pairs of the placement are the part that is lent (`lent-pair`). Assumes nothing.
use mathlib.Core.Path.{◌∙◌}
use Prim.Native.Nat.{◌+◌, ◌-◌}
use native.Mathlib.Omega.{arith}
use Rattle.image.specs.Layout.{pairs_size}
use Rattle.control.proofs.ShownSites.{lent-pair}
use Rattle.control.proofs.sites.pair.Goals as goal

pub returns : goal.returns
returns c =
    let a = c.args in
    let t = c.start-start.result in (
      c.pair_at.ensures.0 ∙ lent-pair a.image.now a.i t (t + pairs_size - t) c.start-start.ensures (omega arith) a.block.0 c.requires.2,
      c.pair_at.ensures.1,
    )
