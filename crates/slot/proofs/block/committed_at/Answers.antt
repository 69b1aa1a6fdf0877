-- The highest bit of a slot's first byte is its present bit. Assumes nothing.
use Prim.Native.Nat.{◌<◌}
use native.Mathlib.Omega.{arith}
use lib.ListN.{get_or}
use Rattle.image.specs.Layout.{slot_start}
use Rattle.slot.proofs.Steps.{committed-of-list}
use Rattle.slot.proofs.block.committed_at.Goals as goal

pub returns : goal.returns
returns c =
    let a = c.args in
    let f : get_or a.block.now (slot_start a.i) 0 < 256 = omega arith in
    (committed-of-list a.block.now a.i (omega arith) f, omega arith)
