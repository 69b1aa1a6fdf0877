-- The bit that the byte chooses in 32 is the bit of the lock in the set. Assumes nothing.
use native.Mathlib.Omega.{arith}
use Rattle.slot.proofs.Locks.{picked-of-list}
use Rattle.slot.proofs.block.is_picked.Goals as goal

pub returns : goal.returns
returns c =
    let a = c.args in
    let i = a.i in
    picked-of-list a.block.now i a.set (omega arith) (omega arith) (omega arith)
