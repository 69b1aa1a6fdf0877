-- The lent part is the card's block, and its slot is locked there. Assumes nothing.
use Prim.Native.Nat.{◌+◌, ◌-◌}
use native.Mathlib.Omega.{arith}
use Rattle.image.specs.Layout.{block_size}
use Rattle.slot.specs.Words.{state_of}
use Rattle.records.proofs.Locking.{lock-part}
use Rattle.records.proofs.slots.lock_on.Goals as goal

pub returns : goal.returns
returns c =
    let a = c.args in
    let t = c.block_address-start.result in
    lock-part a.image.now a.card.0 a.rec.0 a.tran.0 (state_of a.pending) c.block_of.result.0 c.place_of.result t (t + block_size - t) c.lock_slot.new.block
    c.block_of.ensures c.block_address-start.ensures (omega arith) c.place_of.ensures c.lock_slot.ensures
