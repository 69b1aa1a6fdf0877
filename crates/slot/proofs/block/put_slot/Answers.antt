-- Five stores are the five bytes of the slot's number. Assumes nothing.
use native.Mathlib.Omega.{arith}
use Rattle.slot.proofs.Steps.{stores-slot}
use Rattle.slot.proofs.block.put_slot.Goals as goal

pub returns : goal.returns
returns c =
    let a = c.args in
    stores-slot a.block.now (omega arith) a.i (omega arith) a.s c.to_word-e.result c.to_word-e.ensures.0
