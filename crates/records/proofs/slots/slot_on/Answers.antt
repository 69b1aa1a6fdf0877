-- The lent part is the card's block, and the record's slot is read there. Assumes nothing.
use Prim.Native.Nat.{◌+◌, ◌-◌}
use native.Mathlib.Omega.{arith}
use borrow.Rule.Slice.PartMut.{mid_of}
use Rattle.image.specs.Layout.{block_size}
use Rattle.image.proofs.Parts.{part-block}
use Rattle.records.proofs.Reading.{slot-by}
use Rattle.records.proofs.slots.slot_on.Goals as goal

pub returns : goal.returns
returns c =
    let a = c.args in
    let t = c.block_address-start.result in
    slot-by a.image.now c.requires.0 a.card.0 a.rec.0 c.requires.1 c.requires.2 c.block_of.result.0 _ (mid_of t (t + block_size - t) a.image.now) _ c.block_of.ensures
    (part-block a.image.now a.card.0 c.block_of.result.0 t (t + block_size - t) c.block_address-start.ensures (omega arith)) c.place_of.ensures c.slot_at.ensures
