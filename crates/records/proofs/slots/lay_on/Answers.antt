-- A fresh block is put and the record's slot locked in it: together the put of one block. Assumes nothing.
use mathlib.Core.Path.{◌∙◌, ap}
use Prim.Native.Nat.{ℕ}
use Rattle.image.specs.Parts.{put_block}
use Rattle.slot.specs.Words.{state_of}
use Rattle.records.proofs.Locking.{lay-one, new_block}
use Rattle.records.proofs.slots.lay_on.Goals as goal

pub returns : goal.returns
returns c =
    let a = c.args in
    let v = state_of a.pending in
    lay-one a.image.now a.tran.0 a.rec.0 v c.requires.0 c.requires.2 a.card.0 c.block_of.result.0 c.requires.1 c.block_of.ensures
    _ c.fresh_block.ensures _ _ c.put_block.ensures c.lock_on.ensures
    ∙ ap (λ (n : ℕ). put_block a.image.now a.card.0 n (new_block a.tran.0 a.rec.0 v).0) c.block_of.ensures
