-- A slot that is read and freed is in range, so it can be written. Assumes nothing.
use mathlib.Core.Path.{sym, ap, subst, ◌∙◌}
use Rattle.slot.specs.Words.{InRange, freed_slot}
use Rattle.slot.specs.Blocks.{of_list, word_at}
use Rattle.slot.proofs.Words.{freed-in-range, slot-in-range}
use Rattle.slot.proofs.block.end_slot.Goals as goal

pub put_slot-requires-clause-i_lt_slot_count : goal.put_slot-requires-clause-i_lt_slot_count
put_slot-requires-clause-i_lt_slot_count c =
    let a = c.args in
    let e = c.free-s.ensures ∙ ap (freed_slot a.take) c.slot_at.ensures in
    (c.requires.i_lt_slot_count, subst InRange (sym e) (freed-in-range a.take _ (slot-in-range (word_at (of_list a.block.now) a.i))))
