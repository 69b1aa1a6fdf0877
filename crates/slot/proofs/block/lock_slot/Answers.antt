-- A slot that is read and locked is in range, so it can be written. Assumes nothing.
use mathlib.Core.Path.{sym, ap, subst, ◌∙◌}
use native.Mathlib.Omega.{arith}
use Rattle.slot.specs.Words.{InRange, locked_slot, state_of}
use Rattle.slot.specs.Blocks.{lock_slot, of_list, word_at}
use Rattle.slot.proofs.Words.{locked-in-range, slot-in-range, taken-lt}
use Rattle.slot.proofs.block.lock_slot.Goals as goal

pub put_slot-requires-clause-i_lt_slot_count : goal.put_slot-requires-clause-i_lt_slot_count
put_slot-requires-clause-i_lt_slot_count c =
    let a = c.args in
    let e = c.lock_by-s.ensures ∙ ap (locked_slot a.t (state_of a.pending)) c.slot_at.ensures in
    let few = c.requires.i_lt_slot_count in
    let taken = taken-lt a.pending (omega arith) in
    (few.0, subst InRange (sym e) (locked-in-range a.t (state_of a.pending) _ few.1 taken (slot-in-range (word_at (of_list a.block.now) a.i))))

pub returns : goal.returns
unfolding lock_slot
returns c = cc
