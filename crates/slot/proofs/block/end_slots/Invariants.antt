-- The slots below i have ended. Assumes nothing.
use mathlib.Core.Path.{◌≡◌}
use Rattle.slot.specs.Blocks.{in_set, of_list}
use Rattle.slot.proofs.Ends.{up_to}
use Rattle.slot.proofs.block.end_slots.Given as goal

abbrev pub invariant-loop-i : goal.invariant-loop-i
invariant-loop-i l = l.block ≡ (up_to l.take (in_set l.set) (of_list l.initial.block) l.i).0
