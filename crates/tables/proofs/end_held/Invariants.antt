-- The cards below c have their tables ended; with an empty set nothing is picked. Assumes nothing.
use Rattle.std.proofs.Common.{◌≡◌}
use Rattle.mask.specs.Masks.{byte}
use Rattle.slot.specs.Blocks.{in_set}
use Rattle.tables.proofs.Ends.{up_to}
use Rattle.tables.proofs.end_held.Given as goal

abbrev pub invariant-loop-c : goal.invariant-loop-c
invariant-loop-c l = l.image ≡ up_to (byte l.working) l.take (in_set l.set) l.c l.initial.image
