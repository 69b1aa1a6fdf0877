-- Some holder has such a slot exactly where one that is left has. Assumes nothing.
use mathlib.Core.Path.{◌≡◌}
use Rattle.lists.specs.Tests.{any_in}
use Rattle.mask.specs.Cards.{cards_left}
use Rattle.records.specs.Slots.{locked_at, locked_out_in}
use Rattle.records.proofs.slots.locked_out.Given as goal

abbrev pub invariant-loop-holder : goal.invariant-loop-holder
invariant-loop-holder l =
    any_in (locked_at l.image l.tran.0 l.rec.0) (cards_left l.holder-iterator) ≡ locked_out_in l.image l.tran.0 l.rec.0
