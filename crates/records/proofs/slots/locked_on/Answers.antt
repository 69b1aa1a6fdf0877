-- The test of the record's slot on the card. Assumes nothing.
use mathlib.Core.Path.{◌∙◌, ap}
use Rattle.slot.specs.declared.Slot.{Slot}
use Rattle.method.specs.Slots.{locked_by_other}
use Rattle.records.specs.Slots.{locked_at, rules_slot}
use Rattle.records.proofs.slots.locked_on.Goals as goal

pub returns : goal.returns
unfolding locked_at
returns c = let a = c.args in c.is_others.ensures ∙ ap (λ (s : Slot). locked_by_other a.tran.0 (rules_slot s)) c.slot_on.ensures
