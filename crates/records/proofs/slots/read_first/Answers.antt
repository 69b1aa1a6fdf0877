-- With no holder the record is absent; else the first holder's slot is read. Assumes nothing.
use mathlib.Core.Path.{◌∙◌, ap}
use native.Mathlib.Omega.{arith}
use Rattle.slot.specs.declared.Slot.{Slot}
use Rattle.method.specs.Slots.{read_by}
use Rattle.trail.proofs.Listed.{first-card}
use Rattle.records.specs.Slots.{rules_slot}
use Rattle.records.proofs.Reading.{read_none, read_some}
use Rattle.records.proofs.slots.read_first.Goals as goal

pub returns-in-None : goal.returns-in-None
returns-in-None c =
    let a = c.args in
    read_none a.image.now a.tran.0 a.rec.0 c.requires.whole.1 a.holders c.requires.lists c.in-None.is c.absent.result c.absent.ensures

pub slot_on-requires : goal.slot_on-requires
slot_on-requires c = (c.requires.whole.0, omega (arith, first-card c.requires.lists c.in-Some.card c.in-Some.is), c.requires.whole.1)

pub returns-in-Some : goal.returns-in-Some
returns-in-Some c =
    let a = c.args in
    c.read_by.ensures ∙ ap (λ (x : Slot). read_by a.tran.0 (rules_slot x)) c.slot_on.ensures
    ∙ read_some a.image.now a.tran.0 a.rec.0 c.requires.whole.1 a.holders c.requires.lists c.in-Some.card c.in-Some.is
