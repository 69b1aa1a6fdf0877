-- Where the slot is locked on each holder that is left, it is locked on each. Assumes nothing.
use mathlib.Core.Path.{◌≡◌}
use Rattle.mask.specs.Cards.{cards_left}
use Rattle.slot.specs.Words.{state_of}
use Rattle.method.specs.Rules.{lock_holders, look}
use Rattle.cabinet_rules.specs.Cabinet.{cabinet}
use Rattle.cabinet_rules.specs.Images.{control_in, state_in}
use Rattle.promise.specs.Laid.{laid}
use Rattle.records.proofs.Locking.{lock_each}
use Rattle.records.proofs.slots.lock_all.Given as goal

abbrev pub invariant-loop-holder : goal.invariant-loop-holder
invariant-loop-holder l =
    let g = l.initial.image in
    let v = state_of l.pending in
    lock_each l.tran.0 l.rec.0 v (cards_left l.holder-iterator) l.image ≡ laid (lock_holders cabinet (control_in g) (look cabinet (state_in g)) l.tran.0 l.rec.0 v) g
