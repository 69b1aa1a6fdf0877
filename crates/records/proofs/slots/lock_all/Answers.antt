-- Where the slot is locked on each holder that is left, it is locked on each. Assumes nothing.
use mathlib.Core.Path.{◌∙◌, ap, sym}
use Prim.Native.Nat.{◌/◌}
use borrow.Author.Rules.{rules}
use Rattle.image.specs.Layout.{slot_count}
use Rattle.mask.specs.Cards.{cards_left}
use Rattle.mask.specs.Masks.{byte}
use Rattle.mask.proofs.Steps.{given-card}
use Rattle.slot.specs.Words.{state_of}
use Rattle.promise.proofs.PutEach.{each-end, each-turn}
use Rattle.trail.specs.Trail.{holders_in}
use Rattle.records.proofs.Locking.{lock_each, lock-holders, lock-mask, locked_on, state-fits}
use Rattle.records.proofs.slots.lock_all.Goals as goal

pub loop-holder-init : goal.loop-holder-init
loop-holder-init c =
    let a = c.args in
    let g = a.image.now in
    let v = state_of a.pending in
    ap (λ l. lock_each a.tran.0 a.rec.0 v l g) (ap cards_left c.into_iter-holder-iterator.ensures.into_iter_gives ∙ c.each-holder-items.ensures)
    ∙ lock-mask g a.tran.0 a.rec.0 v c.requires.whole.1 c.requires.whole.2 (state-fits a.pending (search rules)) c.requires.whole.0
    a.holders.cards (holders_in g (a.rec.0 / slot_count)) c.requires.lists.cards-are
    ∙ lock-holders g a.tran.0 a.rec.0 v

pub lock_on-requires : goal.lock_on-requires
lock_on-requires c =
    (search rules, given-card (byte c.loop-holder.holder-iterator.0) (byte c.next.new.self.0) c.in-Some.holder.0 c.in-Some.ensures.steps, c.requires.whole.1, c.requires.whole.2)

pub loop-holder-preserved : goal.loop-holder-preserved
loop-holder-preserved c =
    let a = c.args in
    each-turn (locked_on a.tran.0 a.rec.0 (state_of a.pending)) c.loop-holder.image _ _ _ c.in-Some.holder.0 c.in-Some.ensures.steps c.lock_on.ensures ∙ c.loop-holder.invariant

pub returns : goal.returns
returns c =
    let a = c.args in
    sym (each-end (locked_on a.tran.0 a.rec.0 (state_of a.pending)) c.loop-holder.image _ c.in-None.ensures.steps.0) ∙ c.loop-holder.invariant
