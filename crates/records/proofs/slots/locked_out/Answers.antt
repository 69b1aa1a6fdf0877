-- Some holder has such a slot exactly where one that is left has. Assumes nothing.
use mathlib.Core.Path.{◌∙◌, ap, sym}
use Rattle.lists.specs.Tests.{any_in}
use Rattle.mask.specs.Cards.{cards_left}
use Rattle.mask.specs.Masks.{byte}
use Rattle.mask.proofs.Steps.{given-card}
use Rattle.records.specs.Slots.{locked_at}
use Rattle.records.proofs.Reading.{any-hit, any-miss, locked-out-is}
use Rattle.records.proofs.slots.locked_out.Goals as goal

pub loop-holder-init : goal.loop-holder-init
loop-holder-init c =
    let a = c.args in
    ap (any_in (locked_at a.image.now a.tran.0 a.rec.0)) (ap cards_left c.into_iter-holder-iterator.ensures.into_iter_gives ∙ c.each-holder-items.ensures)
    ∙ locked-out-is a.image.now a.tran.0 a.rec.0 c.requires.whole.1 a.holders c.requires.lists

pub locked_on-requires : goal.locked_on-requires
locked_on-requires c =
    (c.requires.whole.0, given-card (byte c.loop-holder.holder-iterator.0) (byte c.next.new.self.0) c.in-Some.holder.0 c.in-Some.ensures.steps, c.requires.whole.1)

pub returns-then-locked_on : goal.returns-then-locked_on
returns-then-locked_on c =
    let a = c.args in
    sym (any-hit (locked_at a.image.now a.tran.0 a.rec.0) _ _ c.in-Some.holder.0 c.in-Some.ensures.steps (sym c.locked_on.ensures ∙ c.if-locked_on.true)) ∙ c.loop-holder.invariant

pub loop-holder-preserved : goal.loop-holder-preserved
loop-holder-preserved c =
    let a = c.args in
    any-miss (locked_at a.image.now a.tran.0 a.rec.0) _ _ c.in-Some.holder.0 c.in-Some.ensures.steps (sym c.locked_on.ensures ∙ c.if-locked_on.false) ∙ c.loop-holder.invariant

pub returns : goal.returns
returns c =
    let a = c.args in
    sym (ap (any_in (locked_at a.image.now a.tran.0 a.rec.0)) c.in-None.ensures.steps.0) ∙ c.loop-holder.invariant
