-- Where the new block is put on each site that is left, it is put on each site. Assumes nothing.
use mathlib.Core.Path.{◌∙◌, ap, subst, sym}
use Prim.Native.Nat.{ℕ, ◌/◌}
use native.Mathlib.Omega.{arith}
use borrow.Author.Rules.{rules}
use Rattle.image.specs.Layout.{slot_count}
use Rattle.image.specs.Parts.{put_block}
use Rattle.mask.specs.Cards.{cards_left}
use Rattle.mask.specs.Masks.{AreMembers, byte}
use Rattle.mask.specs.Placements.{is_site}
use Rattle.mask.proofs.Steps.{given-card}
use Rattle.slot.specs.Words.{state_of}
use Rattle.trail.specs.Trail.{shown_at}
use Rattle.promise.proofs.PutEach.{each-end, each-turn, put_each}
use Rattle.records.proofs.Locking.{lay-laid, new_block}
use Rattle.records.proofs.slots.lay.Goals as goal

pub mask_at-sites-requires : goal.mask_at-sites-requires
mask_at-sites-requires c =
    record { whole = (c.requires.whole.0, c.requires.newest.there, omega (arith, c.block_of.ensures, c.requires.whole.1)); usable = c.requires.newest.usable }

pub loop-site-init : goal.loop-site-init
loop-site-init c =
    let a = c.args in
    let g = a.image.now in
    let v = state_of a.pending in
    ap (λ l. put_each (a.rec.0 / slot_count) (new_block a.tran.0 a.rec.0 v).0 l g) (ap cards_left c.into_iter-site-iterator.ensures.into_iter_gives ∙ c.each-site-items.ensures)
    ∙ lay-laid g a.tran.0 a.rec.0 v (shown_at g a.newest) c.requires.whole.0 c.requires.whole.1 c.requires.newest.is c.mask_at-sites.result
    (subst (λ (n : ℕ). AreMembers c.mask_at-sites.result (is_site (shown_at g a.newest) n)) c.block_of.ensures c.mask_at-sites.ensures)

pub lay_on-requires : goal.lay_on-requires
lay_on-requires c =
    (search rules, given-card (byte c.loop-site.site-iterator.0) (byte c.next.new.self.0) c.in-Some.site.0 c.in-Some.ensures.steps, c.requires.whole.1, c.requires.whole.2)

pub loop-site-preserved : goal.loop-site-preserved
loop-site-preserved c =
    let a = c.args in
    each-turn (λ d g. put_block g d (a.rec.0 / slot_count) (new_block a.tran.0 a.rec.0 (state_of a.pending)).0) c.loop-site.image _ _ _ c.in-Some.site.0 c.in-Some.ensures.steps c.lay_on.ensures ∙ c.loop-site.invariant

pub returns : goal.returns
returns c =
    let a = c.args in
    sym (each-end (λ d g. put_block g d (a.rec.0 / slot_count) (new_block a.tran.0 a.rec.0 (state_of a.pending)).0) c.loop-site.image _ c.in-None.ensures.steps.0) ∙ c.loop-site.invariant
