-- The sites that are left are looked at one by one, and a put on one changes nothing of what another holds. Assumes nothing.
use Prim.Native.Nat.{◌<◌, ℕ}
use mathlib.Core.Bool.{cond}
use mathlib.Core.List.{List}
use mathlib.Core.Path.{◌∙◌, ◌≡◌, ap, refl, sym}
use native.Mathlib.Omega.{arith}
use borrow.Author.Rules.{rules}
use borrow.Author.Tests.{eqb-false}
use lib.Dec.{eqb}
use Rattle.lists.specs.Tests.{count_not}
use Rattle.lists.proofs.Bools.{and_l, and_r, not_is}
use Rattle.image.specs.Layout.{block_count, block_size}
use Rattle.image.specs.Parts.{Whole, put_block, zeros}
use Rattle.mask.specs.Cards.{cards_left}
use Rattle.mask.specs.Masks.{Byte, byte, has_card, members}
use Rattle.mask.proofs.Masks.{has-card, has-without}
use Rattle.mask.proofs.MaskSites.{few-members}
use Rattle.mask.proofs.Steps.{given-card, given-in, left-is}
use Rattle.promise.proofs.Finish.{given-whole}
use Rattle.promise.proofs.PutEach.{each-end, put_each}
use Rattle.cabinet_rules.specs.Images.{Image}
use Rattle.trail.specs.Trail.{holds_at}
use Rattle.reorganise.proofs.MoveRows.{accepted}
use Rattle.reorganise.proofs.MoveWrites.{count-le, count_turn, fill-turn, lacking, still-holds}
use Rattle.reorganise.proofs.Moves.{move-done}
use Rattle.reorganise.proofs.moving.spread.Goals as goal

pub newest_sites-sites-requires : goal.newest_sites-sites-requires
newest_sites-sites-requires c =
    record { given = c.requires.given; block_lt_block_count = (accepted c.args.image.now c.args.card.0 c.args.block.0 c.requires.value).1 }

pub get_block-bytes-requires : goal.get_block-bytes-requires
get_block-bytes-requires c =
    let r = accepted c.args.image.now c.args.card.0 c.args.block.0 c.requires.value in
    (given-whole c.requires.given, r.0, r.1)

pub loop-site-init : goal.loop-site-init
loop-site-init c = record { long = search rules; put = refl; held = (λ d h. refl); counted = omega arith }

pub holds-has-requires : goal.holds-has-requires
holds-has-requires c =
    -- The image is whole, and the block is one.
    let whole : Whole c.loop-site.image = search (rules, given-whole c.requires.given) in
    let in-range : c.args.block.0 < block_count = (accepted c.args.image.now c.args.card.0 c.args.block.0 c.requires.value).1 in
    (whole, given-card (byte c.loop-site.site-iterator.0) (byte c.next.new.self.0) c.in-Some.site.0 c.in-Some.ensures.steps, in-range)

pub fill-copies-requires : goal.fill-copies-requires
fill-copies-requires c =
    -- The image is whole, and the block is one.
    let whole : Whole c.loop-site.image = search (rules, given-whole c.requires.given) in
    let in-range : c.args.block.0 < block_count = (accepted c.args.image.now c.args.card.0 c.args.block.0 c.requires.value).1 in
    (whole, given-card (byte c.loop-site.site-iterator.0) (byte c.next.new.self.0) c.in-Some.site.0 c.in-Some.ensures.steps, in-range)

pub overflow_add-copies : goal.overflow_add-copies
overflow_add-copies c =
    let l = c.loop-site in
    let s = c.in-Some.ensures.steps in
    -- What the site holds is what it held before the loop.
    let looked = c.holds-has.ensures ∙ l.invariant.held c.in-Some.site.0 (given-in (byte l.site-iterator.0) (byte c.next.new.self.0) c.in-Some.site.0 s) in
    let g = holds_at c.args.image.now (byte c.args.k.working) c.args.block.0 in
    let m : Byte = byte c.newest_sites-sites.result in
    let all : cards_left c.into_iter-site-iterator.result ≡ members m = ap cards_left c.into_iter-site-iterator.ensures.into_iter_gives ∙ c.each-site-items.ensures in
    let one = count_turn g _ _ c.in-Some.site.0 s c.holds-has.result looked c.fill-copies.result c.fill-copies.ensures.0 in
    omega (arith, one, l.invariant.counted, ap (count_not g) all, count-le g (members m), few-members m)

pub loop-site-preserved : goal.loop-site-preserved
loop-site-preserved c =
    -- The image is whole, and the block is one.
    let whole : Whole c.loop-site.image = search (rules, given-whole c.requires.given) in
    let in-range : c.args.block.0 < block_count = (accepted c.args.image.now c.args.card.0 c.args.block.0 c.requires.value).1 in
    let l = c.loop-site in
    let a = c.args in
    let b : ℕ = a.block.0 in
    let x : ℕ = c.in-Some.site.0 in
    let s = c.in-Some.ensures.steps in
    let left : Byte = byte l.site-iterator.0 in
    let next : Byte = byte c.next.new.self.0 in
    -- What the site holds is what it held before the loop.
    let looked = c.holds-has.ensures ∙ l.invariant.held x (given-in left next x s) in
    let g = holds_at a.image.now (byte a.k.working) b in
    let one = count_turn g _ _ x s c.holds-has.result looked c.fill-copies.result c.fill-copies.ensures.0 in record {
      long = l.invariant.long;
      put = fill-turn g b _ l.image _ _ _ x s c.holds-has.result looked c.fill-copies.ensures.2 ∙ l.invariant.put;
      held = λ d on.
          let both = sym (ap (λ (m : Byte). has_card m d) (left-is left next x s) ∙ has-without left x d) ∙ on in
          let had = and_l (has_card left d) _ both in
          let apart = eqb-false d x (not_is (eqb d x) (and_r (has_card left d) _ both)) in
          ap (λ (o : Image). holds_at o (byte a.k.working) b d) c.fill-copies.ensures.2
          ∙ still-holds l.image whole (byte a.k.working) b x d in-range (given-card left next x s) (has-card left d had) apart
          _ l.invariant.long c.holds-has.result
          ∙ l.invariant.held d had;
      counted = omega (arith, one, l.invariant.counted);
    }

pub fill-requires : goal.fill-requires
fill-requires c =
    -- The image is whole, and the block is one.
    let whole : Whole c.loop-site.image = search (rules, given-whole c.requires.given) in
    let in-range : c.args.block.0 < block_count = (accepted c.args.image.now c.args.card.0 c.args.block.0 c.requires.value).1 in
    (whole, (accepted c.args.image.now c.args.card.0 c.args.block.0 c.requires.value).0, in-range)

pub returns : goal.returns
unfolding zeros
returns c =
    let a = c.args in
    let l = c.loop-site in
    let g = holds_at a.image.now (byte a.k.working) a.block.0 in
    let none = c.in-None.ensures.steps.0 in
    let done = ap (count_not g) none in
    let m : Byte = byte c.newest_sites-sites.result in
    let all : cards_left c.into_iter-site-iterator.result ≡ members m = ap cards_left c.into_iter-site-iterator.ensures.into_iter_gives ∙ c.each-site-items.ensures in
    move-done a.k a.image.now c.requires.given a.card.0 a.block.0 c.requires.value c.newest_sites-sites.result c.newest_sites-sites.ensures
    c.has-stays.result c.get_block-bytes.result l.copies _ c.has-stays.ensures c.get_block-bytes.ensures
    (omega (arith, done, l.invariant.counted, ap (count_not g) all))
    (c.fill.ensures.2
    ∙ ap (λ (o : List ℕ). cond c.has-stays.result o (put_block o a.card.0 a.block.0 (zeros block_size)))
    (sym (each-end (λ d i. put_block i d a.block.0 c.get_block-bytes.result) l.image _ (ap (lacking g) none)) ∙ l.invariant.put
    ∙ ap (λ o. put_each a.block.0 c.get_block-bytes.result (lacking g o) a.image.now) all))
