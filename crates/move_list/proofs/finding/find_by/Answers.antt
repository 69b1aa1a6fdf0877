-- The moves of the blocks before b have been found and counted, and none of their copies has a lock. Assumes nothing.
use Prim.Native.Nat.{◌+◌}
use lib.ListN.{get_or, length-set}
use mathlib.Core.Bool.{false}
use mathlib.Core.Path.{◌∙◌, ◌≡◌, ap₂, refl, sym}
use native.Mathlib.Nat.{zero-mod}
use native.Mathlib.Omega.{arith}
use Rattle.lists.proofs.Counts.{any-more}
use Rattle.mask.specs.Masks.{AreMembers, byte}
use Rattle.mask.proofs.MaskSites.{size-le}
use Rattle.mask.proofs.SiteMasks.{masks-more, place-counts, place-fits, place-next, sites-at}
use Rattle.promise.proofs.Finish.{given-whole}
use Rattle.move_list.proofs.FoundMoves.{block-locked, count-more, count_none, finds-locked, finds-moves}
use Rattle.move_list.proofs.FoundMoves.{locked_block, origin, origin-is}
use Rattle.move_list.proofs.finding.find_by.Goals as goal

pub loop-b-init : goal.loop-b-init
loop-b-init c = (refl, omega arith, count_none c.args.image.now, (λ j h. absurd (omega arith)), refl, sym (zero-mod _))

pub bounds-sites-place : goal.bounds-sites-place
bounds-sites-place c =
    omega (arith, place-fits c.requires.sites_len.1 c.loop-b.b c.loop-b.place c.loop-b.invariant.5, c.requires.sites_len.0)

pub of_block-from-requires : goal.of_block-from-requires
of_block-from-requires c = (given-whole c.requires.given, (omega arith))

pub any_locked-requires : goal.any_locked-requires
any_locked-requires c = (given-whole c.requires.given, (omega arith))

pub returns-then-any_locked : goal.returns-then-any_locked
returns-then-any_locked c =
    -- What is found of a block is what the rules say of it.
    let found :
    AreMembers c.of_block-from.result (origin c.args.image.now c.loop-b.b) = (λ x. c.of_block-from.ensures x
    ∙ origin-is c.args.k c.args.image.now c.requires.given c.loop-b.b (get_or c.args.sites.now c.loop-b.place 0) (omega arith)
    (sites-at c.requires.sites_len.1 c.loop-b.b c.loop-b.place c.loop-b.invariant.5 (omega arith)) x) in
    let g = c.args.image.now in
    finds-locked g c.loop-b.b (omega arith) (sym (sym c.if-any_locked.true ∙ c.any_locked.ensures ∙ block-locked g c.loop-b.b c.of_block-from.result (omega arith) found))

pub overflow_cast-count : goal.overflow_cast-count
overflow_cast-count c = let h = size-le (byte c.of_block-from.result) in omega (arith, h, c.members.ensures)

pub overflow_add-count : goal.overflow_add-count
overflow_add-count c =
    let h = size-le (byte c.of_block-from.result) in
    let l = c.loop-b in
    omega (arith, h, c.members.ensures, l.invariant.1)

pub next_place-place-requires : goal.next_place-place-requires
next_place-place-requires c =
    place-counts c.requires.sites_len.1 c.loop-b.b c.loop-b.place c.loop-b.invariant.5

pub loop-b-preserved : goal.loop-b-preserved
loop-b-preserved c =
    -- What is found of a block is what the rules say of it.
    let found :
    AreMembers c.of_block-from.result (origin c.args.image.now c.loop-b.b) = (λ x. c.of_block-from.ensures x
    ∙ origin-is c.args.k c.args.image.now c.requires.given c.loop-b.b (get_or c.args.sites.now c.loop-b.place 0) (omega arith)
    (sites-at c.requires.sites_len.1 c.loop-b.b c.loop-b.place c.loop-b.invariant.5 (omega arith)) x) in
    let g = c.args.image.now in
    let h = size-le (byte c.of_block-from.result) in
    let free : locked_block g c.loop-b.b ≡ false = sym (block-locked g c.loop-b.b c.of_block-from.result (omega arith) found) ∙ sym c.any_locked.ensures ∙ c.if-any_locked.false in (
      length-set c.loop-b.origins c.loop-b.b c.of_block-from.result ∙ c.loop-b.invariant.0,
      omega (arith, h, c.members.ensures, c.loop-b.invariant.1),
      ap₂ ◌+◌ c.loop-b.invariant.2 c.members.ensures ∙ count-more g c.loop-b.b c.of_block-from.result (omega arith) found,
      masks-more (origin g) c.loop-b.origins c.loop-b.b c.of_block-from.result (omega (arith, c.loop-b.invariant.0)) c.loop-b.invariant.3 found,
      any-more (locked_block g) c.loop-b.b free c.loop-b.invariant.4,
      place-next c.requires.sites_len.1 c.loop-b.b c.loop-b.place c.loop-b.invariant.5 c.next_place-place.result c.next_place-place.ensures,
    )

pub returns : goal.returns
returns c =
    finds-moves c.args.image.now c.loop-b.origins c.loop-b.b c.loop-b.count (omega arith) c.loop-b.invariant.2 c.loop-b.invariant.3 c.loop-b.invariant.4
