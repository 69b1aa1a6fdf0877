-- One site more is a card, and is added where it holds the block. Assumes nothing.
use mathlib.Core.List.{List}
use mathlib.Core.Path.{◌∙◌, ap, sym}
use Prim.Native.Nat.{ℕ}
use native.Mathlib.Omega.{arith}
use lib.ListN.{get_or}
use Rattle.mask.specs.Masks.{byte}
use Rattle.mask.specs.Placements.{site_list}
use Rattle.mask.proofs.SiteLaws.{listed_at, listed-card, listed-long}
use Rattle.trail.specs.Trail.{holds_at}
use Rattle.trail.proofs.Listed.{add-more}
use Rattle.trail.proofs.push_sites.Goals as goal

pub push-all-requires : goal.push-all-requires
push-all-requires c =
    (c.requires.whole.0, listed-card c.at-sites.ensures c.loop-card.card-index record { 0 = 0 } c.loop-card-test.true, c.requires.whole.2)

pub loop-card-preserved : goal.loop-card-preserved
loop-card-preserved c =
    let l = c.loop-card in
    let a = c.args in
    let are = c.at-sites.ensures in
    add-more (holds_at a.image.now (byte a.working) a.block.0) (site_list c.at-sites.result) l.card-index _ (omega (arith, c.loop-card-test.true, listed-long are))
    (listed_at are l.card-index record { 0 = 0 } ∙ ap (λ (z : List ℕ). get_or z l.card-index 0) (sym are.listed)) a.found l.all c.push-all.result l.invariant c.push-all.ensures
