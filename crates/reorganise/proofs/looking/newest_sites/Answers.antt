-- The sites of the newest placement: it is the last that the image shows. Assumes nothing.
use mathlib.Core.Path.{subst}
use Rattle.mask.specs.Masks.{AreMembers}
use Rattle.mask.specs.Placements.{Placement, is_site}
use Rattle.promise.proofs.Finish.{given-whole}
use Rattle.trail.proofs.Holding.{newest-last}
use Rattle.reorganise.proofs.Looks.{last-active, last-usable}
use Rattle.reorganise.proofs.looking.newest_sites.Goals as goal

pub mask_at-requires : goal.mask_at-requires
mask_at-requires c =
    let k = c.args.k in
    let g = c.args.image.now in
    record { whole = (given-whole c.requires.given, last-active k g c.requires.given, c.requires.block_lt_block_count); usable = last-usable k g c.requires.given }

pub returns : goal.returns
returns c =
    let a = c.args in
    subst (λ (p : Placement). AreMembers c.mask_at.result (is_site p a.block.0)) (newest-last a.k a.image.now c.requires.given) c.mask_at.ensures
