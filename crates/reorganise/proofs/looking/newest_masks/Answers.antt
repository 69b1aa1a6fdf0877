-- The masks of the newest placement's sites: that placement is the last that the image shows. Assumes nothing.
use mathlib.Core.Path.{subst}
use Rattle.mask.specs.Placements.{Placement}
use Rattle.mask.specs.SiteMasks.{SitesIn}
use Rattle.promise.proofs.Finish.{given-whole}
use Rattle.trail.proofs.Holding.{newest-last}
use Rattle.reorganise.proofs.Looks.{last-active, last-usable}
use Rattle.reorganise.proofs.looking.newest_masks.Goals as goal

pub fill-requires : goal.fill-requires
fill-requires c =
    let k = c.args.k in
    let g = c.args.image.now in
    record { masks_len = (c.requires.masks_len, given-whole c.requires.given, last-active k g c.requires.given); usable = last-usable k g c.requires.given }

pub returns : goal.returns
returns c =
    subst (λ (p : Placement). SitesIn c.fill.new.masks c.fill.result p) (newest-last c.args.k c.args.image.now c.requires.given) c.fill.ensures
