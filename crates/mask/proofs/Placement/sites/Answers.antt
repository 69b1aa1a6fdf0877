-- The two cards in the rules' order are the list. Assumes nothing.
use mathlib.Core.Path.{◌∙◌}
use Rattle.mask.specs.Placements.{meant, placed}
use Rattle.mask.proofs.SiteLaws.{are-sites, placed-sites, placed-usable}
use Rattle.mask.proofs.Placement.sites.Goals as goal

pub returns : goal.returns
returns c =
    are-sites _ (placed (meant c.args.self)) c.args.block.0 (placed-usable (meant c.args.self) c.requires.enough) c.requires.block_lt_block_count
    (placed-sites (meant c.args.self) c.args.block.0 ∙ c.second_site-second.ensures)
