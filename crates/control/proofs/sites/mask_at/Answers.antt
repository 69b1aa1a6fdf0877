-- The sites are cards. Assumes nothing.
use native.Mathlib.Omega.{arith}
use Rattle.mask.proofs.SiteLaws.{listed-card}
use Rattle.control.proofs.sites.mask_at.Goals as goal

pub of_sites-requires : goal.of_sites-requires
of_sites-requires c k d h = listed-card c.at.ensures k d (omega (arith, h, c.at.type_inv))
