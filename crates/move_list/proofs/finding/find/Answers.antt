-- The masks are those of the newest sites, and what is found by them is what the plan has. Assumes nothing.
use mathlib.Core.Path.{refl}
use Rattle.move_list.proofs.finding.find.Goals as goal

pub newest_masks-round-requires : goal.newest_masks-round-requires
newest_masks-round-requires c = record { masks_len = refl; given = c.requires }
