-- The masks are those of the newest sites, and the pass by them decides. Assumes nothing.
use mathlib.Core.Path.{refl}
use Rattle.reorganise.proofs.settling.settled.Goals as goal

pub newest_masks-round-requires : goal.newest_masks-round-requires
newest_masks-round-requires c = record { masks_len = refl; given = c.requires }
