-- The newest mask alone, with its marks in the first place, means the newest placement (`retire-is`). Assumes nothing.
use mathlib.Core.Path.{refl}
use Rattle.control.proofs.Changes.{retire-is}
use Rattle.control.proofs.Control.retire.Goals as goal

pub returns : goal.returns
returns c = retire-is c.args.self c.requires c.newest_mask-newest.result c.moved_mark.result _ _ c.newest_mask-newest.ensures refl refl c.moved_mark.ensures
