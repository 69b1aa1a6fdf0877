-- The sites before this one are added where they hold the block. Assumes nothing.
use lib.ListN.{take}
use Rattle.mask.specs.Masks.{byte}
use Rattle.mask.specs.Placements.{site_list}
use Rattle.trail.specs.Trail.{Adds, holds_at}
use Rattle.trail.proofs.push_sites.Given as goal

abbrev pub invariant-loop-card : goal.invariant-loop-card
invariant-loop-card l = Adds l.initial.all (holds_at l.image (byte l.working) l.block.0) (take l.card-index (site_list l.card-items)) l.all
