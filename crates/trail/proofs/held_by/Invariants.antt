-- The cards before c that hold the block have been found. Assumes nothing.
use lib.Dec.{ltb}
use mathlib.Core.Bool.{◌&&◌}
use Rattle.mask.specs.Masks.{AreMembers, byte}
use Rattle.trail.specs.Trail.{holds_at}
use Rattle.trail.proofs.held_by.Given as goal

abbrev pub invariant-loop-c : goal.invariant-loop-c
invariant-loop-c l = AreMembers l.held (λ x. ltb x l.c && holds_at l.image (byte l.working) l.block.0 x)
