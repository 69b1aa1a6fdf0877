-- The cards before c that hold each of the two blocks have been found. Assumes nothing.
use Prim.Native.Nat.{◌+◌, ℕ}
use lib.Dec.{ltb}
use mathlib.Core.Bool.{Bool, ◌&&◌}
use Rattle.mask.specs.Masks.{AreMembers, byte}
use Rattle.cabinet_rules.specs.Images.{Image}
use Rattle.trail.specs.Trail.{holds_at}
use Rattle.trail.proofs.held_by_two.Given as goal

-- The cards below c that hold block b.
abbrev pub below : Image → ℕ → ℕ → ℕ → ℕ → Bool
below g working b c x = ltb x c && holds_at g (byte working) b x

abbrev pub invariant-loop-c : goal.invariant-loop-c
invariant-loop-c l = record {
  first : AreMembers l.held.first (below l.image l.working l.block.0 l.c);
  second : AreMembers l.held.second (below l.image l.working (l.block.0 + 1) l.c);
}
