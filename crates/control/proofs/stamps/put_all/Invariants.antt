-- The cards below i have their stamps; a turn is one card more. Assumes nothing.
use mathlib.Core.Path.{◌≡◌}
use Rattle.mask.specs.Masks.{byte}
use Rattle.control.specs.Stamps.{put_stamps, stamp_by}
use Rattle.control.proofs.stamps.put_all.Given as goal

abbrev pub invariant-loop-i : goal.invariant-loop-i
invariant-loop-i l = l.image ≡ put_stamps l.initial.image (byte l.working) (stamp_by l.stamp) l.i
