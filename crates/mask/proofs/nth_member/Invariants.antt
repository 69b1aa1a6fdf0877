-- As many of the last members as turns were made are taken off. Assumes nothing.
use mathlib.Core.Path.{◌≡◌}
use Prim.Native.Nat.{◌-◌}
use lib.ListN.{length, take}
use Rattle.mask.specs.Masks.{byte, members}
use Rattle.mask.proofs.nth_member.Given as goal

abbrev pub invariant-loop : goal.invariant-loop
invariant-loop l = members (byte l.left) ≡ take (length (members (byte l.mask)) - l.counter) (members (byte l.mask))
