-- The transactions whose bytes stand before i were not begun at the card: a search that stops at the first that was. Assumes nothing.
use mathlib.Core.Path.{◌≡◌}
use mathlib.Core.Bool.{false}
use Prim.Native.Nat.{◌+◌}
use Rattle.lists.specs.Tests.{any_below}
use Rattle.method.specs.ControlPart.{begun_at}
use Rattle.control.specs.Meaning.{meaning}
use Rattle.cards.proofs.begun_here.Given as goal

abbrev pub invariant-loop-i : goal.invariant-loop-i
invariant-loop-i l = any_below (l.i + 1) (begun_at (meaning l.k) l.card.0) ≡ false
