-- The bytes before the index are what is kept of them, the others as they were. Assumes nothing.
use native.Mathlib.Omega.{arith}
use Rattle.control.proofs.Changes.{close-at-is}
use Rattle.control.proofs.Control.close_at.Goals as goal

pub returns : goal.returns
returns c = close-at-is c.args.self c.requires c.args.card.0 c.loop-home.home-items (λ j h. c.loop-home.invariant.kept j (omega arith))
