-- The card is added where the test says so. Assumes nothing.
use Rattle.trail.proofs.with_if.Goals as goal

pub returns-then-on : goal.returns-then-on
returns-then-on c = rw c.if-on.true c.with_card.ensures

pub returns : goal.returns
returns c = rw c.if-on.false
