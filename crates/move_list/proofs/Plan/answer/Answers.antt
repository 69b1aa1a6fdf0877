-- By whether there is room. Assumes nothing.
use borrow.Author.Tests.{le-ltb, lt-ltb}
use Rattle.move_list.specs.Plans.{plan_answer}
use Rattle.move_list.proofs.Plan.answer.Goals as goal

pub returns-then-room-count : goal.returns-then-room-count
unfolding plan_answer
returns-then-room-count c = let a = c.args in rw (lt-ltb a.room a.self.count c.if-room-count.true)

pub returns : goal.returns
unfolding plan_answer
returns c = let a = c.args in rw (le-ltb a.room a.self.count c.if-room-count.false)
