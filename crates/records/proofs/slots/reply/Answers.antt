-- A value where the state is present, else absent. Assumes nothing.

use Rattle.records.proofs.slots.reply.Goals as goal

pub returns-then-state : goal.returns-then-state
returns-then-state c = rw c.if-state.true

pub returns : goal.returns
returns c = rw c.if-state.false
