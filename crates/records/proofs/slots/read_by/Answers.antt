-- The pending state for the transaction that locks the slot, else the committed one. Assumes nothing.
use borrow.Author.Tests.{eq-eqb, ne_eqb}
use Rattle.records.proofs.slots.read_by.Goals as goal

pub returns-then-s-tran : goal.returns-then-s-tran
returns-then-s-tran c = rw (eq-eqb _ _ c.if-s-tran.true)

pub returns : goal.returns
returns c = rw (ne_eqb _ _ c.if-s-tran.false)
