-- A slot with no lock is nobody's; else the number is compared. Assumes nothing.
use borrow.Author.Tests.{eq-eqb, ne_eqb}
use Rattle.records.proofs.slots.is_others.Goals as goal

pub returns-then-s-eq0 : goal.returns-then-s-eq0
returns-then-s-eq0 c = rw (eq-eqb _ _ c.if-s-eq0.true)

pub returns : goal.returns
returns c = rw (ne_eqb _ _ c.if-s-eq0.false)
