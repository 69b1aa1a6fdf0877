-- The tables of the cards below i are carried; a turn is one card more. Assumes nothing.
use Rattle.converter.specs.Steps.{TablesCarried}
use Rattle.converter.proofs.carry_tables.Given as goal

abbrev pub invariant-loop-i : goal.invariant-loop-i
invariant-loop-i l = TablesCarried l.older l.i l.image
