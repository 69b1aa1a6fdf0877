-- The tables of the cards below i are carried; a turn is one card more. Assumes nothing.
use Rattle.converter.proofs.Tables.{none-carried, one-carried}
use Rattle.converter.proofs.carry_tables.Goals as goal

pub loop-i-init : goal.loop-i-init
loop-i-init c = none-carried c.args.older.now c.requires.0 c.args.image.now c.requires.1

pub loop-i-preserved : goal.loop-i-preserved
loop-i-preserved c = rw c.carry_table.ensures (one-carried c.args.older.now c.requires.0 c.loop-i.i c.loop-i-test.true c.loop-i.image c.loop-i.invariant)
