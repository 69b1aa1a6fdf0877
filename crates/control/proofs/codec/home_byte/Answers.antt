-- By whether the byte is open. Assumes nothing.
use borrow.Author.Tests.{le-leb, lt-leb}
use Rattle.control.proofs.codec.home_byte.Goals as goal

pub home_of-requires : goal.home_of-requires
home_of-requires c = rw (le-leb _ _ c.if-b-ge-OPEN.true)

pub returns-then-b-ge-OPEN : goal.returns-then-b-ge-OPEN
returns-then-b-ge-OPEN c = rw c.home_of.ensures.0

pub returns : goal.returns
returns c = rw (lt-leb _ _ c.if-b-ge-OPEN.false)
