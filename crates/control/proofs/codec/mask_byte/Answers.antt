-- By whether the mask counts. Assumes nothing.
use borrow.Author.Tests.{lt-ltb, le-ltb}
use Rattle.control.proofs.codec.mask_byte.Goals as goal

pub returns-then-i-count : goal.returns-then-i-count
returns-then-i-count c = rw (lt-ltb _ _ c.if-i-count.true)

pub returns : goal.returns
returns c = rw (le-ltb _ _ c.if-i-count.false)
