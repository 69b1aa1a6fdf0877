-- Open is the highest bit of the transaction's byte (`open-bit`). Assumes nothing.
use Prim.Native.Nat.{◌-◌}
use lib.ListN.{get_or}
use borrow.Author.Tests.{lt-ltb}
use Rattle.image.specs.Layout.{tran_bound}
use Rattle.control.specs.Meaning.{meaning}
use Rattle.control.proofs.Struct.{open-bit}
use Rattle.control.proofs.Control.is_open.Goals as goal

pub returns : goal.returns
unfolding meaning
returns c =
    let t = c.args.tran.0 in
    rw (lt-ltb 0 t c.requires.0, lt-ltb t tran_bound c.requires.1) (open-bit (get_or c.args.self.homes (t - 1) 0))
