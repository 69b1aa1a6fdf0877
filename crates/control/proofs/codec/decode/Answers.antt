-- Each field is read at its offset, as the definition names it, the serial by its reader. Assumes nothing.
use Rattle.control.proofs.Struct.{decoded}
use Rattle.control.proofs.codec.decode.Goals as goal

pub returns : goal.returns
returns c =
    decoded c.args.s.now c.read.result c.read.ensures.0
