-- The bytes are written where the pairs of the placement start. Assumes nothing.
use Rattle.control.proofs.pairs.put.Goals as goal

pub returns : goal.returns
returns c = cc
