-- A list filled with zero is zeros, since a byte's copy is that byte. Assumes nothing.
use Rattle.image.specs.Parts.{zeros}
use Rattle.image.proofs.clear.Goals as goal

pub returns : goal.returns
unfolding zeros
returns c = c.fill.ensures.after (λ y e. e)
