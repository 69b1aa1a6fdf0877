-- The array is the fresh block, byte by byte. Assumes nothing.
use mathlib.Core.Path.{refl}
use Rattle.lists.specs.Tabulate.{tabulate}
use Rattle.slot.proofs.fresh_block.Goals as goal

pub returns : goal.returns
unfolding tabulate
returns c = refl
