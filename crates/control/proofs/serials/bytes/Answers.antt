-- Each byte is the serial's by its weight. Assumes nothing.
use mathlib.Core.Path.{refl}
use Rattle.lists.specs.Tabulate.{tabulate}
use Rattle.control.proofs.serials.bytes.Goals as goal

pub returns : goal.returns
unfolding tabulate
returns c = refl
