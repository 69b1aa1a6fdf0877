-- The part that is copied is a segment. Assumes nothing.
use mathlib.Core.Path.{◌∙◌}
use native.Mathlib.Omega.{arith}
use Rattle.image.proofs.Parts.{part-is}
use Rattle.image.proofs.read_at.Goals as goal

pub returns : goal.returns
returns g c = c.copy_from_slice.ensures.after ∙ part-is c.args.at _ c.args.s.now g.row.N (omega arith)
