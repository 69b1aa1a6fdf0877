-- The digit at a place, by a shift (`shifted`). Assumes nothing.
use native.Mathlib.Omega.{arith}
use Rattle.mask.proofs.PairLaws.{shifted}
use Rattle.mask.proofs.pairs.pair_in.Goals as goal

pub returns : goal.returns
returns c =
    let a = c.args in
    (shifted a.bits c.from-below.result a.place c.requires c.from-below.ensures, omega arith)
