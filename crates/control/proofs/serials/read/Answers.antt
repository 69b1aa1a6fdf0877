-- Each byte with its weight. Assumes nothing.
use native.Mathlib.Omega.{arith}
use Rattle.control.proofs.SerialLaws.{three-bytes}
use Rattle.control.proofs.serials.read.Goals as goal

pub returns : goal.returns
returns c =
    let a = c.args in (
      three-bytes a.s.now a.at _ _ _ c.from.ensures c.from-2.ensures c.from-3.ensures,
      omega arith,
    )
