-- Each byte with its weight. Assumes nothing.
use native.Mathlib.Omega.{arith}
use Rattle.lists.proofs.Bytes.{four_bytes}
use Rattle.control_form.proofs.words.half.Goals as goal

pub returns : goal.returns
returns c =
    let a = c.args in (
      four_bytes a.s.now a.at _ _ _ _ c.from.ensures c.from-2.ensures c.from-3.ensures c.from-4.ensures,
      omega arith,
    )
