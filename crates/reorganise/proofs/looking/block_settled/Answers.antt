-- A block that no card holds is settled; a held one where its holders are the two sites. Assumes nothing.
use native.Mathlib.Omega.{arith}
use Rattle.reorganise.proofs.SettledMasks.{held-by-none, held-by-some}
use Rattle.reorganise.proofs.looking.block_settled.Goals as goal

pub returns-then-held-eq0 : goal.returns-then-held-eq0
returns-then-held-eq0 c = let a = c.args in held-by-none a.held a.sites c.if-held-eq0.true

pub returns : goal.returns
returns c = let a = c.args in held-by-some a.held a.sites (omega arith) (omega arith) c.if-held-eq0.false
