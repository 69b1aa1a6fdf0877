-- What is asked of the bytes before the tables is the clauses in the code's order; each clause that passes leaves those behind
-- it, and one that fails decides. Assumes nothing.
use Rattle.std.proofs.Common.{arith}
use Rattle.control_form.proofs.Clauses.{front-is}
use Rattle.control_form.proofs.front_ok.Goals as goal

pub returns-then-homes_ok : goal.returns-then-homes_ok
returns-then-homes_ok c t = rw (front-is _ t (λ n. (c.type_inv.s n).fits)) (grind arith)

pub returns-else-homes_ok : goal.returns-else-homes_ok
returns-else-homes_ok c t = rw (front-is _ t (λ n. (c.type_inv.s n).fits)) (grind arith)
