-- What is asked before the tables, and then the marks for tables. Assumes nothing.
use Rattle.std.proofs.Common.{arith}
use Rattle.converter.proofs.WireForm.{wire-form}
use Rattle.converter.proofs.form_21024.Goals as goal

pub returns-then-front_ok : goal.returns-then-front_ok
returns-then-front_ok c =
    let e = c.front_ok.ensures (λ n. 0) in
    rw (wire-form c.args.older.now (λ n. (c.type_inv.older n).fits)) (grind (arith, e))

pub returns-else-front_ok : goal.returns-else-front_ok
returns-else-front_ok c =
    let e = c.front_ok.ensures (λ n. 0) in
    rw (wire-form c.args.older.now (λ n. (c.type_inv.older n).fits)) (grind (arith, e))
