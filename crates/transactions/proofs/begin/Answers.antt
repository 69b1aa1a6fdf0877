-- Refused by the form or by a row; else the transaction opens, and only the control part changes. Assumes nothing.
use mathlib.Core.Path.{◌∙◌, ap, refl}
use native.Mathlib.Omega.{arith}
use Rattle.control.specs.Meaning.{meaning, put_control}
use Rattle.method.specs.Rules.{begin}
use Rattle.promise.proofs.Finish.{by_form, given, given-whole}
use Rattle.transactions.proofs.Calls.{begin-done, begin-refused}
use Rattle.transactions.proofs.Rows.{begins}
use Rattle.transactions.proofs.begin.Goals as goal

pub returns-in_err-k : goal.returns-in_err-k
returns-in_err-k c = let a = c.args in by_form (begin a.tran.0 a.home.0) refl a.image.now _ _ c.in_err-k.ensures c.from_residual.ensures

pub returns-in_err-check_begin : goal.returns-in_err-check_begin
returns-in_err-check_begin c =
    let a = c.args in begin-refused (given c.in_ok-k.ensures) a.tran.0 a.home.0 _ _ c.in_err-check_begin.ensures c.from_residual-in_err-check_begin.ensures

pub begin-requires : goal.begin-requires
begin-requires c =
    let a = c.args in
    let b = begins (meaning c.in_ok-k.k) a.tran.0 a.home.0 c.in_ok-check_begin.ensures in
    record { counted = (given c.in_ok-k.ensures).is.counted; tran_nonzero = b.tran; home_lt_card_count = b.card }

pub write-requires-clause-control_size_in_bounds : goal.write-requires-clause-control_size_in_bounds
write-requires-clause-control_size_in_bounds c = omega (arith, given-whole (given c.in_ok-k.ensures))

pub returns : goal.returns
returns c =
    let a = c.args in
    begin-done (given c.in_ok-k.ensures) a.tran.0 a.home.0 _ c.in_ok-check_begin.ensures (c.write.ensures ∙ ap (put_control a.image.now) c.begin.ensures.means)
