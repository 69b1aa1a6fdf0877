-- Refused by the form or by a row; else the transaction has ended in the blocks and is closed. Assumes nothing.
use Rattle.control.specs.Meaning.{meaning}
use Rattle.promise.proofs.Finish.{by_form, given, given-whole}
use Rattle.promise.proofs.SharedRows.{tran-accepted}
use Rattle.transactions.specs.Transactions.{end_call}
use Rattle.transactions.proofs.Calls.{end-done, end_refused}
use Rattle.transactions.proofs.Rows.{end-late}
use Rattle.transactions.proofs.end.Goals as goal

pub returns-in_err-k : goal.returns-in_err-k
returns-in_err-k c = let a = c.args in by_form (end_call a.take a.tran.0) (end-late a.take a.tran.0) a.image.now _ _ c.in_err-k.ensures c.from_residual.ensures

pub check_tran-requires : goal.check_tran-requires
check_tran-requires c = given c.in_ok-k.ensures

pub returns-in_err-check_tran : goal.returns-in_err-check_tran
returns-in_err-check_tran c =
    let a = c.args in end_refused (given c.in_ok-k.ensures) a.take a.tran.0 _ _ c.in_err-check_tran.ensures c.from_residual-in_err-check_tran.ensures

pub end_open-requires : goal.end_open-requires
end_open-requires c =
    let e = given c.in_ok-k.ensures in
    record { whole = given-whole e; counted = e.is.counted; tran_nonzero = tran-accepted (meaning c.in_ok-k.k) c.args.tran.0 c.in_ok-check_tran.ensures }

pub returns : goal.returns
returns c = let a = c.args in end-done (given c.in_ok-k.ensures) a.take a.tran.0 _ c.in_ok-check_tran.ensures c.end_open.ensures
