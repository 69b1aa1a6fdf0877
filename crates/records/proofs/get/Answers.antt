-- Each return is one of the laws of a call on a record. Assumes nothing.
use Rattle.records.proofs.Calls.{get-done, get_refused, rec-fits, whole}
use Rattle.records.proofs.get.Goals as goal

pub returns-in_err-found : goal.returns-in_err-found
returns-in_err-found c =
    let a = c.args in get_refused a.image.now a.tran.0 a.rec.0 _ c.in_err-found.ensures.refusal_is _ c.from_residual.ensures

pub read_first-state-requires : goal.read_first-state-requires
read_first-state-requires c =
    let a = c.args in
    let ready = c.in_ok-found.ensures.ready in
    record { whole = (whole a.image.now a.tran.0 a.rec.0 _ ready, rec-fits a.image.now a.tran.0 a.rec.0 _ ready); lists = ready.holders-are }

pub returns : goal.returns
returns c =
    let a = c.args in
    get-done a.image.now a.tran.0 a.rec.0 _ c.in_ok-found.ensures.ready c.read_first-state.result c.reply.result c.read_first-state.ensures c.reply.ensures
