-- Each return is one of the laws of a call on a record. Assumes nothing.
use mathlib.Core.Path.{◌∙◌, ap}
use borrow.Author.Tests.{not-false, not-true}
use Rattle.slot.specs.Words.{state_of}
use Rattle.slot.specs.declared.Entry.{Entry}
use Rattle.method.specs.Rules.{lock_holders, look}
use Rattle.cabinet_rules.specs.Cabinet.{cabinet}
use Rattle.cabinet_rules.specs.Images.{control_in, state_in}
use Rattle.promise.specs.Laid.{laid}
use Rattle.records.proofs.Calls.{delete-absent, delete-done, delete-refused, rec-fits, tran-fits, whole}
use Rattle.records.proofs.delete.Goals as goal

pub returns-in_err-found : goal.returns-in_err-found
returns-in_err-found c =
    let a = c.args in delete-refused a.image.now a.tran.0 a.rec.0 _ c.in_err-found.ensures.refusal_is _ c.from_residual.ensures

pub read_first-state-requires : goal.read_first-state-requires
read_first-state-requires c =
    let a = c.args in
    let ready = c.in_ok-found.ensures.ready in
    record { whole = (whole a.image.now a.tran.0 a.rec.0 _ ready, rec-fits a.image.now a.tran.0 a.rec.0 _ ready); lists = ready.holders-are }

pub returns-then-not-state : goal.returns-then-not-state
returns-then-not-state c =
    let a = c.args in
    delete-absent a.image.now a.tran.0 a.rec.0 _ c.in_ok-found.ensures.ready c.read_first-state.result c.read_first-state.ensures
    (not-true _ c.if-not-state.true)

pub lock_all-requires : goal.lock_all-requires
lock_all-requires c =
    let a = c.args in
    let g = a.image.now in
    let ready = c.in_ok-found.ensures.ready in
    record {
      whole = (whole g a.tran.0 a.rec.0 _ ready, rec-fits g a.tran.0 a.rec.0 _ ready, tran-fits g a.tran.0 a.rec.0 _ ready);
      lists = ready.holders-are;
    }

pub returns : goal.returns
returns c =
    let a = c.args in
    let g = a.image.now in
    delete-done g a.tran.0 a.rec.0 _ c.in_ok-found.ensures.ready c.read_first-state.result _ c.read_first-state.ensures (not-false _ c.if-not-state.false)
    (c.lock_all.ensures ∙ ap (λ (x : Entry). laid (lock_holders cabinet (control_in g) (look cabinet (state_in g)) a.tran.0 a.rec.0 (state_of x)) g) c.absent-pending.ensures)
