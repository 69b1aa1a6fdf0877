-- Each return is one of the laws of a call on a record: where no row applies, the value is in range and the look-up found none. Assumes nothing.
use Prim.Native.Nat.{◌<◌}
use borrow.Author.Rules.{rules}
use mathlib.Core.Path.{sym}
use Rattle.records.proofs.Calls.{rec-fits, store-held, store-new, store-refused, tran-fits, whole}
use Rattle.records.proofs.LookUp.{prepared}
use Rattle.records.proofs.Values.{with-clear}
use Rattle.records.proofs.store.Goals as goal

pub returns-in_err-found : goal.returns-in_err-found
returns-in_err-found c =
    let a = c.args in
    store-refused a.image.now a.tran.0 a.rec.0 a.value _ _ c.in_err-found.ensures.row c.look_up-looked_up.ensures.refusal_is _ c.from_residual.ensures

pub lay-requires : goal.lay-requires
lay-requires c =
    let a = c.args in
    let g = a.image.now in
    let ready = prepared c.look_up-looked_up.ensures c.in_ok-found.ensures.same in
    record {
      whole = (whole g a.tran.0 a.rec.0 _ ready, rec-fits g a.tran.0 a.rec.0 _ ready, tran-fits g a.tran.0 a.rec.0 _ ready);
      newest = ready.newest-is;
    }

pub returns-then-holders-eq0 : goal.returns-then-holders-eq0
returns-then-holders-eq0 c =
    let a = c.args in
    store-new a.image.now a.tran.0 a.rec.0 _ (prepared c.look_up-looked_up.ensures c.in_ok-found.ensures.same)
    a.value (with-clear _ _ (sym c.in_ok-found.ensures.row)).0 _ c.if-holders-eq0.true c.lay.ensures

pub lock_all-requires : goal.lock_all-requires
lock_all-requires c =
    let a = c.args in
    let g = a.image.now in
    let ready = prepared c.look_up-looked_up.ensures c.in_ok-found.ensures.same in
    record {
      whole = (whole g a.tran.0 a.rec.0 _ ready, rec-fits g a.tran.0 a.rec.0 _ ready, tran-fits g a.tran.0 a.rec.0 _ ready);
      lists = ready.holders-are;
    }

pub returns : goal.returns
returns c =
    let a = c.args in
    let small : c.in_ok-found.found.holders.cards < 256 = search rules in
    store-held a.image.now a.tran.0 a.rec.0 _ (prepared c.look_up-looked_up.ensures c.in_ok-found.ensures.same)
    a.value (with-clear _ _ (sym c.in_ok-found.ensures.row)).0 _ small c.if-holders-eq0.false c.lock_all.ensures
