-- Refused by the form, by an early row or by row 7; else what was read is ready for the call. Assumes nothing.
use Prim.Native.Nat.{◌<◌}
use mathlib.Core.Path.{◌∙◌, refl, sym}
use native.Mathlib.Omega.{arith}
use Rattle.image.specs.Layout.{record_count}
use Rattle.refusals.proofs.Numbers.{not-none}
use Rattle.refusals.specs.declared.Refusal.TheVariants.{Locked}
use Rattle.method.specs.Rules.{get}
use Rattle.promise.proofs.Finish.{form-row, given, given-whole}
use Rattle.records.proofs.LookUp.{early-row, handed-up, lists_at, locked-row, ready_up, rec-known, refused-up}
use Rattle.records.proofs.access.look_up.Goals as goal

pub returns-in_err-k : goal.returns-in_err-k
returns-in_err-k c =
    let a = c.args in
    handed-up a.image.now a.tran.0 a.rec.0 _ _
    (form-row (get a.tran.0 a.rec.0) refl a.image.now _ c.in_err-k.ensures.refusal_is (not-none _)) c.from_residual.ensures

pub check-requires : goal.check-requires
check-requires c = given c.in_ok-k.ensures

pub returns-in_err-check : goal.returns-in_err-check
returns-in_err-check c =
    let a = c.args in
    handed-up a.image.now a.tran.0 a.rec.0 _ _
    (early-row a.image.now a.tran.0 a.rec.0 (given c.in_ok-k.ensures) c.in_err-check.ensures (not-none _)) c.from_residual-in_err-check.ensures

pub block_of-requires : goal.block_of-requires
block_of-requires c =
    let a = c.args in rec-known a.image.now a.tran.0 a.rec.0 (given c.in_ok-k.ensures) c.in_ok-check.ensures refl

pub find-holders-requires : goal.find-holders-requires
find-holders-requires c =
    let a = c.args in
    let known : a.rec.0 < record_count = rec-known a.image.now a.tran.0 a.rec.0 (given c.in_ok-k.ensures) c.in_ok-check.ensures refl in
    record { given = given c.in_ok-k.ensures; block_lt_block_count = omega (arith, known) }

pub locked_out-requires : goal.locked_out-requires
locked_out-requires c =
    let a = c.args in
    let e = given c.in_ok-k.ensures in
    record {
      whole = (given-whole e, rec-known a.image.now a.tran.0 a.rec.0 e c.in_ok-check.ensures refl);
      lists = lists_at a.image.now c.find-holders.result c.block_of.ensures c.find-holders.ensures;
    }

pub returns-then-locked_out : goal.returns-then-locked_out
returns-then-locked_out c =
    let a = c.args in
    refused-up a.image.now a.tran.0 a.rec.0 Locked
    (locked-row a.image.now a.tran.0 a.rec.0 (given c.in_ok-k.ensures) c.in_ok-check.ensures refl (sym c.locked_out.ensures ∙ c.if-locked_out.true))

pub overflow_sub-result : goal.overflow_sub-result
overflow_sub-result c = omega (arith, (given c.in_ok-k.ensures).is.counted.some)

pub returns : goal.returns
returns c =
    let a = c.args in
    ready_up a.image.now a.tran.0 a.rec.0 (given c.in_ok-k.ensures) c.in_ok-check.ensures refl _ (sym c.locked_out.ensures ∙ c.if-locked_out.false) refl
    (lists_at a.image.now c.find-holders.result c.block_of.ensures c.find-holders.ensures)
