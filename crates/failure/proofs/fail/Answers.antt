-- Refused by the form or by a row; else the card is marked, which is all in a store that has stopped; in a running one the test of the marked part
-- is the stop rule. Assumes nothing.
use Prim.Native.Nat.{◌≤◌, ℕ}
use lib.ListN.{length}
use mathlib.Core.Bool.{Bool, not}
use mathlib.Core.Path.{◌∙◌, ◌≡◌, ap, refl, sym}
use native.Mathlib.Omega.{arith}
use Rattle.image.specs.Layout.{control_size}
use Rattle.method.specs.Rules.{fail, stopping}
use Rattle.control.specs.Meaning.{meaning}
use Rattle.control_form.specs.ControlForm.{all_safe}
use Rattle.control.specs.declared.Control.{Control as Struct}
use Rattle.cabinet_rules.specs.Cabinet.{cabinet}
use Rattle.cabinet_rules.specs.Images.{Image, control_in}
use Rattle.promise.specs.Given.{Given}
use Rattle.promise.proofs.Finish.{by_form, form-long, given, given-whole}
use Rattle.failure.specs.Failing.{Failing}
use Rattle.failure.proofs.Marking.{fail-refused, failing, marked-done, rows-range}
use Rattle.failure.proofs.StopRule.{stop_is}
use Rattle.failure.proofs.Stopping.{stopped-done}
use Rattle.failure.proofs.fail.Goals as goal

-- there is room for the control part in the image
long : {k : Struct} {g : Image} → Given k g → control_size ≤ length g
long is = let w = given-whole is in omega arith

-- the test of the marked part is the stop rule
stops : {m : Struct} {g : Image} {c : ℕ} (f : Failing m g c) {safe : Bool} → safe ≡ all_safe (meaning m) → not safe ≡ stopping cabinet (control_in g) c
stops f e = ap not e ∙ stop_is _ _ _ f.is.means

pub returns-in_err-k : goal.returns-in_err-k
returns-in_err-k c = let a = c.args in by_form (fail a.card.0) refl a.image.now _ _ c.in_err-k.ensures c.from_residual.ensures

pub returns-in_err-check : goal.returns-in_err-check
returns-in_err-check c = fail-refused (given c.in_ok-k.ensures) c.args.card.0 _ _ c.in_err-check.ensures c.from_residual-in_err-check.ensures

pub mark_failed-marked-requires : goal.mark_failed-marked-requires
mark_failed-marked-requires c =
    record { counted = (given c.in_ok-k.ensures).is.counted; card_lt_card_count = rows-range _ c.args.card.0 c.in_ok-check.ensures }

-- ---- a store that has stopped: the card is marked
pub write-requires : goal.write-requires
write-requires c = record { control_size_in_bounds = long (given c.in_ok-k.ensures); counted = c.mark_failed-marked.ensures.counted }

pub returns-then-k : goal.returns-then-k
returns-then-k c = marked-done (given c.in_ok-k.ensures) c.args.card.0 c.in_ok-check.ensures c.mark_failed-marked.ensures c.if-k.true _ c.write.ensures

-- ---- a running store
pub all_safe-requires : goal.all_safe-requires
all_safe-requires c = c.mark_failed-marked.ensures.counted

pub stop-requires : goal.stop-requires
stop-requires c =
    let f = failing (given c.in_ok-k.ensures) c.args.card.0 c.in_ok-check.ensures c.mark_failed-marked.ensures c.if-k.false in
    record { whole = form-long _ f.formed; counted = f.is.counted }

pub returns-then-not-all_safe : goal.returns-then-not-all_safe
returns-then-not-all_safe c =
    let f = failing (given c.in_ok-k.ensures) c.args.card.0 c.in_ok-check.ensures c.mark_failed-marked.ensures c.if-k.false in
    stopped-done f (sym (stops f c.all_safe.ensures) ∙ (ap not c.if-not-all_safe.true)) _ c.stop.ensures

pub go_on-requires : goal.go_on-requires
go_on-requires c =
    let f = failing (given c.in_ok-k.ensures) c.args.card.0 c.in_ok-check.ensures c.mark_failed-marked.ensures c.if-k.false in
    record { failing = f; card_value = sym (stops f c.all_safe.ensures) ∙ (ap not c.if-not-all_safe.false) }
