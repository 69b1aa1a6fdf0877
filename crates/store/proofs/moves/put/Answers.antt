-- Refused, none or too short: the list is as lent; else the moves that were found are put. Assumes nothing.
use Rattle.std.specs.Prelude.{◌≡◌, IfOk, Ok, Option, Result}
use mathlib.Core.Path.{◌∙◌, ap, subst, sym}
use Rattle.cabinet_rules.specs.Images.{Image}
use Rattle.cabinet_rules.specs.MoveLists.{list_refusal}
use Rattle.refusals.specs.Refusals.{row_of}
use Rattle.refusals.specs.declared.Refusal.{Refusal}
use Rattle.move_list.specs.Plans.{Finds, Plans}
use Rattle.move_list.specs.declared.Plan.{Plan}
use Rattle.move_list.proofs.MovePlans.{filled-done, locked-done, refused-done, short-done, listed-le}
use Rattle.store.proofs.moves.put.Goals as goal

-- what a plan, or none, says of the image that it was found in
known-of : {g : Image} {f : Result (Option Plan) Refusal} {o p : Option Plan} → f ≡ Ok o → o ≡ p → Plans g f → (0 ≡ list_refusal g) × Finds g p
known-of {g} e i s =
    (sym (ap row_of e) ∙ s.refusal_is, subst (Finds g) i (subst (λ (x : Result (Option Plan) Refusal). IfOk x (Finds g)) e s.finds))

pub returns-in_err-known : goal.returns-in_err-known
returns-in_err-known c g s = refused-done g c.args.list.now _ _ (sym (ap row_of (c.in_err-known.was)) ∙ s.refusal_is) c.from_residual.ensures

pub returns-in_err-n-in-Some : goal.returns-in_err-n-in-Some
returns-in_err-n-in-Some c g s =
    let k = known-of (c.in_ok-known.was) c.in-Some.is s in
    short-done g c.args.list.now k.0 c.in-Some.plan k.1 _ _ c.in_err-n-in-Some.ensures c.from_residual-in_err-n-in-Some.ensures

pub fill-requires : goal.fill-requires
fill-requires c = listed-le c.in-Some.plan _ _ c.in_ok-n-in-Some.ensures

pub returns-in_ok-n-in-Some : goal.returns-in_ok-n-in-Some
returns-in_ok-n-in-Some c g s =
    let k = known-of (c.in_ok-known.was) c.in-Some.is s in
    filled-done g c.args.list.now k.0 c.in-Some.plan k.1 _ c.in_ok-n-in-Some.ensures _ c.fill.ensures

pub returns-in-None : goal.returns-in-None
returns-in-None c g s =
    let k = known-of (c.in_ok-known.was) c.in-None.is s in
    locked-done g c.args.list.now k.0 k.1
