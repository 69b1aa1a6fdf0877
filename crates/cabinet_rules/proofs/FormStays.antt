-- The control form is never broken again after an accepted start, whether the store runs or has stopped. Assumes nothing.
use borrow.Author.Tests.{eq-eqb}
use lib.ListN.{length}
use mathlib.Core.List.{List}
use mathlib.Core.Path.{◌≡◌}
use Rattle.image.specs.Layout.{image_size}
use Rattle.method.specs.Rules.{start}
use Rattle.control_form.specs.ControlForm.{form_refusal}
use Rattle.cabinet_rules.specs.Claims.{ControlFormStays, NoisyCall, image_after}
use Rattle.cabinet_rules.specs.Delivery.{current}
use Rattle.cabinet_rules.specs.Images.{Image, next}
use Rattle.cabinet_rules.proofs.Form.{current_laws}
use Rattle.cabinet_rules.proofs.Legible.{Legible, legible-form}
use Rattle.cabinet_rules.proofs.Transport.{legible-start, state-after}

pub form-kept : (l : List NoisyCall) (g : Image) → Legible current current_laws g → form_refusal (image_after l g) ≡ 0
unfolding form_refusal
form-kept l g s =
    let h : Legible current current_laws (image_after l g) = (state-after current current_laws l g s).0 in
    rw (eq-eqb (length (image_after l g)) image_size h.long, legible-form current current_laws (image_after l g) h)

pub control-form-stays : ControlFormStays
unfolding ControlFormStays
control-form-stays m before e l = form-kept l (next (start m) before) (legible-start current current_laws m before e)
