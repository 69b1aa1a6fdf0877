-- The length, then the form, then the struct that the bytes show. Assumes nothing.
use mathlib.Core.Path.{sym, ◌∙◌}
use borrow.Author.Tests.{eq-eqb, ne_eqb}
use Rattle.control_form.specs.ControlForm.{form_refusal}
use Rattle.control_form.proofs.Checks.{form-reads}
use Rattle.control_form.proofs.read.Goals as goal

pub returns-then-image-ne-IMAGE_SIZE : goal.returns-then-image-ne-IMAGE_SIZE
unfolding form_refusal
returns-then-image-ne-IMAGE_SIZE c =
    record { refusal_is = rw (ne_eqb _ _ c.if-image-ne-IMAGE_SIZE.true); good = tt }

pub returns-then-not-form_ok : goal.returns-then-not-form_ok
unfolding form_refusal
returns-then-not-form_ok c =
    record { refusal_is = rw (eq-eqb _ _ c.if-image-ne-IMAGE_SIZE.false, sym c.form_ok.ensures ∙ c.if-not-form_ok.true); good = tt }

pub returns : goal.returns
unfolding form_refusal
returns c =
    let t = sym c.form_ok.ensures ∙ c.if-not-form_ok.false in
    record { refusal_is = rw (eq-eqb _ _ c.if-image-ne-IMAGE_SIZE.false, t); good = form-reads c.args.image.now c.decode.result c.decode.ensures t }
