-- The lengths, then the form; then the whole image is written. Assumes nothing.
use mathlib.Core.Path.{sym, ◌∙◌}
use Rattle.converter.proofs.Refusals.{broken-form, converted, wrong-lent, wrong-older}
use Rattle.converter.proofs.convert_21216.Goals as goal

pub returns-then-older-ne-PAIRS_IMAGE_SIZE : goal.returns-then-older-ne-PAIRS_IMAGE_SIZE
returns-then-older-ne-PAIRS_IMAGE_SIZE c = wrong-older c.if-older-ne-PAIRS_IMAGE_SIZE.true

pub returns-then-image-ne-IMAGE_SIZE : goal.returns-then-image-ne-IMAGE_SIZE
returns-then-image-ne-IMAGE_SIZE c = wrong-lent c.if-older-ne-PAIRS_IMAGE_SIZE.false c.if-image-ne-IMAGE_SIZE.true

pub returns-then-not-form_21216 : goal.returns-then-not-form_21216
returns-then-not-form_21216 c = broken-form c.if-older-ne-PAIRS_IMAGE_SIZE.false c.if-image-ne-IMAGE_SIZE.false (sym c.form_21216.ensures ∙ c.if-not-form_21216.true)

pub carry-requires : goal.carry-requires
carry-requires c =
    (c.if-older-ne-PAIRS_IMAGE_SIZE.false, sym c.form_21216.ensures ∙ c.if-not-form_21216.false, c.if-image-ne-IMAGE_SIZE.false)

pub returns : goal.returns
returns c =
    converted c.if-older-ne-PAIRS_IMAGE_SIZE.false c.if-image-ne-IMAGE_SIZE.false (sym c.form_21216.ensures ∙ c.if-not-form_21216.false) _ c.carry.ensures
