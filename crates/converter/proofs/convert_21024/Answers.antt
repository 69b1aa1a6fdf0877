-- The lengths, then the form; then the older bytes are written, and the part behind them is lent and zeroed. Assumes nothing.
use mathlib.Core.Path.{◌∙◌, ap, refl, sym}
use mathlib.Core.List.{List}
use Prim.Native.Nat.{ℕ}
use native.Mathlib.Omega.{arith}
use lib.ListN.{length}
use Rattle.lists.specs.Segments.{splice}
use Rattle.image.specs.Layout.{tail_size}
use Rattle.image.specs.Parts.{zeros}
use Rattle.image.proofs.Parts.{length_part, part_left}
use Rattle.image.proofs.Zeros.{length-zeros}
use Rattle.cabinet_rules.specs.Converting.{older_size}
use Rattle.converter.proofs.Longer.{filled_is, length-copied}
use Rattle.converter.proofs.Refusals.{broken-form, converted, wrong-lent, wrong-older}
use Rattle.converter.proofs.convert_21024.Goals as goal

pub returns-then-older-ne-OLDER_SIZE : goal.returns-then-older-ne-OLDER_SIZE
returns-then-older-ne-OLDER_SIZE c = wrong-older c.if-older-ne-OLDER_SIZE.true

pub returns-then-image-ne-PAIRS_IMAGE_SIZE : goal.returns-then-image-ne-PAIRS_IMAGE_SIZE
returns-then-image-ne-PAIRS_IMAGE_SIZE c = wrong-lent c.if-older-ne-OLDER_SIZE.false c.if-image-ne-PAIRS_IMAGE_SIZE.true

pub returns-then-not-form_21024 : goal.returns-then-not-form_21024
returns-then-not-form_21024 c = broken-form c.if-older-ne-OLDER_SIZE.false c.if-image-ne-PAIRS_IMAGE_SIZE.false (sym c.form_21024.ensures ∙ c.if-not-form_21024.true)

pub returns : goal.returns
returns c =
    let a = c.args in
    let o = c.if-older-ne-OLDER_SIZE.false in
    let i = c.if-image-ne-PAIRS_IMAGE_SIZE.false in
    let m = c.write_at.new.s in
    let long = ap length c.write_at.ensures ∙ length-copied a.older.now a.image.now o i in
    converted o i (sym c.form_21024.ensures ∙ c.if-not-form_21024.false) _
    (part_left older_size tail_size m (zeros tail_size) _
    (c.clear.ensures ∙ ap zeros (length_part older_size tail_size m tail_size refl (omega (arith, long)))) (sym (length-zeros tail_size))
    ∙ ap (λ (l : List ℕ). splice l older_size (zeros tail_size)) c.write_at.ensures ∙ filled_is a.older.now a.image.now o i)
