-- By the mark of the placement: its pairs, or zero bytes, in the part that is lent. Assumes nothing.
use Rattle.std.proofs.Common.{◌≡◌, ℕ, ◌*◌, ◌+◌, ◌-◌, ◌∙◌, sym, arith, get_or}
use Rattle.image.specs.Layout.{pairs_size}
use Rattle.image.proofs.Parts.{length_part}
use Rattle.mask.specs.Masks.{byte}
use Rattle.control.specs.ControlBytes.{marks_at, masks_at}
use Rattle.control_form.proofs.Kept.{kept-bare, kept_table, part-pairs, part-zero, table-clear, table-set}
use Rattle.control_form.proofs.kept_ok.Goals as goal

-- How long the part is.
size : (a : ℕ) → a + pairs_size - a ≡ pairs_size
size a = omega arith

pub returns-then-front-mark-ne0 : goal.returns-then-front-mark-ne0
returns-then-front-mark-ne0 g c =
    let l = c.args.front.now in
    let i = c.args.i in
    let long = i * pairs_size + pairs_size - i * pairs_size in
    let tail = c.args.tail.now in
    (c.requires.tests _ _ (length_part (i * pairs_size) long tail pairs_size (size (i * pairs_size)) (omega (arith, c.requires.sizes)))).1 _ c.are_pairs.ensures
    ∙ part-pairs tail i long (byte (get_or l (masks_at + i) 0)) (size (i * pairs_size))
    ∙ sym (kept_table l (λ n. get_or tail n 0) i
    (table-set (get_or l marks_at 0) i (c.type_inv.front marks_at).fits c.requires.sizes.2 c.if-front-mark-ne0.true))

pub returns : goal.returns
returns g c =
    let l = c.args.front.now in
    let i = c.args.i in
    let long = i * pairs_size + pairs_size - i * pairs_size in
    c.all_zero.ensures
    ∙ part-zero c.args.tail.now (i * pairs_size) long pairs_size (size (i * pairs_size)) (omega (arith, c.requires.sizes))
    ∙ sym (kept-bare l (λ n. get_or c.args.tail.now n 0) i
    (table-clear (get_or l marks_at 0) i (c.type_inv.front marks_at).fits c.requires.sizes.2 c.if-front-mark-ne0.false))
