-- What is asked before the tables, and then what is asked behind them, of the part from there to the image's end: all zero where no placement has a mark for
-- a table, and else placement by placement. Assumes nothing.
use Rattle.std.proofs.Common.{◌≡◌, ◌∙◌, ap, sym, arith, true, List, ℕ, ◌-◌, ◌<◌, get_or}
use Rattle.lists.specs.Tests.{all_below}
use Rattle.image.specs.Layout.{image_size, most_active, tail_size, tail_start}
use Rattle.control.specs.ControlBytes.{control_of, marks_at, tail_at}
use Rattle.control_form.specs.ControlForm.{control_form, form_ok, front_ok}
use Rattle.control_form.specs.Reading.{kept_ok_at}
use Rattle.control_form.proofs.Kept.{behind-front, none_kept, part_end, part-zero}
use Rattle.control_form.proofs.form_ok.Goals as goal

-- Where the bytes before the tables pass, this is what is left of the form of an image.
form-behind : (l : List ℕ) → ((n : ℕ) → get_or l n 0 < 256) → front_ok (control_of (λ n. get_or l n 0) (tail_at l)) (λ n. get_or l n 0) ≡ true
    → control_form l ≡ all_below most_active (kept_ok_at l (tail_at l))
unfolding form_ok
form-behind l bytes f = rw f (behind-front l (tail_at l) bytes f)

pub returns-then-not-front_ok : goal.returns-then-not-front_ok
unfolding form_ok
returns-then-not-front_ok c = rw (sym (c.front_ok.ensures (tail_at c.args.image.now)) ∙ c.if-not-front_ok.true)

pub returns-then-image-eq0 : goal.returns-then-image-eq0
returns-then-image-eq0 c =
    let l = c.args.image.now in
    let bytes = λ (n : ℕ). (c.type_inv.image n).fits in
    c.all_zero.ensures ∙ part-zero l tail_start (image_size - tail_start) tail_size (omega arith) (omega (arith, c.requires))
    ∙ sym (form-behind l bytes (sym (c.front_ok.ensures (tail_at l)) ∙ c.if-not-front_ok.false) ∙ none_kept l (tail_at l) (bytes marks_at) c.if-image-eq0.true)

pub returns : goal.returns
returns c =
    let l = c.args.image.now in
    c.behind_ok.ensures
    ∙ ap (λ (t : ℕ → ℕ). all_below most_active (kept_ok_at l t)) (part_end l tail_start (image_size - tail_start) tail_size (omega arith) c.requires)
    ∙ sym (form-behind l (λ n. (c.type_inv.image n).fits) (sym (c.front_ok.ensures (tail_at l)) ∙ c.if-not-front_ok.false))
