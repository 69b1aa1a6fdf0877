-- A walk on images (request A.8): what a step answers, and the walk after it. The image is never written. Assumes nothing.
use Rattle.std.specs.Prelude.{ℕ, false}
use Rattle.method.specs.Rules.{look}
use Rattle.method.specs.Walks.{Reading, Walk, WalkStep, after_reading, reading, unless_walk_refused, walk_refusal}
use Rattle.control.specs.ControlBytes.{Serial}
use Rattle.control_form.specs.ControlForm.{control_form, form_rows}
use Rattle.cabinet_rules.specs.Cabinet.{cabinet}
use Rattle.cabinet_rules.specs.Images.{Image, control_in, state_in}

-- A serial as the number that a walk has of it.
abbrev pub serial_number : Serial → ℕ
serial_number ν = ν

-- What a step for record r reads.
abbrev pub reading_on : ℕ → Walk → Image → Reading
reading_on r w g = reading cabinet serial_number r (control_in g) (look cabinet (state_in g)) w

-- The whole refusal table: rows 1 and 2, then 3, 4, 5 and 7.
unfoldable pub walk_refusal_on : ℕ → ℕ → Walk → Image → ℕ
walk_refusal_on t r w g =
    form_rows false (control_form g) g (walk_refusal cabinet serial_number t r (control_in g) (look cabinet (state_in g)) w)

-- The step: its answer, and the walk after it. The lowest number that applies is returned, and leaves the walk as lent.
unfoldable pub walk_on : ℕ → ℕ → Walk → Image → WalkStep cabinet
walk_on t r w g =
    unless_walk_refused (walk_refusal_on t r w g) w (after_reading cabinet t r (look cabinet (state_in g)) (reading_on r w g))
