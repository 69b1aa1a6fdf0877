-- What the functions below the calls are given: an image that passes rows 1 and 2, and its control part. Assumes
-- nothing.
use Rattle.std.specs.Prelude.{ℕ, ◌≡◌}
use Rattle.method.specs.Rules.{Call, View, look, refusal}
use Rattle.control.specs.ControlBytes.{front_part}
use Rattle.control_form.specs.ControlForm.{form_refusal}
use Rattle.control.specs.Meaning.{Is}
use Rattle.control.specs.declared.Control.{Control}
use Rattle.cabinet_rules.specs.Cabinet.{cabinet}
use Rattle.cabinet_rules.specs.Images.{Image, control_in, state_in}

-- The image passes rows 1 and 2 of the refusal table, and the struct is its control part but for the pairs of placements
-- by table, which stay in the image.
pub record Given (k : Control) (g : Image) : Type 0 where
  pub formed : form_refusal g ≡ 0
  pub is : Is k (front_part (control_in g))

-- What a call may read of the card tables.
abbrev pub view_of : Image → View cabinet
view_of g = look cabinet (state_in g)

-- The rows of the refusal table from 3 on.
abbrev pub rows_on : Call cabinet → Image → ℕ
rows_on c g = refusal cabinet c (control_in g) (view_of g)
