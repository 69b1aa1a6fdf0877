-- The two steps of a return, each on an image that passes rows 1 and 2. Assumes nothing.
use Rattle.std.specs.Prelude.{ℕ}
use Rattle.method.specs.Returning.{return_refusal}
use Rattle.cabinet_rules.specs.Cabinet.{cabinet}
use Rattle.cabinet_rules.specs.Delivery.{current}
use Rattle.cabinet_rules.specs.Images.{Image, after_plan, control_in, state_in}
use Rattle.cabinet_rules.specs.Returns.{return_plan_by}

-- The rows of the refusal table from 3 on.
unfoldable pub return_rows_on : ℕ → Image → ℕ
return_rows_on c g = return_refusal cabinet (control_in g) (state_in g).stamp c

-- The image after a return that is taken.
unfoldable pub rejoined_on : ℕ → Image → Image
rejoined_on c g = after_plan current (return_plan_by current c g) g
