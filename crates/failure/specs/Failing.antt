-- What going on after a failure is given, and the image of a store that stops. Assumes nothing.
use Rattle.std.specs.Prelude.{ℕ, ltb, false, not, ◌≡◌}
use Rattle.image.specs.Layout.{card_count}
use Rattle.mask.specs.Masks.{has_card}
use Rattle.slot.specs.Blocks.{in_set}
use Rattle.method.specs.Changes.{marked}
use Rattle.method.specs.ControlPart.{halted, is_open}
use Rattle.method.specs.Rules.{fail, row}
use Rattle.control.specs.ControlBytes.{Part, front_part}
use Rattle.control.specs.Meaning.{Is, put_control}
use Rattle.control.specs.declared.Control.{Control}
use Rattle.control_form.specs.ControlForm.{form_refusal}
use Rattle.cabinet_rules.specs.Cabinet.{cabinet}
use Rattle.cabinet_rules.specs.Images.{Image, control_in}
use Rattle.promise.specs.Given.{rows_on}
use Rattle.promise.specs.Laid.{laid}
use Rattle.tables.specs.Tables.{end_writes, set_of}

-- The fail of card c is accepted in a running store, and the struct is the image's control part with the card marked failed,
-- but for pairs.
pub record Failing (m : Control) (g : Image) (c : ℕ) : Type 0 where
  pub formed : form_refusal g ≡ 0
  pub running : (control_in g).stopped ≡ false
  pub accepted : 0 ≡ rows_on (fail c) g
  pub is : Is m (front_part (marked cabinet (control_in g) c))

-- The rows of a fail from 3 on: 3 and 8.
unfoldable pub fail_rows : Part → ℕ → ℕ
fail_rows k c = row 3 (not (ltb c card_count)) (row 8 (not (has_card k.working c)) 0)

-- The store stops, with what was open rolled back on the cards that work.
unfoldable pub stopped_on : Part → Image → Image
stopped_on m g = put_control (laid (end_writes m.working false (in_set (set_of (is_open m))) g) g) (halted m)
