-- What request A.5 changes of the calls: store refuses 65,535, and nothing else. The statements. Assumes nothing.
use Rattle.std.specs.Prelude.{ℕ, false, ◌≢◌, ◌≡◌}
use Rattle.image.specs.Layout.{image_size_of}
use Rattle.method.specs.Rules.{Call, refused, store}
use Rattle.control_form.specs.ControlForm.{form_rows_of}
use Rattle.cabinet_rules.specs.Cabinet.{rules_of}
use Rattle.cabinet_rules.specs.Delivery.{Delivery, broken_wire, current}
use Rattle.cabinet_rules.specs.Retired.{below_wire, two_rails}
use Rattle.cabinet_rules.specs.Images.{Image, answer_by, form_by, next_by}

-- On every image, reached by calls or not, a store of 65,535 is refused 1 or 2 as every call is, and else 3, whether the
-- store runs or has stopped; no byte changes.
unfoldable pub RefusesBrokenWire : Delivery → Type 0
RefusesBrokenWire D = (t r : ℕ) (g : Image)
    → (answer_by D (store t r broken_wire) g ≡ refused (form_rows_of (image_size_of D.memory.layout) false (form_by D g) g 3))
    × (next_by D (store t r broken_wire) g ≡ g)

-- So it is by A.5 and by the delivery in force.
unfoldable pub BrokenWireRefused : Type 0
BrokenWireRefused = RefusesBrokenWire below_wire × RefusesBrokenWire current

-- By A.5 every other call answers and leaves on every image what it did by the delivery before, also where a record has
-- 65,535, committed or pending.
unfoldable pub ElseAsBefore : Type 0
ElseAsBefore = (c : Call (rules_of below_wire)) → ((t r : ℕ) → c ≢ store t r broken_wire) → (g : Image)
    → (answer_by below_wire c g ≡ answer_by two_rails c g) × (next_by below_wire c g ≡ next_by two_rails c g)
