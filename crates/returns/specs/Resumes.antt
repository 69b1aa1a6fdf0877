-- When a store runs again: exactly where its control part, with the card admitted, meets what the control form asks of a
-- running store. Assumes nothing.
use Rattle.std.specs.Prelude.{ℕ, false, ◌≡◌}
use Rattle.method.specs.ControlPart.{part}
use Rattle.method.specs.Returning.{admitted, can_run}
use Rattle.control.specs.ControlBytes.{Part}
use Rattle.control_form.specs.ControlForm.{part_ok}
use Rattle.cabinet_rules.specs.Cabinet.{cabinet}
use Rattle.cabinet_rules.specs.Images.{Image, control_in}
use Rattle.cabinet_rules.specs.Returns.{return_refusal_on}

-- The same control part with the stopped bit clear.
abbrev pub running_as : Part → Part
running_as k = part false k.older k.newest k.working k.failed k.home k.setting k.serial

-- For every image and every card whose return is not refused.
unfoldable pub RunsWhenTheFormHolds : Type 0
RunsWhenTheFormHolds = (g : Image) (c : ℕ) → return_refusal_on c g ≡ 0
    → can_run cabinet (admitted cabinet (control_in g) c) ≡ part_ok (running_as (admitted cabinet (control_in g) c))
