-- The masks before i are safe. Assumes nothing.
use mathlib.Core.Path.{◌≡◌}
use mathlib.Core.Bool.{true}
use Rattle.lists.specs.Tests.{all_below}
use Rattle.control_form.specs.ControlForm.{is_safe}
use Rattle.control.specs.Meaning.{meaning}
use Rattle.control.proofs.Active.{mask_passes}
use Rattle.control_form.proofs.all_safe.Given as goal

abbrev pub invariant-loop-i : goal.invariant-loop-i
invariant-loop-i l = all_below l.i (mask_passes (is_safe (meaning l.k).working (meaning l.k).failed) l.k) ≡ true
