-- The masks before i pass. Assumes nothing.
use mathlib.Core.Path.{◌≡◌}
use mathlib.Core.Bool.{true}
use lib.ListN.{get_or}
use Rattle.lists.specs.Tests.{all_below}
use Rattle.control.specs.ControlBytes.{stopped_in}
use Rattle.control_form.specs.Reading.{mask_test, placement_ok}
use Rattle.control_form.proofs.placements_ok.Given as goal

abbrev pub invariant-loop-i : goal.invariant-loop-i
invariant-loop-i l = all_below l.i (mask_test (placement_ok (stopped_in (get_or l.s 0 0))) l.s) ≡ true
