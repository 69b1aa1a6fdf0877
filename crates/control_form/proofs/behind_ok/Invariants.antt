-- Placement by placement: those before i pass. Assumes nothing.
use mathlib.Core.Path.{◌≡◌}
use mathlib.Core.Bool.{true}
use lib.ListN.{get_or}
use Rattle.lists.specs.Tests.{all_below}
use Rattle.control_form.specs.Reading.{kept_ok_at}
use Rattle.control_form.proofs.behind_ok.Given as goal

abbrev pub invariant-loop-i : goal.invariant-loop-i
invariant-loop-i g l = all_below l.i (kept_ok_at l.front (λ n. get_or l.tail n 0)) ≡ true
