-- The masks before i pass. Assumes nothing.
use mathlib.Core.Path.{sym, ◌∙◌}
use Rattle.lists.proofs.Counts.{all-fails, all_more}
use Rattle.control_form.specs.Reading.{mask_test}
use Rattle.control_form.proofs.placements_ok.Goals as goal

pub returns-then-not-placement_ok : goal.returns-then-not-placement_ok
unfolding mask_test
returns-then-not-placement_ok c = sym (all-fails _ _ c.loop-i.i c.loop-i-test.true (sym c.placement_ok.ensures ∙ c.if-not-placement_ok.true))

pub loop-i-preserved : goal.loop-i-preserved
unfolding mask_test
loop-i-preserved c = all_more _ c.loop-i.i (sym c.placement_ok.ensures ∙ c.if-not-placement_ok.false) c.loop-i.invariant
