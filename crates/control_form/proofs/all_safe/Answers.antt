-- The masks before i are safe. Assumes nothing.
use mathlib.Core.Path.{sym, ◌∙◌}
use native.Mathlib.Omega.{arith}
use Rattle.control.specs.Meaning.{meaning}
use Rattle.control.proofs.Active.{every-passed, one-fails, one_passes}
use Rattle.control_form.proofs.all_safe.Goals as goal

pub returns-then-not-is_safe : goal.returns-then-not-is_safe
unfolding meaning
returns-then-not-is_safe c = one-fails _ c.args.k c.requires c.loop-i.i c.loop-i-test.true (sym c.is_safe.ensures ∙ c.if-not-is_safe.true)

pub loop-i-preserved : goal.loop-i-preserved
unfolding meaning
loop-i-preserved c = one_passes _ c.args.k c.requires c.loop-i.i (sym c.is_safe.ensures ∙ c.if-not-is_safe.false) c.loop-i.invariant

pub returns : goal.returns
returns c = every-passed _ c.args.k c.requires c.loop-i.i (omega arith) c.loop-i.invariant
