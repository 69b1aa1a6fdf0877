-- The placements before i withstand one more failure: a search that stops at the first that does not. Assumes nothing.
use mathlib.Core.Bool.{true}
use mathlib.Core.Path.{◌≡◌}
use Rattle.lists.specs.Tests.{all_below}
use Rattle.method.specs.Protection.{withstands}
use Rattle.control.specs.Meaning.{meaning}
use Rattle.control.proofs.Active.{mask_passes}
use Rattle.cabinet_rules.specs.Cabinet.{cabinet}
use Rattle.survey.proofs.protection.all_withstand.Given as goal

abbrev pub invariant-loop-i : goal.invariant-loop-i
invariant-loop-i l = all_below l.i (mask_passes (withstands cabinet tt (meaning l.k).working (meaning l.k).failed) l.k) ≡ true
