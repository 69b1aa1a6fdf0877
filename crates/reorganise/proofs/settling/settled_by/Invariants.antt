-- All blocks before the next two are settled; the place of the first of these among the masks is counted round. Assumes nothing.
use Prim.Native.Nat.{◌%◌, ◌*◌}
use mathlib.Core.Bool.{true}
use mathlib.Core.Path.{◌≡◌}
use Rattle.lists.specs.Tests.{all_below}
use Rattle.method.specs.Rules.{settled_at}
use Rattle.cabinet_rules.specs.Cabinet.{cabinet}
use Rattle.cabinet_rules.specs.Images.{control_in}
use Rattle.promise.specs.Given.{view_of}
use Rattle.reorganise.proofs.settling.settled_by.Given as goal

abbrev pub invariant-loop-two : goal.invariant-loop-two
invariant-loop-two l = record {
  at : l.place ≡ 2 * l.two % l.round;
  before : all_below (2 * l.two) (settled_at cabinet (control_in l.image) (view_of l.image)) ≡ true;
}
