-- The word of a state, from the code's values to the rules'. Assumes nothing.
use mathlib.Core.Bool.{Bool, false}
use mathlib.Core.Path.{◌∙◌, ◌≡◌, ap, sym}
use Rattle.method.specs.Protection.{all_withstand, protection, withstands}
use Rattle.control_form.proofs.FrontPart.{all-active}
use Rattle.method.specs.Rules.{act, is_protected, state, unwritten}
use Rattle.method.proofs.ProtectionCounts.{protected-by-counts}
use Rattle.control.specs.Meaning.{meaning}
use Rattle.control.specs.declared.Control.{Control}
use Rattle.cabinet_rules.specs.Cabinet.{cabinet}
use Rattle.cabinet_rules.specs.Images.{Image, control_in, plan_on}
use Rattle.cabinet_rules.proofs.PlacingLaws.{lawful}
use Rattle.promise.specs.Given.{Given}
use Rattle.promise.proofs.Finish.{form-good}
use Rattle.promise.proofs.SharedRows.{stopped-is}
use Rattle.promise.proofs.View.{not-lost, works-not-failed}

module _ (k : Control) (g : Image) (is : Given k g) where
  -- by counts over the active placements of a store that runs
  counted : (control_in g).stopped ≡ false → is_protected cabinet (control_in g) ≡ all_withstand cabinet (control_in g)
  counted run = let form = form-good g is.formed in protected-by-counts cabinet lawful (control_in g) (works-not-failed g form) (not-lost g form run)

  -- the plan's answer, by whether every active placement withstands one more failure
  pub state-plan : (t : Bool) → k.stopped ≡ false → t ≡ all_withstand cabinet (meaning k)
      → plan_on state g ≡ unwritten cabinet (protection cabinet t) (control_in g)
  unfolding act
  state-plan t run e =
      let word : is_protected cabinet (control_in g) ≡ t =
      counted (sym (stopped-is k g is) ∙ run) ∙ sym (e ∙ ap (all_withstand cabinet) is.is.means ∙ all-active (withstands cabinet tt (control_in g).working (control_in g).failed) (control_in g)) in
      ap (λ (t : Bool). unwritten cabinet (protection cabinet t) (control_in g)) word
