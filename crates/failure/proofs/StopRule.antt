-- The stop rule in the code's values: some active placement is lost exactly where not all are safe. Assumes nothing.
use Prim.Native.Nat.{ℕ}
use mathlib.Core.Bool.{Bool, ◌&&◌, ◌||◌, false, not, true}
use mathlib.Core.List.{List, [], ◌∷◌}
use mathlib.Core.Path.{◌∙◌, ◌≡◌, ap, ap₂, refl, sym}
use Rattle.lists.specs.Tests.{all_in, any_in}
use Rattle.mask.specs.Placements.{Placement}
use Rattle.method.specs.Changes.{marked}
use Rattle.method.specs.ControlPart.{active}
use Rattle.method.specs.Rules.{lost, stopping}
use Rattle.control.specs.ControlBytes.{Part, front_part}
use Rattle.control_form.specs.ControlForm.{all_safe, is_safe}
use Rattle.control_form.proofs.FrontPart.{all-active}
use Rattle.cabinet_rules.specs.Cabinet.{cabinet}
use Rattle.cabinet_rules.proofs.Form.{safe-is}

lost-safe : (k : Part) → any_in (lost cabinet k) (active k) ≡ not (all_safe k)
lost-safe k = go (active k)
  where
    safe : Placement → Bool
    safe p = is_safe k.working k.failed p.mask

    go : (l : List Placement) → any_in (lost cabinet k) l ≡ not (all_in safe l)
    go [] = refl
    go (p ∷ l) = ap₂ (λ (x y : Bool). x || y) (back (lost cabinet k p) (safe p) (safe-is k.working k.failed p.mask)) (go l)
        ∙ de-morgan (safe p) (all_in safe l)
      where
        back : (a b : Bool) → b ≡ not a → a ≡ not b
        back true b e = sym (ap not e)
        back false b e = sym (ap not e)

        de-morgan : (a b : Bool) → (not a || not b) ≡ not (a && b)
        de-morgan true b = refl
        de-morgan false b = refl

-- the test of the part with the card marked failed
pub stop_is : (k m : Part) (c : ℕ) → m ≡ front_part (marked cabinet k c) → not (all_safe m) ≡ stopping cabinet k c
unfolding stopping
stop_is k m c e = ap (λ (x : Part). not (all_safe x)) e ∙ ap not (all-active (is_safe p.working p.failed) p) ∙ sym (lost-safe p)
  where
    p : Part
    p = marked cabinet k c
