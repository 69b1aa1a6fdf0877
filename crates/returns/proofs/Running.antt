-- Whether a store can run, as the code tests it: masks, and no pairs. Assumes nothing.
use Prim.Native.Nat.{ℕ}
use mathlib.Core.Bool.{Bool, ◌&&◌, false, not, true}
use mathlib.Core.List.{List, [], ◌∷◌}
use mathlib.Core.Path.{◌∙◌, ◌≡◌, ap, ap₂, refl, sym}
use Rattle.lists.specs.Tests.{all_in}
use Rattle.mask.specs.Masks.{Byte, byte, is_within}
use Rattle.mask.specs.Placements.{Placement}
use Rattle.method.specs.ControlPart.{active}
use Rattle.method.specs.Returning.{can_run}
use Rattle.method.specs.Rules.{lost}
use Rattle.control.specs.ControlBytes.{Part, front_part}
use Rattle.control.specs.Meaning.{meaning, newest_mask}
use Rattle.control.specs.declared.Control.{Control as Struct}
use Rattle.control.proofs.Struct.{newest-mask-is}
use Rattle.control_form.specs.ControlForm.{all_safe, is_safe}
use Rattle.control_form.proofs.FrontPart.{all-active}
use Rattle.cabinet_rules.specs.Cabinet.{cabinet}
use Rattle.cabinet_rules.proofs.Form.{safe-is}

-- the two clauses of the control form on a running store
pub run-clauses : (k : Part) → (is_within k.newest.mask k.working && all_safe k) ≡ can_run cabinet k
unfolding can_run is_within
run-clauses k = ap (λ (b : Bool). is_within k.newest.mask k.working && b) (go (active k))
  where
    go : (l : List Placement) → all_in (λ p. is_safe k.working k.failed p.mask) l ≡ all_in (λ p. not (lost cabinet k p)) l
    go [] = refl
    go (p ∷ l) = ap₂ ◌&&◌ (safe-is k.working k.failed p.mask) (go l)

-- pairs do not matter
pub front-runs : (k : Part) → can_run cabinet (front_part k) ≡ can_run cabinet k
front-runs k = sym (run-clauses (front_part k))
    ∙ ap (λ (b : Bool). is_within k.newest.mask k.working && b) (all-active (is_safe k.working k.failed) k)
    ∙ run-clauses k

-- ---- the code's two tests
module _ (k : Struct) {n : ℕ} {b : Bool} (e : n ≡ newest_mask k) (h : b ≡ is_within (byte n) (byte k.working)) where
  within-is : b ≡ is_within (meaning k).newest.mask (meaning k).working
  unfolding meaning
  within-is = h ∙ ap (λ (m : Byte). is_within m (byte k.working)) (newest-mask-is k n e)

  pub member-missing : b ≡ false → false ≡ can_run cabinet (meaning k)
  member-missing z = ap (λ (t : Bool). t && all_safe (meaning k)) (sym z ∙ within-is) ∙ run-clauses (meaning k)

  pub all-members : b ≡ true → {s : Bool} → s ≡ all_safe (meaning k) → s ≡ can_run cabinet (meaning k)
  all-members z q = q ∙ ap (λ (t : Bool). t && all_safe (meaning k)) (sym z ∙ within-is) ∙ run-clauses (meaning k)
