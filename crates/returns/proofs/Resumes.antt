-- A store runs again exactly where its control part meets what the control form asks of a running store. With the card admitted the part still has all
-- that is asked of a stopped one, as the card is a member of the newest placement; the two clauses that are asked of a running one alone are the test.
-- Assumes nothing.
use Prim.Native.Nat.{ℕ}
use lib.Dec.{eqb}
use lib.ListN.{length}
use mathlib.Core.Bool.{Bool, ◌&&◌, and-true, false, not, true}
use mathlib.Core.Path.{◌∙◌, ◌≡◌, ap, sym}
use Rattle.lists.specs.Tests.{all_below}
use Rattle.lists.proofs.Bools.{not-not-is}
use Rattle.lists.proofs.Counts.{all-below}
use Rattle.image.specs.Layout.{image_size, tran_bound}
use Rattle.mask.specs.Masks.{is_within}
use Rattle.method.specs.Returning.{admitted, return_refusal}
use Rattle.method.proofs.Refusals.{row-clear}
use Rattle.method.proofs.Returning.{Taken, admitted_as, rests-admitted, taken-shows}
use Rattle.method.proofs.Stopped.{Rests}
use Rattle.control.specs.ControlBytes.{Part}
use Rattle.control_form.specs.ControlForm.{all_safe, control_form, home_ok, part_ok, serial_ok}
use Rattle.control_form.proofs.RoundTrip.{Clauses, part-clauses}
use Rattle.cabinet_rules.specs.Cabinet.{cabinet}
use Rattle.cabinet_rules.specs.Images.{Image, control_in, state_in}
use Rattle.cabinet_rules.specs.Returns.{return_refusal_by, return_refusal_on}
use Rattle.cabinet_rules.proofs.Form.{resting-ok}
use Rattle.cabinet_rules.proofs.FormLaws.{resting}
use Rattle.cabinet_rules.proofs.PlacingLaws.{lawful}
use Rattle.returns.specs.Resumes.{RunsWhenTheFormHolds, running_as}
use Rattle.returns.proofs.Running.{run-clauses}

-- five clauses hold, and the two between them are the test
two-left : {a m h s n : Bool} (x y : Bool) → a ≡ true → m ≡ true → h ≡ true → s ≡ true → n ≡ true → (x && y) ≡ (a && (m && (h && (x && (y && (s && n))))))
two-left x y p q r t u = rw (p, q, r, t, u) (ap (λ (b : Bool). x && b) (sym (and-true y)))

-- a part that has all that is asked of a stopped one
run-part : (k : Part) → Rests cabinet lawful k → part_ok (running_as k) ≡ (is_within k.newest.mask k.working && all_safe k)
unfolding part_ok home_ok serial_ok
run-part k r =
    let f : Clauses k = part-clauses k (resting-ok k r) in
    let homes : all_below tran_bound (λ t. home_ok false k.working (k.home t)) ≡ true = all-below tran_bound (λ t. home_ok false k.working (k.home t)) (λ t h. rw (r.shut t)) in
    sym (two-left (is_within k.newest.mask k.working) (all_safe k) f.apart f.members f.chain homes f.serials)

module _ (g : Image) (c : ℕ) (e : return_refusal_on c g ≡ 0) where
  below_length : (not (control_form g) ≡ false) × (return_refusal cabinet (control_in g) (state_in g).stamp c ≡ 0)
  unfolding return_refusal_by
  below_length = row-clear (not (control_form g)) 1 (row-clear (not (eqb (length g) image_size)) 0 e).1

  shows : Taken cabinet (control_in g) (state_in g).stamp c
  shows = taken-shows cabinet (control_in g) (state_in g).stamp c below_length.1

  -- with the card admitted the store could rest on
  pub rests : Rests cabinet lawful (admitted_as cabinet lawful (control_in g) c true)
  rests = rests-admitted cabinet lawful (control_in g) (resting g (not-not-is (control_form g) below_length.0) shows.is-stopped) c shows.is-card shows.named

pub resumes : RunsWhenTheFormHolds
unfolding RunsWhenTheFormHolds
resumes g c e = sym (run-clauses (admitted cabinet (control_in g) c)) ∙ sym (run-part (admitted_as cabinet lawful (control_in g) c true) (rests g c e))
