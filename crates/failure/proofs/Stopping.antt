-- The store stops: what the rollback of all open transactions and the halt leave is the image of the rules' plan. Assumes nothing.
use Prim.Native.Nat.{ℕ}
use mathlib.Core.Bool.{Bool, cond, false, true}
use mathlib.Core.Path.{◌∙◌, ◌≡◌, ap, refl}
use Rattle.slot.specs.Blocks.{in_set}
use Rattle.method.specs.Changes.{marked}
use Rattle.method.specs.ControlPart.{halted, is_open}
use Rattle.method.specs.Rules.{Plan, act, drop_held, fail, fail_plan, stop_plan, stopping, stops, unwritten, writing}
use Rattle.control.specs.ControlBytes.{Part, front_part}
use Rattle.control.specs.Meaning.{Is, meaning, put_control}
use Rattle.control.specs.declared.Control.{Control as Struct}
use Rattle.cabinet_rules.specs.Cabinet.{cabinet}
use Rattle.cabinet_rules.specs.Images.{Image, control_in, plan_on}
use Rattle.promise.specs.Given.{view_of}
use Rattle.std.specs.Prelude.{Ok}
use Rattle.promise.specs.Promise.{Done}
use Rattle.promise.specs.declared.Answer.TheVariants.{Stopped}
use Rattle.promise.proofs.Finish.{by_both, form-good}
use Rattle.promise.proofs.Laid.{same-tail}
use Rattle.promise.specs.Laid.{laid}
use Rattle.tables.specs.Tables.{end_writes, set_of}
use Rattle.tables.proofs.Ends.{drops-set}
use Rattle.failure.specs.Failing.{Failing, stopped_on}

-- the code's two steps, one after the other
pub stopped_by : (m x : Struct) (g out : Image) (set : ℕ) → set ≡ set_of (is_open (meaning m)) → Is x (halted (meaning m))
    → out ≡ laid (end_writes (meaning m).working false (in_set set) g) g → put_control out (meaning x) ≡ stopped_on (meaning m) g
unfolding stopped_on
stopped_by m x g out set e ix l = rw (l, e) (ap (put_control _) ix.means)

module _ {m : Struct} {g : Image} {c : ℕ} (f : Failing m g c) where
  -- the rules' control part with the card marked
  abbrev less_card : Part
  less_card = marked cabinet (control_in g) c

  -- what a set of transactions leaves in the tables: the working cards are all but the failed one
  pub dropped : (h : ℕ → Bool) → laid (end_writes (meaning m).working false (in_set (set_of h)) g) g ≡ laid (drop_held cabinet h c (view_of g)) g
  dropped h = ap (λ (p : Part). laid (end_writes p.working false (in_set (set_of h)) g) g) f.is.means ∙ drops-set g h c

  -- a running store does what follows the test of the stopped bit
  pub in-run : {p : Plan cabinet} → cond (stopping cabinet (control_in g) c) (stop_plan cabinet (control_in g) (view_of g) c) (fail_plan cabinet (control_in g) (view_of g) c) ≡ p
      → plan_on (fail c) g ≡ p
  unfolding act
  in-run e = ap (λ (b : Bool). cond b (unwritten cabinet stops less_card)
      (cond (stopping cabinet (control_in g) c) (stop_plan cabinet (control_in g) (view_of g) c) (fail_plan cabinet (control_in g) (view_of g) c))) f.running ∙ e

  stop-plan : stopping cabinet (control_in g) c ≡ true
      → plan_on (fail c) g ≡ writing cabinet stops (halted less_card) (drop_held cabinet (is_open (control_in g)) c (view_of g))
  unfolding act
  stop-plan s = in-run (ap (λ (b : Bool). cond b (stop_plan cabinet (control_in g) (view_of g) c) (fail_plan cabinet (control_in g) (view_of g) c)) s)

  stopped-is : stopped_on (meaning m) g ≡ put_control (laid (drop_held cabinet (is_open (control_in g)) c (view_of g)) g) (front_part (halted less_card))
  unfolding stopped_on
  stopped-is =
      ap (λ (p : Part). put_control (laid (end_writes (meaning m).working false (in_set (set_of (is_open p))) g) g) (halted p)) f.is.means
      ∙ ap (λ (i : Image). put_control i (front_part (halted less_card))) (dropped (is_open (control_in g)))

  pub stopped-done : stopping cabinet (control_in g) c ≡ true → (behind : Image) → behind ≡ stopped_on (meaning m) g → Done (fail c) g (Ok Stopped) behind
  stopped-done s behind l =
      let w = drop_held cabinet (is_open (control_in g)) c (view_of g) in
      by_both (fail c) refl g f.formed Stopped (halted less_card) w behind f.accepted (stop-plan s) (same-tail g (form-good g f.formed)) (l ∙ stopped-is)
