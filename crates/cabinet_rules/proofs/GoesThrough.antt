-- Demand 3 through stops on images, after a start and from the stores that earlier deliveries left: what these left is tidy, since calls keep to their locks.
-- Assumes nothing.
use Prim.Native.Nat.{ℕ}
use borrow.Author.Tests.{eq-eqb}
use lib.ListN.{length}
use mathlib.Core.Bool.{Bool, cond, true}
use mathlib.Core.List.{List, [], ◌∷◌}
use mathlib.Core.Logic.{◌⊎◌, inl, inr}
use mathlib.Core.Path.{◌∙◌, ◌≡◌, ap, refl, subst, sym}
use Rattle.image.specs.Layout.{image_size}
use Rattle.mask.specs.Masks.{Byte, has_card}
use Rattle.method.specs.Growth.{Growth}
use Rattle.method.specs.OneRecordList.{zeroed}
use Rattle.method.specs.Parameters.{Parameters}
use Rattle.method.specs.PlainList.{PlainList, plain_start}
use Rattle.method.specs.Rules.{State, ok, start}
use Rattle.method.specs.ThroughStops.{Step, Tables, recorded_by, run_plain_through, state_through, tables_through}
use Rattle.method.proofs.GrownThrough.{through-grown}
use Rattle.method.proofs.Laws.{Laws}
use Rattle.method.proofs.Run.{next_start}
use Rattle.method.proofs.StepsThrough.{Through, through-start}
use Rattle.method.proofs.ThroughStops.{run-through as rules-through}
use Rattle.method.proofs.Tidy.{TidyList, tidy-after}
use Rattle.control.specs.ControlBytes.{Part}
use Rattle.control.specs.Stamps.{no_stamp, stamp_of}
use Rattle.control_form.specs.ControlForm.{form_refusal}
use Rattle.cabinet_rules.specs.Cabinet.{cabinet, rules_of}
use Rattle.cabinet_rules.specs.ByTheRules.{noise_by}
use Rattle.cabinet_rules.specs.Claims.{image_calls_by, noisy_by}
use Rattle.cabinet_rules.specs.ComesBack.{recorded_through_by}
use Rattle.cabinet_rules.specs.Converting.{first_stamps}
use Rattle.cabinet_rules.specs.Delivery.{Delivery, current, resuming}
use Rattle.cabinet_rules.specs.GoesOn.{BeforeTables, BeforeWire, BegunBy, Earlier, LeftBy, LeftByBase, LeftByRails, LeftByTables, LeftByWire, Store}
use Rattle.cabinet_rules.specs.GoesOn.{StoreBy, Succession, TakenOver, from_base, from_rails, from_tables, from_wire, part_now, taken_over}
use Rattle.cabinet_rules.specs.Images.{Image, answer, next, state_by, state_in}
use Rattle.cabinet_rules.specs.Retired.{base, below_wire, by_tables, two_rails}
use Rattle.cabinet_rules.specs.ThroughStops.{ControlFormStaysThroughStops, GoesOnThroughStopsOnImages, IntactBy, NoisyStep, NoisyStepBy, OneRecordListThroughStopsOnImages}
use Rattle.cabinet_rules.specs.ThroughStops.{after_step_by, image_through_by, recorded_byte, run_through_by, steps_taken_by}
use Rattle.cabinet_rules.proofs.Base.{base_laws}
use Rattle.cabinet_rules.proofs.Earlier.{earlier-sound, tables-sound}
use Rattle.cabinet_rules.proofs.Form.{current_laws}
use Rattle.cabinet_rules.proofs.GoesOn.{growth_of, keeps, state-grown}
use Rattle.cabinet_rules.proofs.Lawful.{DeliveryLaws, lawful_by}
use Rattle.cabinet_rules.proofs.PlacingLaws.{lawful}
use Rattle.cabinet_rules.proofs.Legible.{Legible, legible-form}
use Rattle.cabinet_rules.proofs.Tables.{table_laws, tables-carried, tables-retired}
use Rattle.cabinet_rules.proofs.ThroughStops.{intact-same, legible-through, run-through, step-legible, step-recorded, step-state, stepped_by, steps-taken, tables_by}
use Rattle.cabinet_rules.proofs.Transport.{legible-start, start-long, start-row, state-start}
use Rattle.cabinet_rules.proofs.TwoRails.{rail_laws}
use Rattle.cabinet_rules.proofs.Wire.{wire_laws}

-- ---- a list of steps leaves the state and the recorded tables that the rules give
module _ (D : Delivery) (W : DeliveryLaws D) where
  pub state-through : (l : List (NoisyStepBy D)) (g : Image) → Legible D W g → state_by D (image_through_by D l g) ≡ state_through (rules_of D) (stepped_by D W l) (state_by D g)
  unfolding image_through_by state_through
  state-through [] g s = refl
  state-through (e ∷ l) g s = state-through l (after_step_by D e.1 (noisy_by D e.0 g)) (step-legible D W e g s)
      ∙ ap (state_through (rules_of D) (stepped_by D W l)) (step-state D W e g s)

  pub tables-through : (l : List (NoisyStepBy D)) (g : Image) (t : ℕ → ℕ) → Legible D W g
      → tables_by D W (recorded_through_by D l g t) ≡ tables_through (rules_of D) (stepped_by D W l) (state_by D g) (tables_by D W t)
  unfolding recorded_through_by tables_through
  tables-through [] g t s = refl
  tables-through (e ∷ l) g t s =
      tables-through l (after_step_by D e.1 (noisy_by D e.0 g)) (recorded_byte D (noisy_by D e.0 g) (after_step_by D e.1 (noisy_by D e.0 g)) t) (step-legible D W e g s)
      ∙ ap (λ (x : Tables (rules_of D)). tables_through (rules_of D) (stepped_by D W l) (state_by D (after_step_by D e.1 (noisy_by D e.0 g))) x) (step-recorded D W e g s t)
      ∙ ap (λ (x : State (rules_of D)). tables_through (rules_of D) (stepped_by D W l) x (recorded_by (rules_of D) (noise_by D e.0, e.1) (state_by D g) (tables_by D W t))) (step-state D W e g s)

-- ---- the image of a store beside the run of the rules and the plain record list
pub record Continues (g : Image) (z : State cabinet) (q : PlainList cabinet) (t : ℕ → ℕ) : Type 0 where
  pub seen : Legible current current_laws g
  pub through : Through cabinet lawful (state_in g) z q (tables_by current current_laws t)

pub run-continues : (l : List NoisyStep) (g : Image) (z : State cabinet) (q : PlainList cabinet) (t : ℕ → ℕ) → Continues g z q t → IntactBy current l g t
    → run_through_by current l g ≡ run_plain_through cabinet (steps_taken_by current l g) z q
run-continues l g z q t c i = run-through current current_laws l g c.seen
    ∙ rules-through cabinet lawful refl (stepped_by current current_laws l) (state_in g) z q (tables_by current current_laws t) c.through (intact-same current current_laws l g t c.seen i)
    ∙ ap (λ (x : List (Step cabinet)). run_plain_through cabinet x z q) (sym (steps-taken current current_laws l g c.seen))

-- after an accepted start
module _ (m : Byte) (before : Image) (e : answer (start m) before ≡ ok) (t : ℕ → ℕ) where
  pub start-continues : Continues (next (start m) before) (zeroed cabinet m) (plain_start cabinet m) t
  start-continues = record {
    seen = legible-start current current_laws m before e;
    through = subst (λ (s : State cabinet). Through cabinet lawful s (zeroed cabinet m) (plain_start cabinet m) (tables_by current current_laws t))
        (sym (state-start current current_laws m before (start-long current current_laws m before e)
        ∙ next_start cabinet lawful m (state_in before) (start-row current current_laws m before e)))
        (through-start cabinet lawful m (start-row current current_laws m before e) (tables_by current current_laws t));
  }

-- DEMAND 3 THROUGH STOPS
pub one-record-list-through-stops-on-images : OneRecordListThroughStopsOnImages
unfolding OneRecordListThroughStopsOnImages
one-record-list-through-stops-on-images m before e t l i =
    run-continues l (next (start m) before) (zeroed cabinet m) (plain_start cabinet m) t (start-continues m before e t) i

pub control-form-stays-through-stops : ControlFormStaysThroughStops
unfolding ControlFormStaysThroughStops form_refusal
control-form-stays-through-stops m before e l =
    let h : Legible current current_laws (image_through_by current l (next (start m) before)) =
    legible-through current current_laws l (next (start m) before) (legible-start current current_laws m before e) in
    rw (eq-eqb (length (image_through_by current l (next (start m) before))) image_size h.long, legible-form current current_laws _ h)

-- ---- stores that earlier deliveries left are tidy
abbrev TidyStore : (D : Delivery) → DeliveryLaws D → StoreBy D → Type 0
TidyStore D W s = TidyList (rules_of D) (lawful_by D W.rules) s.plain

left-tidy : (D : Delivery) (W : DeliveryLaws D) (Earlier : StoreBy D → Type 0) → ((s : StoreBy D) → Earlier s → TidyStore D W s)
    → (s : StoreBy D) → LeftBy D Earlier s → TidyStore D W s
left-tidy D W Earlier begun s l = subst (TidyStore D W) (sym l.is)
    (tidy-after (rules_of D) (lawful_by D W.rules) (image_calls_by D l.calls) l.first.rules l.first.plain (first l.begins))
  where
    first : BegunBy D l.first ⊎ Earlier l.first → TidyStore D W l.first
    first (inl b) = subst (TidyStore D W) (sym b.is) (λ r. inl (refl, refl))
    first (inr e) = begun l.first e

taken-tidy : (E D : Delivery) (S : Succession E D) (K : DeliveryLaws E) (W : DeliveryLaws D) (LeftByE : StoreBy E → Type 0)
    → ((s : StoreBy E) → LeftByE s → TidyStore E K s) → (s : StoreBy D) → TakenOver E D S LeftByE s → TidyStore D W s
taken-tidy E D S K W LeftByE tidy s t = subst (TidyStore D W) (sym t.is) (tidy t.was t.left)

base-tidy : (s : StoreBy base) → LeftByBase s → TidyStore base base_laws s
base-tidy = left-tidy base base_laws (λ s. ⊥) (λ s e. absurd e)

rails-tidy : (s : StoreBy two_rails) → LeftByRails s → TidyStore two_rails rail_laws s
rails-tidy = left-tidy two_rails rail_laws (TakenOver base two_rails from_base LeftByBase) (taken-tidy base two_rails from_base base_laws rail_laws LeftByBase base-tidy)

wire-tidy : (s : StoreBy below_wire) → LeftByWire s → TidyStore below_wire wire_laws s
wire-tidy = left-tidy below_wire wire_laws BeforeWire (taken-tidy two_rails below_wire from_rails rail_laws wire_laws LeftByRails rails-tidy)

tables-tidy : (s : StoreBy by_tables) → LeftByTables s → TidyStore by_tables table_laws s
tables-tidy = left-tidy by_tables table_laws BeforeTables (taken-tidy below_wire by_tables from_wire wire_laws table_laws LeftByWire wire-tidy)

-- ---- and go on
-- the converter stamps every working card
stamps-working : (k : Part) (x : ℕ) → has_card k.working x ≡ true → first_stamps k x ≡ stamp_of k
stamps-working k x e = ap (λ (b : Bool). cond b (stamp_of k) no_stamp) e

pub tables-continue : (s : StoreBy by_tables) → LeftByTables s → (t : ℕ → ℕ)
    → let n = taken_over by_tables resuming from_tables s in Continues n.image n.rules n.plain t
tables-continue s l t =
    let P : Parameters = rules_of by_tables in
    let L : Laws P = lawful_by by_tables table_laws.rules in
    let G : Growth P = growth_of by_tables resuming from_tables in
    let d = tables-sound s l in
    let n : Store = taken_over by_tables resuming from_tables s in
    record {
      seen = (earlier-sound (taken_over by_tables resuming from_tables s) (record { was = s; left = l; is = refl })).seen;
      through = subst (λ (x : State cabinet). Through cabinet lawful x n.rules n.plain (tables_by current current_laws t))
          (sym (state-grown by_tables resuming from_tables tables-retired.follows table_laws current_laws tables-carried s.image d.seen))
          (through-grown P L G (keeps by_tables resuming from_tables tables-retired.follows) lawful (λ k m x w. stamps-working (part_now by_tables resuming from_tables k) x w)
          (state_by by_tables s.image) s.rules s.plain (tables_by current current_laws t) d.ready (tables-tidy s l));
    }

pub earlier-continues : (s : Store) → Earlier s → (t : ℕ → ℕ) → Continues s.image s.rules s.plain t
earlier-continues s e t = subst (λ (n : Store). Continues n.image n.rules n.plain t) (sym e.is) (tables-continue e.was e.left t)

pub goes-on-through-stops-on-images : GoesOnThroughStopsOnImages
unfolding GoesOnThroughStopsOnImages
goes-on-through-stops-on-images s e t l i = run-continues l s.image s.rules s.plain t (earlier-continues s e t) i
