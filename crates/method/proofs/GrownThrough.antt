-- Stops and returns where the list goes on under a later paper: a running store of before the paper, which the paper has stamped, goes on through
-- stops; under a paper that keeps stamps a stopped store goes on too. And the control part, with no proviso: every step leaves a legal one.
-- Assumes nothing.
use Prim.Native.Nat.{suc, zero, ℕ}
use lib.Dec.{ltb}
use mathlib.Core.Bool.{Bool, ◌&&◌, ◌||◌, true}
use mathlib.Core.List.{List, [], ◌∷◌}
use mathlib.Core.Logic.{inl}
use mathlib.Core.Path.{◌∙◌, ◌≡◌, ap, fun_ext, refl, subst, sym}
use Rattle.method.specs.Changes.{Control}
use Rattle.method.specs.Growth.{Growth, grown, grown_control, grown_plain, grown_state}
use Rattle.method.specs.OneRecordList.{Noise, calls_of, disturb, plain_after, rules_after, state_after, zeroed}
use Rattle.method.specs.Parameters.{Parameters}
use Rattle.method.specs.PlainList.{PlainList, plain_start}
use Rattle.method.specs.Returning.{after_return, return_plan, return_refusal, returning}
use Rattle.method.specs.Rules.{State, View, act, apply, guarded, look, next_state, plan, refusal, start}
use Rattle.method.specs.Slots.{Slot}
use Rattle.method.specs.ThroughStops.{GoesOnThroughStops, Step, Tables, after_step, call, next_by, return, state_through}
use Rattle.method.proofs.Growth.{GrowthLaws, block-grown, ready-grown, rests-grown}
use Rattle.method.proofs.Laws.{Laws}
use Rattle.method.proofs.Legal.{Legal, legal-next}
use Rattle.method.proofs.Reached.{Reached, ready-reached}
use Rattle.method.proofs.Resting.{Halt, hopes, wish}
use Rattle.method.proofs.RestingSteps.{Rested}
use Rattle.method.proofs.Returning.{legal-return}
use Rattle.method.proofs.Run.{Ready}
use Rattle.method.proofs.Stamps.{Stamped}
use Rattle.method.proofs.StepsThrough.{Through, it-rests, it-runs}
use Rattle.method.proofs.ThroughStops.{run-through}
use Rattle.method.proofs.Tidy.{TidyList, tidy-after}

-- ---- the control part
module _ (P : Parameters) (L : Laws P) where
  -- every step, taken or refused
  pub legal-step : (e : Step P) (s : State P) → Legal P L s.control → Legal P L (after_step P e s).control
  unfolding after_step next_state plan apply after_return returning
  legal-step (call c) s h = go (refusal P c s.control (look P s)) refl
    where
      go : (n : ℕ) → refusal P c s.control (look P s) ≡ n → Legal P L (guarded P n s.control (act P c s.control (look P s))).after
      go zero e = legal-next P L s.control h c (look P s) e
      go (suc n) e = h
  legal-step (return c) s h = go (return_refusal P s.control s.stamp c) refl
    where
      go : (n : ℕ) → return_refusal P s.control s.stamp c ≡ n → Legal P L (guarded P n s.control (return_plan P s.control s.block c)).after
      go zero e = legal-return P L s.control s.stamp c h e
      go (suc n) e = h

  -- and a list of them, with any noise
  pub legal-through : (l : List (Noise P × Step P)) (s : State P) → Legal P L s.control → Legal P L (state_through P l s).control
  unfolding state_through next_by
  legal-through [] s h = h
  legal-through (e ∷ l) s h = legal-through l (after_step P e.1 (disturb P e.0 s)) (legal-step e.1 (disturb P e.0 s) (unfold disturb in h))

-- ---- a later paper
module _ (P : Parameters) (L : Laws P) (G : Growth P) (E : GrowthLaws P G) (M : Laws (grown P G)) where
  open P use {Stamp, has, mask}

  -- what is locked stays locked by an open transaction
  pub tidy-grown : (q : PlainList P) → TidyList P L q → TidyList (grown P G) M (grown_plain P G q)
  tidy-grown q d = d

  -- the paper stamps every working card
  abbrev pub StampsWorking : Type 0
  StampsWorking = (k : Control P) (m : ℕ → Stamp) (x : ℕ) → has k.working x ≡ true → G.older_stamps (grown_control P G k) m x ≡ G.stamp_of (grown_control P G k)

  module _ (stamps : StampsWorking) where
    grown-stamped : (k : Control P) (m : ℕ → Stamp) → ((x : ℕ) → has (mask k.newest) x ≡ true → has k.working x ≡ true)
        → Stamped (grown P G) (grown_control P G k) (G.older_stamps (grown_control P G k) m)
    grown-stamped k m works x n = stamps k m x (works x (sym (ap (λ (y : Parameters.Mask P). has y x) (E.same-mask k.newest)) ∙ n))

    pub through-grown : (s z : State P) (q : PlainList P) (t : Tables (grown P G)) → Ready P L s z q → TidyList P L q
        → Through (grown P G) M (grown_state P G s) (grown_state P G z) (grown_plain P G q) t
    through-grown s z q t r d = it-runs (ready-grown P L G E M s z q r) (tidy-grown q d) (at s r.store_beside.same-control) (at z r.rules-beside.same-control)
      where
        at : (y : State P) → y.control ≡ q.control → Stamped (grown P G) (grown_control P G q.control) (grown_state P G y).stamp
        at y e = subst (λ (k : Control P). Stamped (grown P G) (grown_control P G q.control) (G.older_stamps (grown_control P G k) y.stamp)) (sym e)
            (grown-stamped q.control y.stamp r.inv.form.new_works)

    -- DEMAND 3 THROUGH STOPS, going on
    pub goes-on-through-stops : G.marks_while_stopped ≡ true → GoesOnThroughStops P G
    unfolding GoesOnThroughStops
    goes-on-through-stops marks a before e l runs t m i =
        let s : State P = state_after P l (next_state P (start a) before) in
        let z : State P = rules_after P (calls_of P l) (zeroed P a) in
        let q : PlainList P = plain_after P (calls_of P l) (zeroed P a) (plain_start P a) in
        let r : Reached P s = record { argument = a; before = before; begins = e; since = l; running = runs; is = refl } in
        run-through (grown P G) M marks m (grown_state P G s) (grown_state P G z) (grown_plain P G q) t
        (through-grown s z q t (ready-reached P L s r) (tidy-after P L (calls_of P l) (zeroed P a) (plain_start P a) (λ r. inl (refl, refl)))) i

-- ---- a paper that keeps stamps: a store goes on as it is, running or stopped
module _ (P : Parameters) (L : Laws P) (G : Growth P) (E : GrowthLaws P G) (M : Laws (grown P G)) where
  open P use {Stamp, has, mask, stamp_of}
  open E use {same_blocks, same-mask}

  -- a card that has the newest placement's stamp still has it
  abbrev pub KeepsStamps : Type 0
  KeepsStamps = (k : Control P) (m : ℕ → Stamp) (x : ℕ) → m x ≡ stamp_of k → G.older_stamps (grown_control P G k) m x ≡ G.stamp_of (grown_control P G k)

  -- recorded tables beside a control part
  abbrev pub grown_tables : Control P → Tables P → Tables (grown P G)
  grown_tables k t = record { block = t.block; stamp = G.older_stamps (grown_control P G k) t.stamp }

  grown-named : (k : Control P) (x : ℕ) → has (G.mask (G.older k.newest)) x ≡ has (mask k.newest) x
  grown-named k x = ap (λ (m : Parameters.Mask P). has m x) (same-mask k.newest)

  -- ---- the records of a stopped store
  module _ (k : Control P) (v : View P) where
    hopes-grown : hopes (grown P G) M (grown_control P G k) ≡ hopes P L k
    hopes-grown = fun_ext (λ x. ap (λ (b : Bool). has k.working x || (has k.failed x && b)) (grown-named k x))

    wish-grown : wish (grown P G) M (grown_control P G k) v ≡ wish P L k v
    unfolding wish
    wish-grown = fun_ext (λ x. fun_ext (λ b. rw (same_blocks k.setting, grown-named k x)))

    halt-grown : (records : ℕ → Slot) → Halt P L k v records → Halt (grown P G) M (grown_control P G k) v records
    halt-grown records h = record {
      rests = rests-grown P L G E M k h.rests;
      each = λ b bk. rw (wish-grown, hopes-grown) (block-grown P L G E M k (wish P L k v) records (hopes P L k) b (h.each b (sym (ap (ltb b) (same_blocks k.setting)) ∙ bk)));
      free = h.free;
    }

  -- ---- the store
  module _ (keeps : KeepsStamps) where
    still-stamped : (k : Control P) (m : ℕ → Stamp) → Stamped P k m → Stamped (grown P G) (grown_control P G k) (G.older_stamps (grown_control P G k) m)
    still-stamped k m h x n = keeps k m x (h x (sym (grown-named k x) ∙ n))

    -- a state that has this control part
    abbrev now : Control P → State P → State (grown P G)
    now k y = record { control = grown_control P G k; block = y.block; stamp = G.older_stamps (grown_control P G k) y.stamp }

    now-is : (k : Control P) (y : State P) → y.control ≡ k → grown_state P G y ≡ now k y
    now-is k y e = ap (λ (j : Control P). now j y) e

    rested-carried : (s z : State P) (q : PlainList P) (t : Tables P) → Rested P L s z q t
        → Rested (grown P G) M (now q.control s) (now q.control z) (grown_plain P G q) (grown_tables q.control t)
    rested-carried s z q t r = record {
      store-control = refl;
      rules-control = refl;
      halt = halt-grown q.control z.block q.records r.halt;
      rules-stamps = still-stamped q.control z.stamp r.rules-stamps;
      same_blocks = λ x b w bk. r.same_blocks x b w (in-range b bk);
      store-stamps = λ x w n. keeps q.control s.stamp x (r.store-stamps x w (sym (grown-named q.control x) ∙ n));
      kept-blocks = λ x b f n bk. r.kept-blocks x b f (sym (grown-named q.control x) ∙ n) (in-range b bk);
      kept-stamps = λ x f n. keeps q.control t.stamp x (r.kept-stamps x f (sym (grown-named q.control x) ∙ n));
    }
      where
        in-range : (b : ℕ) → ltb b (G.blocks (G.older_setting q.control.setting)) ≡ true → ltb b (Parameters.blocks P q.control.setting) ≡ true
        in-range b bk = sym (ap (ltb b) (same_blocks q.control.setting)) ∙ bk

    pub through_carried : (s z : State P) (q : PlainList P) (t : Tables P) → Through P L s z q t
        → Through (grown P G) M (grown_state P G s) (grown_state P G z) (grown_plain P G q) (grown_tables q.control t)
    through_carried s z q t (it-runs r d ms mz) = it-runs (ready-grown P L G E M s z q r) d (at s r.store_beside.same-control ms) (at z r.rules-beside.same-control mz)
      where
        at : (y : State P) → y.control ≡ q.control → Stamped P q.control y.stamp → Stamped (grown P G) (grown_control P G q.control) (grown_state P G y).stamp
        at y e h = subst (λ (w : State (grown P G)). Stamped (grown P G) (grown_control P G q.control) w.stamp) (sym (now-is q.control y e)) (still-stamped q.control y.stamp h)
    through_carried s z q t (it-rests r) = it-rests (subst (λ (w : State (grown P G)). Rested (grown P G) M w (grown_state P G z) (grown_plain P G q) (grown_tables q.control t))
        (sym (now-is q.control s r.store-control))
        (subst (λ (w : State (grown P G)). Rested (grown P G) M (now q.control s) w (grown_plain P G q) (grown_tables q.control t)) (sym (now-is q.control z r.rules-control))
        (rested-carried s z q t r)))
