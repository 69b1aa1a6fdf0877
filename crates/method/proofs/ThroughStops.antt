-- Demand 3 through stops, the proof: the return of a card beside the calls, and the whole list. A return that the store takes the run without
-- noise takes too, since it has the newest placement's stamp there; with the bytes of its failing both come to the same tables. A refused
-- return changes nothing. Assumes nothing.
use Prim.Native.Nat.{suc, zero, ℕ}
use lib.Dec.{ltb}
use mathlib.Core.Bool.{Bool, cond, false, not, true}
use mathlib.Core.List.{List, [], ◌++◌, ◌∷◌}
use mathlib.Core.Logic.{◌⊎◌, inl, inr}
use mathlib.Core.Path.{◌∙◌, ◌≡◌, ap, ap₂, fun_ext, refl, subst, sym}
use Rattle.lists.proofs.Bools.{and_l, and_r}
use Rattle.method.specs.Changes.{Control}
use Rattle.method.specs.OneRecordList.{Noise, Observation, disturb, is_zero, settle_accepted, zeroed}
use Rattle.method.specs.Parameters.{Parameters}
use Rattle.method.specs.PlainList.{PlainList, plain_start, with_control}
use Rattle.method.specs.Returning.{admitted, after_return, can_run, rejoined, return_plan, return_refusal}
use Rattle.method.specs.Rules.{State, apply, look, next_state, start, visible}
use Rattle.method.specs.ThroughStops.{AsRecorded, Intact, OneRecordListThroughStops, Step, Tables, after_step, call, counts, next_by, observed}
use Rattle.method.specs.ThroughStops.{plain_observed, plain_step, plain_through, recorded, recorded_by, return, rules_through, run_plain_through}
use Rattle.method.specs.ThroughStops.{run_through, state_through, steps_taken, tables_through, takes}
use Rattle.method.proofs.Laws.{Laws}
use Rattle.method.proofs.RestingSteps.{Rested, back, back-recorded, back-same, back-stamps, rested-returned, rules-back}
use Rattle.method.proofs.Returning.{Taken, admitted_as, full-again, newest-works, return_refused, return-taken, running-refusal}
use Rattle.method.proofs.Returning.{shown-taken, taken-shows}
use Rattle.method.proofs.Run.{Ready, accepted-start, next_start}
use Rattle.method.proofs.RunsAgain.{runs-again}
use Rattle.method.proofs.StepsThrough.{Goes, Through, call-goes, counted, it-rests, it-runs, passed, recorded-self, rest-call, run_call}
use Rattle.method.proofs.StepsThrough.{through-noise, through-start}

module _ (P : Parameters) (L : Laws P) where
  open P use {blocks, empty, has, insert, marks_while_stopped, mask, same_stamp, stamp_of}
  open L use {same_refl}

  -- ---- a refused return
  pass-return : (s z : State P) (q : PlainList P) (t : Tables P) → Through P L s z q t → (c n : ℕ) → return_refusal P s.control s.stamp c ≡ suc n → Goes P L s z q t (return c)
  unfolding observed after_step takes
  pass-return s z q t h c n e = passed (ap is_zero e) refl
      (rw (return_refused P c s n e) (subst (Through P L s z q) (sym (recorded-self P L s t)) h))

  -- ---- a return that is taken
  module _ (s z : State P) (q : PlainList P) (t : Tables P) (r : Rested P L s z q t) (c : ℕ) (e : return_refusal P s.control s.stamp c ≡ 0)
      (intact : ((b : ℕ) → s.block c b ≡ t.block c b) × (s.stamp c ≡ t.stamp c)) where
    shown : Taken P s.control s.stamp c
    shown = taken-shows P s.control s.stamp c e

    down : has q.control.failed c ≡ true
    down = sym (ap (λ (k : Control P). has k.failed c) r.store-control) ∙ shown.was-failed

    named : has (mask q.control.newest) c ≡ true
    named = sym (ap (λ (k : Control P). has (mask k.newest) c) r.store-control) ∙ shown.named

    -- the run without noise takes the card too
    rules-take : return_refusal P z.control z.stamp c ≡ 0
    rules-take = shown-taken P z.control z.stamp c (record {
      is-card = shown.is-card;
      is-stopped = ap (λ (k : Control P). k.stopped) r.rules-control ∙ r.halt.rests.stays;
      was-failed = ap (λ (k : Control P). has k.failed c) r.rules-control ∙ down;
      same-stamp = ap₂ same_stamp (r.rules-stamps c named) (ap stamp_of r.rules-control) ∙ same_refl (stamp_of q.control);
      named = ap (λ (k : Control P). has (mask k.newest) c) r.rules-control ∙ named;
    })

    -- both come to the same control part
    abbrev bit : Bool
    bit = not (can_run P (admitted P q.control c))

    abbrev after : Bool → State P → State P
    after = back P L s z q t r c shown.is-card down named intact.0 intact.1

    comes : (y : State P) → y.control ≡ q.control → return_refusal P y.control y.stamp c ≡ 0 → after_return P c y ≡ after bit y
    comes y p f = return-taken P c y f ∙ (unfold apply in ap (λ (k : Control P). apply P (return_plan P k y.block c) y) p)

    -- the store can run
    same_seen : look P (after false s) ≡ look P (after false z)
    unfolding look
    same_seen = fun_ext (λ x. fun_ext (λ b. go x b (visible P (after false s).control x b) refl))
      where
        go : (x b : ℕ) (d : Bool) → visible P (after false s).control x b ≡ d → cond d ((after false s).block x b) empty ≡ cond d ((after false z).block x b) empty
        go x b true o = back-same P L s z q t r c shown.is-card down named intact.0 intact.1 false x b
            (and_l (has (insert q.control.working c) x) (ltb b (blocks q.control.setting)) o)
            (and_r (has (insert q.control.working c) x) (ltb b (blocks q.control.setting)) o)
        go x b false o = refl

    ready-again : can_run P (admitted P q.control c) ≡ true → Ready P L (after false s) (after false z) (with_control P q (admitted_as P L q.control c false))
    ready-again can = record {
      sees = look P (after false z);
      inv = runs-again P L q.control z.block q.records r.halt c shown.is-card down named can z.stamp;
      full = full-again P L q.control r.halt.rests c shown.is-card named;
      store_beside = record { same-control = refl; same-look = same_seen };
      rules-beside = record { same-control = refl; same-look = refl };
    }

    left : (b : Bool) → can_run P (admitted P q.control c) ≡ b → Through P L (after (not b) s) (after (not b) z) (with_control P q (admitted_as P L q.control c (not b))) t
    left true can = it-runs (ready-again can) (λ i. inl (r.halt.free i))
        (λ x n. back-stamps P L s z q t r c shown.is-card down named intact.0 intact.1 false x (newest-works P L q.control r.halt.rests c shown.is-card named can x n) n)
        (rules-back P L s z q t r c shown.is-card down named intact.0 intact.1 false)
    left false can = it-rests (rested-returned P L s z q t r c shown.is-card down named intact.0 intact.1)

    take-return : Goes P L s z q t (return c)
    unfolding observed plain_observed after_step takes plain_step
    take-return = counted (ap is_zero e) refl (rw (comes s r.store-control e, comes z r.rules-control rules-take)
        (subst (Through P L (after bit s) (after bit z) (with_control P q (rejoined P q.control c)))
        (sym (back-recorded P L s z q t r c shown.is-card down named intact.0 intact.1 bit)) (left (can_run P (admitted P q.control c)) refl)))

  -- ---- every step
  module _ (marks : marks_while_stopped ≡ true) where
    pub through-step : (s z : State P) (q : PlainList P) (t : Tables P) → Through P L s z q t → (e : Step P) → AsRecorded P e s t → Goes P L s z q t e
    unfolding AsRecorded takes
    through-step s z q t (it-runs r d ms mz) (call c) i = call-goes P L s z q t c (run_call P L s z q t r d ms mz c)
    through-step s z q t (it-rests r) (call c) i = call-goes P L s z q t c (rest-call P L marks s z q t r c)
    through-step s z q t (it-runs r d ms mz) (return c) i =
        go (running-refusal P s.control s.stamp c (ap (λ (k : Control P). k.stopped) r.store_beside.same-control ∙ r.inv.form.base.running))
      where
        go : (return_refusal P s.control s.stamp c ≡ 3) ⊎ (return_refusal P s.control s.stamp c ≡ 8) → Goes P L s z q t (return c)
        go (inl e) = pass-return s z q t (it-runs r d ms mz) c 2 e
        go (inr e) = pass-return s z q t (it-runs r d ms mz) c 7 e
    through-step s z q t (it-rests r) (return c) i = go (return_refusal P s.control s.stamp c) refl
      where
        go : (n : ℕ) → return_refusal P s.control s.stamp c ≡ n → Goes P L s z q t (return c)
        go zero e = take-return s z q t r c e (i (ap is_zero e))
        go (suc n) e = pass-return s z q t (it-rests r) c n e

    -- ---- the whole list
    pub run-through : (l : List (Noise P × Step P)) (s z : State P) (q : PlainList P) (t : Tables P) → Through P L s z q t → Intact P l s t
        → run_through P l s ≡ run_plain_through P (steps_taken P l s) z q
    unfolding run_through run_plain_through steps_taken Intact next_by recorded_by
    run-through [] s z q t h i = refl
    run-through (e ∷ l) s z q t h i = go (through-step s₁ z q t (through-noise P L e.0 s z q t h) e.1 i.0) (run-through l)
      where
        s₁ : State P
        s₁ = disturb P e.0 s

        rest : List (Step P)
        rest = steps_taken P l (after_step P e.1 s₁)

        go : Goes P L s₁ z q t e.1 → ((s z : State P) (q : PlainList P) (t : Tables P) → Through P L s z q t → Intact P l s t → run_through P l s ≡ run_plain_through P (steps_taken P l s) z q)
            → run_through P (e ∷ l) s ≡ run_plain_through P (steps_taken P (e ∷ l) s) z q
        go (counted c o g) ih = ap₂ (λ (x y : List (Observation P)). x ++ y) o
            (ih (after_step P e.1 s₁) (after_step P e.1 z) (plain_step P (settle_accepted P z) e.1 q) (recorded P s₁ (after_step P e.1 s₁) t) g i.1)
            ∙ sym (ap (λ (b : Bool). run_plain_through P (cond b (e.1 ∷ rest) rest) z q) c)
        go (passed c o g) ih = ap₂ (λ (x y : List (Observation P)). x ++ y) o (ih (after_step P e.1 s₁) z q (recorded P s₁ (after_step P e.1 s₁) t) g i.1)
            ∙ sym (ap (λ (b : Bool). run_plain_through P (cond b (e.1 ∷ rest) rest) z q) c)

    -- what it leaves
    pub through-after : (l : List (Noise P × Step P)) (s z : State P) (q : PlainList P) (t : Tables P) → Through P L s z q t → Intact P l s t
        → Through P L (state_through P l s) (rules_through P (steps_taken P l s) z) (plain_through P (steps_taken P l s) z q) (tables_through P l s t)
    unfolding state_through rules_through plain_through tables_through steps_taken Intact next_by recorded_by
    through-after [] s z q t h i = h
    through-after (e ∷ l) s z q t h i = go (through-step s₁ z q t (through-noise P L e.0 s z q t h) e.1 i.0) (through-after l)
      where
        s₁ : State P
        s₁ = disturb P e.0 s

        s₂ : State P
        s₂ = after_step P e.1 s₁

        t₂ : Tables P
        t₂ = recorded P s₁ s₂ t

        rest : List (Step P)
        rest = steps_taken P l s₂

        Left : List (Step P) → Type 0
        Left j = Through P L (state_through P l s₂) (rules_through P j z) (plain_through P j z q) (tables_through P l s₂ t₂)

        go : Goes P L s₁ z q t e.1 → ((s z : State P) (q : PlainList P) (t : Tables P) → Through P L s z q t → Intact P l s t
            → Through P L (state_through P l s) (rules_through P (steps_taken P l s) z) (plain_through P (steps_taken P l s) z q) (tables_through P l s t))
            → Left (cond (counts P e.1 s₁) (e.1 ∷ rest) rest)
        go (counted c o g) ih = subst (λ (b : Bool). Left (cond b (e.1 ∷ rest) rest)) (sym c) (ih s₂ (after_step P e.1 z) (plain_step P (settle_accepted P z) e.1 q) t₂ g i.1)
        go (passed c o g) ih = subst (λ (b : Bool). Left (cond b (e.1 ∷ rest) rest)) (sym c) (ih s₂ z q t₂ g i.1)

    -- DEMAND 3 THROUGH STOPS
    pub one-record-list-through-stops : OneRecordListThroughStops P
    unfolding OneRecordListThroughStops
    one-record-list-through-stops a before e t l i =
        let h = accepted-start P L a before e in
        run-through l (next_state P (start a) before) (zeroed P a) (plain_start P a) t (rw (next_start P L a before h) (through-start P L a h t)) i
