-- Demand 3, the proof: the whole list of calls, from any state that has the invariant and from a start. Assumes nothing.
use Prim.Native.Nat.{suc, zero, ℕ}
use mathlib.Core.Bool.{Bool, cond, false, true}
use mathlib.Core.List.{List, [], ◌∷◌}
use mathlib.Core.Option.{some}
use mathlib.Core.Path.{◌∙◌, ◌≡◌, ap, ap₂, refl, subst}
use native.Mathlib.Omega.{arith}
use Rattle.method.specs.Changes.{Control, started_by}
use Rattle.method.specs.OneRecordList.{Noise, Observation, OneRecordList, calls_of, disturb, is_last, is_zero, observe}
use Rattle.method.specs.OneRecordList.{plain_observe, run_plain, run_store, settle_accepted, zeroed}
use Rattle.method.specs.Parameters.{Parameters}
use Rattle.method.specs.PlainList.{PlainList, no_blocks, plain_next, plain_start}
use Rattle.method.specs.Rules.{Call, Plan, State, View, act, answer_of, apply, guarded, look, next_state, ok, plan}
use Rattle.method.specs.Rules.{refusal, settle, start}
use Rattle.method.proofs.Calls.Agreement.{Agrees, accepted}
use Rattle.method.proofs.Calls.Cards.{start-inv}
use Rattle.method.proofs.Calls.Every.{step-any}
use Rattle.method.proofs.Capacity.{ControlInv, control-kept, full_start}
use Rattle.method.proofs.Invariant.{Form, Invariant}
use Rattle.method.proofs.Keeping.{next_view}
use Rattle.method.proofs.Laws.{Laws}
use Rattle.method.proofs.Sight.{look-disturb, look-next, plan-sight}

module _ (P : Parameters) (L : Laws P) where
  open P use {StartArgument, start_refusal, empty}

  -- ---- the run: a store with noise, the rules without, and the plain list
  pub record Beside (s : State P) (k : Control P) (v : View P) : Type 0 where
    pub same-control : s.control ≡ k
    pub same-look : look P s ≡ v

  pub beside-plan : (s : State P) (k : Control P) (v : View P) → Beside s k v → (c : Call P) → plan P c s.control (look P s) ≡ plan P c k v
  beside-plan s k v b c = ap₂ (λ (x : Control P) (y : View P). plan P c x y) b.same-control b.same-look

  pub beside-next : (s : State P) (k : Control P) (v : View P) → Beside s k v → (c : Call P)
      → Beside (next_state P c s) (plan P c k v).after (next_view P L (plan P c k v).after (plan P c k v).write v)
  unfolding next_state
  beside-next s k v b c = record {
    same-control = unfold apply in ap (λ (p : Plan P). p.after) (beside-plan s k v b c);
    same-look = look-next P L (plan P c s.control (look P s)) s (plan-sight P L s.control (look P s) c)
        ∙ ap₂ (λ (p : Plan P) (y : View P). next_view P L p.after p.write y) (beside-plan s k v b c) b.same-look;
  }

  pub beside-disturb : (g : Noise P) (s : State P) (k : Control P) (v : View P) → Form P k → Beside s k v → Beside (disturb P g s) k v
  unfolding disturb
  beside-disturb g s k v f b = record {
    same-control = b.same-control;
    same-look = look-disturb P L g s (rw b.same-control f.base.apart) ∙ b.same-look;
  }

  pub beside-answer : (s : State P) (k : Control P) (v : View P) → Beside s k v → (c : Call P) → answer_of P c s ≡ (plan P c k v).answer
  unfolding answer_of
  beside-answer s k v b c = ap (λ (p : Plan P). p.answer) (beside-plan s k v b c)

  -- ---- a store that was started and has not stopped: beside the rules' own run z and the plain list q
  pub record Ready (s z : State P) (q : PlainList P) : Type 0 where
    pub sees : View P
    pub inv : Invariant P q.control sees q.records
    pub full : ControlInv P L q.control
    pub store_beside : Beside s q.control sees
    pub rules-beside : Beside z q.control sees

  pub record RulesStep (s z : State P) (q : PlainList P) (c : Call P) : Type 0 where
    pub shows : observe P c (answer_of P c s) ≡ plain_observe P c q
    pub goes_on : is_last P (plain_observe P c q) ≡ false → Ready (next_state P c s) (next_state P c z) (plain_next P (settle_accepted P z) c q)

  pub ready-noise : (g : Noise P) (s z : State P) (q : PlainList P) → Ready s z q → Ready (disturb P g s) z q
  ready-noise g s z q r = record {
    sees = r.sees;
    inv = r.inv;
    full = r.full;
    store_beside = beside-disturb g s q.control r.sees r.inv.form
        r.store_beside;
    rules-beside = r.rules-beside;
  }

  pub ready-step : (s z : State P) (q : PlainList P) → Ready s z q → (c : Call P) → RulesStep s z q c
  unfolding settle_accepted
  ready-step s z q r c = record { shows = shown; goes_on = λ e. rw agreed (go e) }
    where
      k : Control P
      k = q.control

      v : View P
      v = r.sees

      good : Agrees P L k v q.records c
      good = step-any P L k v q.records r.inv c

      q' : PlainList P
      q' = plain_next P ((accepted P k v)) c q

      shown : observe P c (answer_of P c s) ≡ plain_observe P c q
      shown = ap (observe P c) (beside-answer s k v r.store_beside c) ∙ good.sight

      agreed : is_zero (refusal P settle z.control (look P z)) ≡ (accepted P k v)
      agreed = ap₂ (λ (a : Control P) (b : View P). is_zero (refusal P settle a b)) r.rules-beside.same-control r.rules-beside.same-look

      move-to : (y : State P) → Beside y (plan P c k v).after (next_view P L (plan P c k v).after (plan P c k v).write v) → (plan P c k v).after ≡ q'.control
          → Beside y q'.control (next_view P L (plan P c k v).after (plan P c k v).write v)
      move-to y b e = record { same-control = b.same-control ∙ e; same-look = b.same-look }

      go : is_last P (plain_observe P c q) ≡ false → Ready (next_state P c s) (next_state P c z) q'
      go e =
          let h = good.goes e in
          record {
            sees = next_view P L (plan P c k v).after (plan P c k v).write v;
            inv = h.1;
            full = subst (λ (x : Control P). ControlInv P L x) h.0 (control-kept P L k v r.inv.form r.full c (ap (is_last P) good.sight ∙ e));
            store_beside = move-to (next_state P c s) (beside-next s k v r.store_beside c) h.0;
            rules-beside = move-to (next_state P c z) (beside-next z k v r.rules-beside c) h.0;
          }

  pub run-same : (l : List (Noise P × Call P)) (s z : State P) (q : PlainList P) → Ready s z q → run_store P l s ≡ run_plain P (calls_of P l) z q
  unfolding run_store run_plain
  run-same [] s z q r = refl
  run-same (e ∷ l) s z q r = go (ready-step (disturb P e.0 s) z q (ready-noise e.0 s z q r) e.1) (run-same l)
    where
      go : RulesStep (disturb P e.0 s) z q e.1 → ((s z : State P) (q : PlainList P) → Ready s z q → run_store P l s ≡ run_plain P (calls_of P l) z q)
          → run_store P (e ∷ l) s ≡ run_plain P (calls_of P (e ∷ l)) z q
      go h ih = rw h.shows (last (is_last P (plain_observe P e.1 q)) refl)
        where
          last : (o : Bool) → is_last P (plain_observe P e.1 q) ≡ o
              → ◌≡◌ {A = List (Observation P)} (plain_observe P e.1 q ∷ cond o [] (run_store P l (next_state P e.1 (disturb P e.0 s))))
              (plain_observe P e.1 q ∷ cond o [] (run_plain P (calls_of P l) (next_state P e.1 z) (plain_next P (settle_accepted P z) e.1 q)))
          last true p = refl
          last false p = ap (λ (t : List (Observation P)). plain_observe P e.1 q ∷ t) (ih (next_state P e.1 (disturb P e.0 s)) (next_state P e.1 z)
              (plain_next P (settle_accepted P z) e.1 q) (h.goes_on p))

  pub accepted-start : (a : StartArgument) (before : State P) → answer_of P (start a) before ≡ ok → start_refusal a ≡ 0
  unfolding answer_of plan refusal act
  accepted-start a before e = go (start_refusal a) refl e
    where
      go : (n : ℕ) → start_refusal a ≡ n → (guarded P n before.control (act P (start a) before.control (look P before))).answer ≡ ok → start_refusal a ≡ 0
      go zero p h = p
      go (suc n) p h = let z : ◌≡◌ {A = ℕ} 0 1 = cc in absurd (omega arith)

  pub next_start : (a : StartArgument) (before : State P) → start_refusal a ≡ 0 → next_state P (start a) before ≡ zeroed P a
  unfolding next_state apply plan refusal act
  next_start a before e = rw e

  zeroed-beside : (a : StartArgument) → Beside (zeroed P a) (started_by P a) (next_view P L (started_by P a) (λ c b. some empty) (no_blocks P))
  unfolding look next_view
  zeroed-beside a = record { same-control = refl; same-look = refl }

  pub ready-start : (a : StartArgument) → start_refusal a ≡ 0 → Ready (zeroed P a) (zeroed P a) (plain_start P a)
  ready-start a e = record {
    sees = next_view P L (started_by P a) (λ c b. some empty) (no_blocks P);
    inv = start-inv P L (no_blocks P) a e;
    full = full_start P L a e;
    store_beside = zeroed-beside a;
    rules-beside = zeroed-beside a;
  }

  -- ---- DEMAND 3
  pub one-record-list : OneRecordList P
  unfolding OneRecordList
  one-record-list a before e l =
      let h : start_refusal a ≡ 0 = accepted-start a before e in
      rw (next_start a before h) (run-same l (zeroed P a) (zeroed P a) (plain_start P a) (ready-start a h))
