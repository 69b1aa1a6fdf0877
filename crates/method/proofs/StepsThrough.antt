-- The calls of a list that goes on behind stops. A store runs beside the plain record list, or it rests beside it; every call keeps one of the
-- two, and shows what the plain record list shows. Assumes nothing.
use Prim.Native.Nat.{suc, zero, ℕ}
use borrow.Author.Tests.{lt-ltb}
use lib.Dec.{ltb}
use mathlib.Core.Bool.{Bool, ◌&&◌, cond, false, not, true}
use mathlib.Core.List.{[], ◌∷◌}
use mathlib.Core.Logic.{◌⊎◌, inl, inr}
use mathlib.Core.Option.{Option, some}
use mathlib.Core.Path.{◌∙◌, ◌≡◌, ap, ap₂, refl, subst, sym}
use Rattle.lists.proofs.Bools.{and_l, and_r, split, tf}
use Rattle.method.specs.Changes.{Control, marked}
use Rattle.method.specs.OneRecordList.{Noise, Observation, disturb, failing, is_last, observe, plain_observe, quiet, settle_accepted, zeroed}
use Rattle.method.specs.Parameters.{Parameters}
use Rattle.method.specs.PlainList.{PlainList, plain_act, plain_next, plain_refusal, plain_start, stops_now, with_control}
use Rattle.method.specs.Rules.{Answer, Call, Plan, State, act, answer_of, apply, fail, fail_plan, guarded, is_start, look, next_state, out_of_range}
use Rattle.method.specs.Rules.{plan, refusal, refused, row, start, stop_plan, stopping, stops, unless_refused, unwritten}
use Rattle.method.specs.ThroughStops.{Step, Tables, after_step, call, counts, fail_card}
use Rattle.method.specs.ThroughStops.{marked_only, observed, plain_call, plain_observed, plain_step, recorded}
use Rattle.method.specs.ThroughStops.{rolled_back, stopped_observe}
use Rattle.method.proofs.CallKinds.{Plainly, answer-by, by_kind, next-by, refused-answer, refused-next, shut-number, shut-refusal, shut_row}
use Rattle.method.proofs.Calls.Fail.{refusal-on}
use Rattle.method.proofs.Laws.{Laws}
use Rattle.method.proofs.RestingSteps.{Rested, recorded-same, rested-marked, rested-noise}
use Rattle.method.proofs.RestingSteps.{rested-stopped}
use Rattle.method.proofs.Run.{Beside, Ready, beside-answer, beside-plan, next_start, ready-noise, ready-start, ready-step}
use Rattle.method.proofs.Stamps.{Stamped, stamped-next, stamped-start}
use Rattle.method.proofs.StopRule.{stop-same}
use Rattle.method.proofs.Tidy.{TidyList, tidy-next}

module _ (P : Parameters) (L : Laws P) where
  open P use {StartArgument, cards, has, mask, marks_while_stopped, start_refusal}
  open L use {has-card}

  -- a store s with noise, the rules' own run z, the plain list q, and the recorded tables t: it runs, or it rests
  pub data Through (s z : State P) (q : PlainList P) (t : Tables P) : Type 0 where
    it-runs : Ready P L s z q → TidyList P L q → Stamped P q.control s.stamp → Stamped P q.control z.stamp → Through s z q t
    it-rests : Rested P L s z q t → Through s z q t

  -- a store that runs needs no record of failures
  pub through-ready : (s z : State P) (q : PlainList P) (t : Tables P) → Ready P L s z q → TidyList P L q → Stamped P q.control s.stamp → Stamped P q.control z.stamp
      → Through s z q t
  through-ready s z q t = it-runs

  pub through-start : (a : StartArgument) → start_refusal a ≡ 0 → (t : Tables P) → Through (zeroed P a) (zeroed P a) (plain_start P a) t
  through-start a e t = it-runs (ready-start P L a e) (λ r. inl (refl, refl)) (stamped-start P L a) (stamped-start P L a)

  pub through-noise : (g : Noise P) (s z : State P) (q : PlainList P) (t : Tables P) → Through s z q t → Through (disturb P g s) z q t
  through-noise g s z q t (it-runs r d ms mz) = it-runs (ready-noise P L g s z q r) d (λ x n. unfold disturb in rw (quiet x n) (ms x n)) mz
    where
      quiet : (x : ℕ) → has (mask q.control.newest) x ≡ true → has s.control.failed x ≡ false
      quiet x n = ap (λ (k : Control P). has k.failed x) r.store_beside.same-control ∙ r.inv.form.base.apart x (r.inv.form.new_works x n)
  through-noise g s z q t (it-rests r) = it-rests (rested-noise P L g s z q t r)

  -- where no card fails nothing is recorded
  pub recorded-self : (s : State P) (t : Tables P) → recorded P s s t ≡ t
  recorded-self s t = recorded-same P L s s t (λ x. go (has s.control.failed x))
    where
      go : (b : Bool) → (b && not b) ≡ false
      go true = refl
      go false = refl

  -- ---- what a step shows and leaves
  pub data Goes (s z : State P) (q : PlainList P) (t : Tables P) (e : Step P) : Type 0 where
    counted : counts P e s ≡ true → observed P e s ≡ plain_observed P e q
        → Through (after_step P e s) (after_step P e z) (plain_step P (settle_accepted P z) e q) (recorded P s (after_step P e s) t) → Goes s z q t e
    passed : counts P e s ≡ false → observed P e s ≡ [] → Through (after_step P e s) z q (recorded P s (after_step P e s) t) → Goes s z q t e

  -- a call, by what it leaves
  abbrev pub CallGoes : State P → State P → PlainList P → Tables P → Call P → Type 0
  CallGoes s z q t c = (observe P c (answer_of P c s) ≡ cond q.control.stopped (stopped_observe P (fail_card P c) c q.control) (plain_observe P c q))
      × Through (next_state P c s) (next_state P c z) (plain_call P (settle_accepted P z) c q) (recorded P s (next_state P c s) t)

  pub call-goes : (s z : State P) (q : PlainList P) (t : Tables P) (c : Call P) → CallGoes s z q t c → Goes s z q t (call c)
  unfolding observed plain_observed after_step plain_step
  call-goes s z q t c (e, h) = counted refl (ap (λ (x : Observation P). x ∷ []) e) h

  -- what is left, given as other names for it
  leaves : (s z s' z' : State P) (q q' : PlainList P) (t : Tables P) (c : Call P) → next_state P c s ≡ s' → next_state P c z ≡ z' → plain_call P (settle_accepted P z) c q ≡ q'
      → Through s' z' q' (recorded P s s' t) → Through (next_state P c s) (next_state P c z) (plain_call P (settle_accepted P z) c q) (recorded P s (next_state P c s) t)
  leaves s z s' z' q q' t c es ez eq h = rw (es, ez, eq) h

  -- ---- a step of a running store
  module _ (s z : State P) (q : PlainList P) (t : Tables P) (r : Ready P L s z q) (d : TidyList P L q) (ms : Stamped P q.control s.stamp) (mz : Stamped P q.control z.stamp) where
    running : q.control.stopped ≡ false
    running = r.inv.form.base.running

    run-shows : (c : Call P) → observe P c (answer_of P c s) ≡ cond q.control.stopped (stopped_observe P (fail_card P c) c q.control) (plain_observe P c q)
    run-shows c = (ready-step P L s z q r c).shows ∙ sym (ap (λ (b : Bool). cond b (stopped_observe P (fail_card P c) c q.control) (plain_observe P c q)) running)

    run-plain : (c : Call P) (b : Bool) → is_last P (plain_observe P c q) ≡ b
        → plain_call P (settle_accepted P z) c q ≡ cond b (rolled_back P q (fail_card P c)) (plain_next P (settle_accepted P z) c q)
    unfolding plain_call
    run-plain c b e =
        ap (λ (y : Bool). cond y (cond (is_start c) (plain_next P (settle_accepted P z) c q) (marked_only P q (fail_card P c)))
        (cond (is_last P (plain_observe P c q)) (rolled_back P q (fail_card P c)) (plain_next P (settle_accepted P z) c q))) running
        ∙ ap (λ (y : Bool). cond y (rolled_back P q (fail_card P c)) (plain_next P (settle_accepted P z) c q)) e

    -- it goes on
    not_last : (c : Call P) → is_last P (plain_observe P c q) ≡ false → is_last P (observe P c (plan P c q.control r.sees).answer) ≡ false
    not_last c e = ap (λ (x : Answer P). is_last P (observe P c x)) (sym (beside-answer P L s q.control r.sees r.store_beside c))
        ∙ ap (is_last P) (ready-step P L s z q r c).shows ∙ e

    next-stamps : (y : State P) → Beside P L y q.control r.sees → Stamped P q.control y.stamp → (c : Call P) → is_last P (plain_observe P c q) ≡ false
        → Stamped P (next_state P c y).control (next_state P c y).stamp
    next-stamps y b m c e = subst (λ (w : State P). Stamped P w.control w.stamp)
        (sym (next-by P c y (plan P c q.control r.sees) (beside-plan P L y q.control r.sees b c)))
        (unfold apply in (stamped-next P L q.control r.sees y.stamp r.inv.form m c (not_last c e)))

    run_on : (c : Call P) → is_last P (plain_observe P c q) ≡ false → CallGoes s z q t c
    run_on c e = (
      run-shows c,
      leaves s z (next_state P c s) (next_state P c z) q q' t c refl refl (run-plain c false e) (it-runs h (tidy-next P L (settle_accepted P z) c q d)
          (subst (λ (k : Control P). Stamped P k (next_state P c s).stamp) h.store_beside.same-control (next-stamps s r.store_beside ms c e))
          (subst (λ (k : Control P). Stamped P k (next_state P c z).stamp) h.rules-beside.same-control (next-stamps z r.rules-beside mz c e))),
    )
      where
        q' : PlainList P
        q' = plain_next P (settle_accepted P z) c q

        h : Ready P L (next_state P c s) (next_state P c z) (plain_next P (settle_accepted P z) c q)
        h = (ready-step P L s z q r c).goes_on e

    -- it stops
    stop-plan : (x : ℕ) → (has q.control.working x && stops_now P q.control x) ≡ true → plan P (fail x) q.control r.sees ≡ stop_plan P q.control r.sees x
    unfolding plan act
    stop-plan x e =
        let k : Control P = q.control in
        let on : has k.working x ≡ true = and_l (has k.working x) (stops_now P k x) e in
        let st : stopping P k x ≡ true = sym (stop-same P L k x (lt-ltb x cards (has-card k.working x on))) ∙ and_r (has k.working x) (stops_now P k x) e in
        ap (λ (n : ℕ). guarded P n k (act P (fail x) k r.sees)) (refusal-on P L k r.sees q.records r.inv x on)
        ∙ ap₂ (λ (b d : Bool). cond b (unwritten P stops (marked P k x)) (cond d (stop_plan P k r.sees x) (fail_plan P k r.sees x))) running st

    run-stops : (x : ℕ) → is_last P (plain_observe P (fail x) q) ≡ true → CallGoes s z q t (fail x)
    unfolding plain_observe
    run-stops x e = (
      run-shows (fail x),
      leaves s z (apply P p s) (apply P p z) q (rolled_back P q (some x)) t (fail x)
          (next-by P (fail x) s p (beside-plan P L s q.control r.sees r.store_beside (fail x) ∙ stop-plan x e))
          (next-by P (fail x) z p (beside-plan P L z q.control r.sees r.rules-beside (fail x) ∙ stop-plan x e))
          (run-plain (fail x) true e)
          (it-rests (rested-stopped P L s z q t r d ms mz x (and_l (has q.control.working x) (stops_now P q.control x) e))),
    )
      where
        p : Plan P
        p = stop_plan P q.control r.sees x

    pub run_call : (c : Call P) → CallGoes s z q t c
    run_call c = go (split (is_last P (plain_observe P c q)))
      where
        go : (is_last P (plain_observe P c q) ≡ true) ⊎ (is_last P (plain_observe P c q) ≡ false) → CallGoes s z q t c
        go (inl e) = by_kind P (λ c. is_last P (plain_observe P c q) ≡ true → CallGoes s z q t c) (λ a h. tf false (unfold plain_observe in h) refl) run-stops
            (λ c p h. tf (is_last P (plain_observe P c q)) h (p.no_stop q)) c e
        go (inr e) = run_on c e

  -- ---- a step that changes nothing
  still : (s z : State P) (q : PlainList P) (t : Tables P) → Through s z q t → (c : Call P) → next_state P c s ≡ s → next_state P c z ≡ z → plain_call P (settle_accepted P z) c q ≡ q
      → Through (next_state P c s) (next_state P c z) (plain_call P (settle_accepted P z) c q) (recorded P s (next_state P c s) t)
  still s z q t h c es ez eq = leaves s z s z q q t c es ez eq (subst (Through s z q) (sym (recorded-self s t)) h)

  -- ---- a step of a stopped store
  module _ (marks : marks_while_stopped ≡ true) (s z : State P) (q : PlainList P) (t : Tables P) (r : Rested P L s z q t) where
    abbrev k : Control P
    k = q.control

    stopped : k.stopped ≡ true
    stopped = r.halt.rests.stays

    stopped-at : (y : State P) → y.control ≡ k → y.control.stopped ≡ true
    stopped-at y e = ap (λ (j : Control P). j.stopped) e ∙ stopped

    rest_plain : (c : Call P) → plain_call P (settle_accepted P z) c q ≡ cond (is_start c) (plain_next P (settle_accepted P z) c q) (marked_only P q (fail_card P c))
    unfolding plain_call
    rest_plain c = ap (λ (y : Bool). cond y (cond (is_start c) (plain_next P (settle_accepted P z) c q) (marked_only P q (fail_card P c)))
        (cond (is_last P (plain_observe P c q)) (rolled_back P q (fail_card P c)) (plain_next P (settle_accepted P z) c q))) stopped

    rest-shows : (c : Call P) (o : Observation P) → observe P c (answer_of P c s) ≡ o → stopped_observe P (fail_card P c) c k ≡ o
        → observe P c (answer_of P c s) ≡ cond k.stopped (stopped_observe P (fail_card P c) c k) (plain_observe P c q)
    rest-shows c o e f = e ∙ sym f ∙ sym (ap (λ (b : Bool). cond b (stopped_observe P (fail_card P c) c k) (plain_observe P c q)) stopped)

    -- all but start and fail are refused
    module _ (c : Call P) (p : Plainly P c) where
      shut_at : (y : State P) → y.control ≡ k → refusal P c y.control (look P y) ≡ suc (shut-number P (out_of_range P c k))
      shut_at y e = shut-refusal P c p y.control (look P y) (stopped-at y e) ∙ ap (λ (j : Control P). row 3 (out_of_range P c j) 4) e ∙ shut_row P (out_of_range P c k)

      rest-other : CallGoes s z q t c
      rest-other = (
        rest-shows c (observe P c (refused (row 3 (out_of_range P c k) 4)))
            (ap (observe P c) (refused-answer P c s (shut-number P (out_of_range P c k)) (shut_at s r.store-control) ∙ ap refused (sym (shut_row P (out_of_range P c k)))))
            (ap (λ (o : Option ℕ). stopped_observe P o c k) p.no-fail),
        still s z q t (it-rests r) c (refused-next P c s (shut-number P (out_of_range P c k)) (shut_at s r.store-control))
            (refused-next P c z (shut-number P (out_of_range P c k)) (shut_at z r.rules-control))
            (rest_plain c ∙ ap₂ (λ (b : Bool) (o : Option ℕ). cond b (plain_next P (settle_accepted P z) c q) (marked_only P q o)) p.no_start p.no-fail),
      )

    -- a start is as ever
    rest-start : (a : StartArgument) → CallGoes s z q t (start a)
    rest-start a = (rest-shows (start a) quiet refl refl, go (start_refusal a) refl)
      where
        refusal_is : (y : State P) → refusal P (start a) y.control (look P y) ≡ start_refusal a
        refusal_is y = unfold refusal in refl

        plain-is : (n : ℕ) → start_refusal a ≡ n → plain_call P (settle_accepted P z) (start a) q ≡ unless_refused n q (plain_start P a)
        plain-is n e = rest_plain (start a) ∙ (unfold plain_next plain_refusal plain_act refusal in ap (λ (i : ℕ). unless_refused i q (plain_start P a)) e)

        go : (n : ℕ) → start_refusal a ≡ n
            → Through (next_state P (start a) s) (next_state P (start a) z) (plain_call P (settle_accepted P z) (start a) q) (recorded P s (next_state P (start a) s) t)
        go zero e = leaves s z (zeroed P a) (zeroed P a) q (plain_start P a) t (start a) (next_start P L a s e) (next_start P L a z e) (plain-is 0 e)
            (through-start a e (recorded P s (zeroed P a) t))
        go (suc n) e = still s z q t (it-rests r) (start a) (refused-next P (start a) s n (refusal_is s ∙ e)) (refused-next P (start a) z n (refusal_is z ∙ e)) (plain-is (suc n) e)

    -- a fail marks a card that works
    fail-refusal : (x : ℕ) (y : State P) → y.control ≡ k → refusal P (fail x) y.control (look P y) ≡ row 3 (not (ltb x cards)) (row 8 (not (has k.working x)) 0)
    unfolding refusal
    fail-refusal x y e = ap (λ (b : Bool). row 3 (not (ltb x cards)) (row 4 b (row 8 (not (has y.control.working x)) 0))) (ap₂ (λ (a b : Bool). a && not b) (stopped-at y e) marks)
        ∙ ap (λ (j : Control P). row 3 (not (ltb x cards)) (row 8 (not (has j.working x)) 0)) e

    mark-plan : (x : ℕ) → has k.working x ≡ true → (y : State P) → y.control ≡ k → plan P (fail x) y.control (look P y) ≡ unwritten P stops (marked P k x)
    unfolding plan act
    mark-plan x on y e =
        let accepted : row 3 (not (ltb x cards)) (row 8 (not (has k.working x)) 0) ≡ 0 = rw (lt-ltb x cards (has-card k.working x on), on) in
        ap (λ (n : ℕ). guarded P n y.control (act P (fail x) y.control (look P y))) (fail-refusal x y e ∙ accepted)
        ∙ ap (λ (b : Bool). cond b (unwritten P stops (marked P y.control x))
        (cond (stopping P y.control x) (stop_plan P y.control (look P y) x) (fail_plan P y.control (look P y) x))) (stopped-at y e)
        ∙ ap (λ (j : Control P). unwritten P stops (marked P j x)) e

    rest-fail : (x : ℕ) → (has k.working x ≡ true) ⊎ (has k.working x ≡ false) → CallGoes s z q t (fail x)
    rest-fail x (inl on) = (
      rest-shows (fail x) (failing true) (ap (observe P (fail x)) (answer-by P (fail x) s p (mark-plan x on s r.store-control))) (ap failing on),
      leaves s z (apply P p s) (apply P p z) q (with_control P q (marked P k x)) t (fail x) (next-by P (fail x) s p (mark-plan x on s r.store-control))
          (next-by P (fail x) z p (mark-plan x on z r.rules-control)) (rest_plain (fail x) ∙ ap (λ (b : Bool). cond b (with_control P q (marked P k x)) q) on)
          (it-rests (rested-marked P L s z q t r x on)),
    )
      where
        p : Plan P
        p = unwritten P stops (marked P k x)
    rest-fail x (inr off) = (
      rest-shows (fail x) (failing false) (ap (observe P (fail x)) (refused-answer P (fail x) s n (refusal_is s r.store-control))) (ap failing off),
      still s z q t (it-rests r) (fail x) (refused-next P (fail x) s n (refusal_is s r.store-control)) (refused-next P (fail x) z n (refusal_is z r.rules-control))
          (rest_plain (fail x) ∙ ap (λ (b : Bool). cond b (with_control P q (marked P k x)) q) off),
    )
      where
        number : Bool → ℕ
        number true = 7
        number false = 2

        n : ℕ
        n = number (ltb x cards)

        refusal_is : (y : State P) → y.control ≡ k → refusal P (fail x) y.control (look P y) ≡ suc n
        refusal_is y e = fail-refusal x y e ∙ ap (λ (b : Bool). row 3 (not (ltb x cards)) (row 8 (not b) 0)) off ∙ go (ltb x cards)
          where
            go : (b : Bool) → row 3 (not b) 8 ≡ suc (number b)
            go true = refl
            go false = refl

    pub rest-call : (c : Call P) → CallGoes s z q t c
    rest-call = by_kind P (CallGoes s z q t) rest-start (λ x. rest-fail x (split (has k.working x))) rest-other
