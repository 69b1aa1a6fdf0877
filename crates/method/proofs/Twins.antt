-- Twins agree. In a running store every holder of a block shows the records of the plain list, by the invariant. The fail that stops it ends
-- the open transactions on all holders alike, and a stopped store takes no call but a start and a
-- fail, which only marks its card. Assumes nothing.
use Prim.Native.Nat.{suc, zero, ℕ}
use lib.Dec.{eqb, ltb}
use mathlib.Core.Bool.{Bool, cond, false, not, true}
use mathlib.Core.List.{List, [], ◌∷◌}
use mathlib.Core.Logic.{◌⊎◌, inl, inr}
use mathlib.Core.Option.{none}
use mathlib.Core.Path.{◌∙◌, ◌≡◌, ap, ap₂, refl, subst, sym}
use native.Mathlib.Omega.{arith}
use Rattle.lists.proofs.Bools.{and_l, and_r, not_is, not-not-is, split, tf}
use Rattle.method.specs.Changes.{Control, marked}
use Rattle.method.specs.ControlPart.{halted, is_open}
use Rattle.method.specs.Growth.{Growth, grown, grown_plain, grown_state}
use Rattle.method.specs.OneRecordList.{Noise, disturb, is_last, is_stop, observe, plain_observe, settle_accepted, state_after, zeroed}
use Rattle.method.specs.Parameters.{Parameters}
use Rattle.method.specs.PlainList.{PlainList, plain_next, plain_start}
use Rattle.method.specs.Rules.{Call, Plan, State, View, act, answer_of, apply, begin, commit, delete, drop_held, fail, fail_plan, fit, get}
use Rattle.method.specs.Rules.{guarded, later_rows, load, look, move, next_state, ok, out_of_range, place, placed, plan, refusal, rollback, row}
use Rattle.method.specs.Rules.{settle, start, state, stopping, stop_plan, stops, store, unplaced, unwritten, updated, visible, withdraw}
use Rattle.method.specs.Slots.{Slot, ended}
use Rattle.method.specs.Twins.{Twins, TwinsAgree}
use Rattle.method.proofs.Growth.{GrowthLaws, beside-grown, ready-grown}
use Rattle.method.proofs.Invariant.{Invariant, works-b}
use Rattle.method.proofs.Keeping.{next-seen, next-works, next_view}
use Rattle.method.proofs.Laws.{Laws}
use Rattle.method.proofs.Refusals.{row-clear}
use Rattle.method.proofs.Legal.{Legal, is-resting, is-running, legal-next}
use Rattle.method.proofs.Run.{Ready, RulesStep, accepted-start, next_start, ready-noise, ready-start, ready-step}
use Rattle.method.proofs.Stopped.{apart-still}
use Rattle.method.proofs.Sight.{Seen-before, look-disturb, look-next, plan-sight}

module _ (P : Parameters) (L : Laws P) where
  open P use {StartArgument, block_of, blocks, has, held, mask, place_of, remove, slot, start_refusal, without}
  open L use {has-remove, held-end, rec-at, slot-end}

  -- ---- what can be seen
  -- all holders of a block show the same slots
  abbrev pub Agreeing : View P → Type 0
  Agreeing v = (c d r : ℕ) → held (v c (block_of r)) ≡ true → held (v d (block_of r)) ≡ true
      → slot (v c (block_of r)) (place_of r) ≡ slot (v d (block_of r)) (place_of r)

  agreeing : (k : Control P) (v : View P) (records : ℕ → Slot) → Invariant P k v records → Agreeing v
  agreeing k v records i c d r h j =
      let e = i.each (block_of r) (works-b P L k v records i c (block_of r) h) in
      e.same c r h refl ∙ sym (e.same d r j refl)

  -- every working card is seen with what it holds
  pub twins-seen : (s : State P) → Agreeing (look P s) → Twins P s
  unfolding look
  twins-seen s a c d b i vc vd hc hd i-ok =
      let t = rec-at b i i-ok in
      let r : ℕ = t.0 in
      let e : block_of r ≡ b = t.1 in
      let lc : look P s c b ≡ s.block c b = rw vc in
      let ld : look P s d b ≡ s.block d b = rw vd in
      ap₂ (λ x n. slot x n) (sym lc) refl ∙ ap₂ (λ (m n : ℕ). slot (look P s c m) n) (sym e) (sym t.2)
      ∙ a c d r (ap (λ (m : ℕ). held (look P s c m)) e ∙ ap held lc ∙ hc) (ap (λ (m : ℕ). held (look P s d m)) e ∙ ap held ld ∙ hd)
      ∙ ap₂ (λ (m n : ℕ). slot (look P s d m) n) e t.2 ∙ ap₂ (λ x n. slot x n) ld refl

  -- transactions dropped on all cards but one, which is not seen any more
  module _ (k : Control P) (f : ℕ → Bool) (out : ℕ) (v : View P) (gone : (c b : ℕ) → visible P k c b ≡ true → eqb c out ≡ false) where
    v' : View P
    v' = next_view P L k (drop_held P f out v) v

    dropped : (c b : ℕ) → held (v' c b) ≡ true → (held (v c b) ≡ true) × ((r : ℕ) → slot (v' c b) (place_of r) ≡ ended false f (slot (v c b) (place_of r)))
    unfolding v' drop_held
    dropped c b h = go (split (held (v c b)))
      where
        n : eqb c out ≡ false
        n = gone c b (next-works P L k (drop_held P f out v) v c b h)

        is : v' c b ≡ updated (drop_held P f out v c b) (v c b)
        is = next-seen P L k (drop_held P f out v) v c b (next-works P L k (drop_held P f out v) v c b h)

        go : (held (v c b) ≡ true) ⊎ (held (v c b) ≡ false) → (held (v c b) ≡ true) × ((r : ℕ) → slot (v' c b) (place_of r) ≡ ended false f (slot (v c b) (place_of r)))
        go (inl e) = (e, λ r. ap (λ x. slot x (place_of r)) is ∙ rw (e, n) (slot-end false f (v c b) r))
        go (inr e) = tf (held (v' c b)) h (ap held is ∙ rw e e)

    drop-agreeing : Agreeing v → Agreeing (next_view P L k (drop_held P f out v) v)
    unfolding v'
    drop-agreeing a c d r h j =
        let x = dropped c (block_of r) h in
        let y = dropped d (block_of r) j in
        x.1 r ∙ ap (ended false f) (a c d r x.0 y.0) ∙ sym (y.1 r)

  -- ---- a store after a start: it runs beside a plain record list, or it has stopped and its holders show the same
  pub record Stopped (s : State P) : Type 0 where
    pub stays : s.control.stopped ≡ true
    pub apart : (c : ℕ) → has s.control.working c ≡ true → has s.control.failed c ≡ false
    pub alike : Agreeing (look P s)

  pub data Agreed (s : State P) : Type 0 where
    in-run : (z : State P) (q : PlainList P) → Ready P L s z q → Agreed s
    at_rest : Stopped s → Agreed s

  pub agreed-look : (s : State P) → Agreed s → Agreeing (look P s)
  agreed-look s (in-run z q r) = subst Agreeing (sym r.store_beside.same-look) (agreeing q.control r.sees q.records r.inv)
  agreed-look s (at_rest t) = t.alike

  -- ---- noise on failed cards is not seen
  pub agreed-noise : (g : Noise P) (s : State P) → Agreed s → Agreed (disturb P g s)
  agreed-noise g s (in-run z q r) = in-run z q (ready-noise P L g s z q r)
  agreed-noise g s (at_rest t) = at_rest (record {
    stays = unfold disturb in t.stays;
    apart = unfold disturb in t.apart;
    alike = subst Agreeing (sym (look-disturb P L g s t.apart)) t.alike;
  })

  -- ---- the fail that stops the store
  legal-apart : (k : Control P) → Legal P L k → (c : ℕ) → has k.working c ≡ true → has k.failed c ≡ false
  legal-apart k (is-running f u) = f.base.apart
  legal-apart k (is-resting t) = t.apart

  module _ (s : State P) (good : Legal P L s.control) (alike : Agreeing (look P s)) (x : ℕ) where
    -- what it leaves of the control part, and the whole plan
    abbrev halt : Control P
    halt = halted (marked P s.control x)

    abbrev halting : Plan P
    halting = stop_plan P s.control (look P s) x

    gone : (c b : ℕ) → visible P halt c b ≡ true → eqb c x ≡ false
    gone c b e =
        let w : has (remove s.control.working x) c ≡ true = and_l (has (remove s.control.working x) c) (ltb b (blocks s.control.setting)) e in
        not_is (eqb c x) (and_r (has s.control.working c) (not (eqb c x)) (sym (has-remove s.control.working x c) ∙ w))

    halting-plan : s.control.stopped ≡ false → is_stop P (plan P (fail x) s.control (look P s)).answer ≡ true → plan P (fail x) s.control (look P s) ≡ halting
    unfolding plan act
    halting-plan run = go (refusal P (fail x) s.control (look P s))
      where
        other : (b : Bool) → is_stop P (cond b (placed (mask (without s.control.newest x))) unplaced) ≡ false
        other true = refl
        other false = refl

        planned : Bool → Bool → Plan P
        planned t b = cond t (unwritten P stops (marked P s.control x)) (cond b halting (fail_plan P s.control (look P s) x))

        either : (t b : Bool) → t ≡ false → is_stop P (planned t b).answer ≡ true → planned t b ≡ halting
        either true b z e = tf true refl z
        either false true z e = refl
        either false false z e = tf (is_stop P (fail_plan P s.control (look P s) x).answer) e (other (has (mask s.control.newest) x))

        go : (n : ℕ) → is_stop P (guarded P n s.control (act P (fail x) s.control (look P s))).answer ≡ true
            → guarded P n s.control (act P (fail x) s.control (look P s)) ≡ halting
        go zero e = either s.control.stopped (stopping P s.control x) run e
        go (suc n) e = tf false e refl

    legal-plan : Legal P L (plan P (fail x) s.control (look P s)).after
    unfolding plan
    legal-plan = go (refusal P (fail x) s.control (look P s)) refl
      where
        go : (n : ℕ) → refusal P (fail x) s.control (look P s) ≡ n → Legal P L (guarded P n s.control (act P (fail x) s.control (look P s))).after
        go zero e = legal-next P L s.control good (fail x) (look P s) e
        go (suc n) e = good

    stopped_by : s.control.stopped ≡ false → is_stop P (answer_of P (fail x) s) ≡ true → Stopped (next_state P (fail x) s)
    unfolding answer_of next_state apply
    stopped_by run e =
        let p : plan P (fail x) s.control (look P s) ≡ halting = halting-plan run e in
        subst (λ (y : Plan P). Stopped (apply P y s)) (sym p) (record {
          stays = refl;
          apart = legal-apart halt (subst (λ (y : Plan P). Legal P L y.after) p legal-plan);
          alike = subst Agreeing (sym (look-next P L halting s (subst (Seen-before P L s.control) p (plan-sight P L s.control (look P s) (fail x)))))
              (drop-agreeing halt (is_open s.control) x (look P s) gone alike);
        })

  -- ---- a call
  -- none but a fail stops the store
  stop-call : (c : Call P) (s : State P) → Legal P L s.control → s.control.stopped ≡ false → Agreeing (look P s) → is_last P (observe P c (answer_of P c s)) ≡ true → Stopped (next_state P c s)
  stop-call (fail x) s good run alike e = stopped_by s good alike x run e
  stop-call (start a) s good run alike e = tf false e refl
  stop-call (begin t h) s good run alike e = tf false e refl
  stop-call (get t r) s good run alike e = tf false e refl
  stop-call (store t r n) s good run alike e = tf false e refl
  stop-call (delete t r) s good run alike e = tf false e refl
  stop-call (commit t) s good run alike e = tf false e refl
  stop-call (rollback t) s good run alike e = tf false e refl
  stop-call (fit c) s good run alike e = tf false e refl
  stop-call (withdraw c) s good run alike e = tf false e refl
  stop-call (place a) s good run alike e = tf false e refl
  stop-call (move c b) s good run alike e = tf false e refl
  stop-call settle s good run alike e = tf false e refl
  stop-call state s good run alike e = tf false e refl
  stop-call (load c) s good run alike e = tf false e refl

  -- a stopped store refuses every call but start and fail
  not_taken : (b stopped : Bool) (rest : ℕ) → stopped ≡ true → row 3 b (row 4 stopped rest) ≡ 0 → ⊥
  not_taken true stopped rest t e = absurd (omega arith)
  not_taken false true rest t e = absurd (omega arith)
  not_taken false false rest t e = tf false t refl

  -- a fail marks a card: what the others hold is seen as before
  mark-agreeing : (k : Control P) (v : View P) → Agreeing v → Agreeing (next_view P L k (λ c b. none) v)
  mark-agreeing k v a c d r h j =
      let x = next-seen P L k (λ c b. none) v c (block_of r) (next-works P L k (λ c b. none) v c (block_of r) h) in
      let y = next-seen P L k (λ c b. none) v d (block_of r) (next-works P L k (λ c b. none) v d (block_of r) j) in
      ap (λ z. slot z (place_of r)) x ∙ a c d r (sym (ap held x) ∙ h) (sym (ap held y) ∙ j) ∙ sym (ap (λ z. slot z (place_of r)) y)

  marked-rests : (c : ℕ) (s : State P) → Stopped s → refusal P (fail c) s.control (look P s) ≡ 0 → Stopped (next_state P (fail c) s)
  unfolding next_state apply
  marked-rests c s t e =
      let p : plan P (fail c) s.control (look P s) ≡ unwritten P stops (marked P s.control c) = unfold plan act in
      (ap (λ (n : ℕ). guarded P n s.control (act P (fail c) s.control (look P s))) e
      ∙ ap (λ (b : Bool). cond b (unwritten P stops (marked P s.control c))
      (cond (stopping P s.control c) (stop_plan P s.control (look P s) c) (fail_plan P s.control (look P s) c))) t.stays) in
      let ok : ltb c (Parameters.cards P) ≡ true = not-not-is (ltb c (Parameters.cards P)) (unfold refusal in (row-clear (not (ltb c (Parameters.cards P))) 2 e).0) in
      subst (λ (y : Plan P). Stopped (apply P y s)) (sym p) (record {
        stays = t.stays;
        apart = apart-still P L s.control c ok t.apart;
        alike = subst Agreeing (sym (look-next P L (unwritten P stops (marked P s.control c)) s (subst (Seen-before P L s.control) p (plan-sight P L s.control (look P s) (fail c)))))
            (mark-agreeing (marked P s.control c) (look P s) t.alike);
      })

  refused-same : (c : Call P) (s : State P) (n : ℕ) → refusal P c s.control (look P s) ≡ suc n → next_state P c s ≡ s
  unfolding next_state apply plan
  refused-same c s n e = rw e

  started : (a : StartArgument) (s : State P) → start_refusal a ≡ 0 → Agreed (next_state P (start a) s)
  started a s e = subst Agreed (sym (next_start P L a s e)) (in-run (zeroed P a) (plain_start P a) (ready-start P L a e))

  taken : (c : Call P) (s : State P) → Stopped s → refusal P c s.control (look P s) ≡ 0 → Agreed (next_state P c s)
  unfolding refusal
  taken (start a) s t e = started a s e
  taken (begin u h) s t e = absurd (not_taken (out_of_range P (begin u h) s.control) s.control.stopped (later_rows P (begin u h) s.control (look P s)) t.stays e)
  taken (get u r) s t e = absurd (not_taken (out_of_range P (get u r) s.control) s.control.stopped (later_rows P (get u r) s.control (look P s)) t.stays e)
  taken (store u r n) s t e = absurd (not_taken (out_of_range P (store u r n) s.control) s.control.stopped (later_rows P (store u r n) s.control (look P s)) t.stays e)
  taken (delete u r) s t e = absurd (not_taken (out_of_range P (delete u r) s.control) s.control.stopped (later_rows P (delete u r) s.control (look P s)) t.stays e)
  taken (commit u) s t e = absurd (not_taken (out_of_range P (commit u) s.control) s.control.stopped (later_rows P (commit u) s.control (look P s)) t.stays e)
  taken (rollback u) s t e = absurd (not_taken (out_of_range P (rollback u) s.control) s.control.stopped (later_rows P (rollback u) s.control (look P s)) t.stays e)
  taken (fit c) s t e = absurd (not_taken (out_of_range P (fit c) s.control) s.control.stopped (later_rows P (fit c) s.control (look P s)) t.stays e)
  taken (withdraw c) s t e = absurd (not_taken (out_of_range P (withdraw c) s.control) s.control.stopped (later_rows P (withdraw c) s.control (look P s)) t.stays e)
  taken (place a) s t e = absurd (not_taken (out_of_range P (place a) s.control) s.control.stopped (later_rows P (place a) s.control (look P s)) t.stays e)
  taken (fail c) s t e = at_rest (marked-rests c s t (unfold refusal in e))
  taken (move c b) s t e = absurd (not_taken (out_of_range P (move c b) s.control) s.control.stopped (later_rows P (move c b) s.control (look P s)) t.stays e)
  taken settle s t e = absurd (not_taken (out_of_range P settle s.control) s.control.stopped (later_rows P settle s.control (look P s)) t.stays e)
  taken state s t e = absurd (not_taken (out_of_range P state s.control) s.control.stopped (later_rows P state s.control (look P s)) t.stays e)
  taken (load c) s t e = absurd (not_taken (out_of_range P (load c) s.control) s.control.stopped (later_rows P (load c) s.control (look P s)) t.stays e)

  pub agreed-next : (c : Call P) (s : State P) → Agreed s → Agreed (next_state P c s)
  agreed-next c s (in-run z q r) = go (split (is_last P (plain_observe P c q)))
    where
      h : RulesStep P L s z q c
      h = ready-step P L s z q r c

      good : Legal P L s.control
      good = subst (Legal P L) (sym r.store_beside.same-control) (is-running r.inv.form r.full)

      go : (is_last P (plain_observe P c q) ≡ true) ⊎ (is_last P (plain_observe P c q) ≡ false) → Agreed (next_state P c s)
      go (inl e) = at_rest (stop-call c s good (ap (λ (k : Control P). k.stopped) r.store_beside.same-control ∙ r.inv.form.base.running)
          (agreed-look s (in-run z q r)) (ap (is_last P) h.shows ∙ e))
      go (inr e) = in-run (next_state P c z) (plain_next P (settle_accepted P z) c q) (h.goes_on e)
  agreed-next c s (at_rest t) = go (refusal P c s.control (look P s)) refl
    where
      go : (n : ℕ) → refusal P c s.control (look P s) ≡ n → Agreed (next_state P c s)
      go zero e = taken c s t e
      go (suc n) e = subst Agreed (sym (refused-same c s n e)) (at_rest t)

  -- ---- a list of calls
  pub agreed-after : (l : List (Noise P × Call P)) (s : State P) → Agreed s → Agreed (state_after P l s)
  unfolding state_after
  agreed-after [] s a = a
  agreed-after (e ∷ l) s a = agreed-after l (next_state P e.1 (disturb P e.0 s)) (agreed-next e.1 (disturb P e.0 s) (agreed-noise e.0 s a))

  pub agreed-twins : (s : State P) → Agreed s → Twins P s
  agreed-twins s a = twins-seen s (agreed-look s a)

  pub agreed-start : (a : StartArgument) (before : State P) → answer_of P (start a) before ≡ ok → Agreed (next_state P (start a) before)
  agreed-start a before e = started a before (accepted-start P L a before e)

  -- TWINS AGREE
  pub twins-agree : TwinsAgree P
  unfolding TwinsAgree
  twins-agree a before e l =
      agreed-twins (state_after P l (next_state P (start a) before)) (agreed-after l (next_state P (start a) before) (agreed-start a before e))

-- ---- where the list of calls goes on under a later paper, which changes no block
module _ (P : Parameters) (L : Laws P) (G : Growth P) (E : GrowthLaws P G) (M : Laws (grown P G)) where
  pub agreed-grown : (s : State P) → Agreed P L s → Agreed (grown P G) M (grown_state P G s)
  agreed-grown s (in-run z q r) = in-run (grown_state P G z) (grown_plain P G q) (ready-grown P L G E M s z q r)
  agreed-grown s (at_rest t) = at_rest (record {
    stays = t.stays;
    apart = t.apart;
    alike = subst (Agreeing P L) (sym (beside-grown P L G E M s.control s (look P s) (record { same-control = refl; same-look = refl })).same-look) t.alike;
  })
