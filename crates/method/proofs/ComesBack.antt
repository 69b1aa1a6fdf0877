-- What a stop keeps and what comes back after it. The plain record list's own steps tell what it keeps; the rest is read off a store that runs or
-- rests beside it. Assumes nothing.
use Prim.Native.Nat.{ℕ}
use borrow.Author.Tests.{lt-ltb}
use lib.Dec.{ltb}
use mathlib.Core.Bool.{Bool, ◌&&◌, ◌||◌, cond, false, not, true}
use mathlib.Core.List.{List, [], ◌∷◌}
use mathlib.Core.Logic.{◌⊎◌, inl, inr}
use mathlib.Core.Option.{Option, none, some}
use mathlib.Core.Path.{◌∙◌, ◌≡◌, ap, ap₂, refl, sym}
use Rattle.lists.proofs.Bools.{and_l, and_r, split, tf}
use Rattle.method.specs.Changes.{Control, marked}
use Rattle.method.specs.ComesBack.{AfterSteps, IntactCardReturns, MembersStamped, Returns, RunningMembersStamped, RunningRefusesReturn}
use Rattle.method.specs.ComesBack.{StopKeepsCommitted, StopLeavesNoLock, StoppedKeepsRecords, TwinsAgreeThroughStops, UnnamedIsStale}
use Rattle.method.specs.ComesBack.{Unlocks, WhileStopped, restarts}
use Rattle.method.specs.ControlPart.{is_open}
use Rattle.method.specs.OneRecordList.{is_last, plain_observe, settle_accepted, zeroed}
use Rattle.method.specs.Parameters.{Parameters}
use Rattle.method.specs.PlainList.{PlainList, plain_next, plain_start, with_control}
use Rattle.method.specs.Returning.{is_stale, return_refusal}
use Rattle.method.specs.Rules.{State, is_start, look, next_state, row, start, visible}
use Rattle.method.specs.Slots.{freed}
use Rattle.method.specs.ThroughStops.{Step, Tables, after_step, call, fail_card, marked_only, plain_call, plain_step, plain_through, return, rolled_back}
use Rattle.method.specs.Twins.{Twins}
use Rattle.method.proofs.Laws.{Laws}
use Rattle.method.proofs.Resting.{wish, wish-works}
use Rattle.method.proofs.RestingSteps.{Rested}
use Rattle.method.proofs.Returning.{running-refuses-return, shown-taken}
use Rattle.method.proofs.Run.{accepted-start, next_start}
use Rattle.method.proofs.StepsThrough.{Through, it-rests, it-runs, through-start}
use Rattle.method.proofs.ThroughStops.{through-after}
use Rattle.method.proofs.Twins.{Agreeing, agreed-look, in-run, twins-seen}

-- ---- the plain record list's own steps
module _ (P : Parameters) where
  open P use {cards, has, mask, same_stamp, stamp_of}

  pub stop-keeps-committed : StopKeepsCommitted P
  unfolding StopKeepsCommitted
  stop-keeps-committed q c r = go (is_open q.control (q.records r).lock)
    where
      go : (b : Bool) → (cond b (freed false (q.records r)) (q.records r)).committed ≡ (q.records r).committed
      go true = refl
      go false = refl

  marked-keeps : (q : PlainList P) (o : Option ℕ) → (marked_only P q o).records ≡ q.records
  marked-keeps q none = refl
  marked-keeps q (some c) = go (has q.control.working c)
    where
      go : (b : Bool) → (cond b (with_control P q (marked P q.control c)) q).records ≡ q.records
      go true = refl
      go false = refl

  step_keeps : (s : Bool) (e : Step P) (q : PlainList P) → q.control.stopped ≡ true → restarts P e ≡ false → (plain_step P s e q).records ≡ q.records
  unfolding plain_step plain_call
  step_keeps s (return c) q h n = refl
  step_keeps s (call c) q h n =
      ap (λ (b : Bool). (cond b (cond (is_start c) (plain_next P s c q) (marked_only P q (fail_card P c)))
      (cond (is_last P (plain_observe P c q)) (rolled_back P q (fail_card P c)) (plain_next P s c q))).records) h
      ∙ ap (λ (b : Bool). (cond b (plain_next P s c q) (marked_only P q (fail_card P c))).records) n ∙ marked-keeps q (fail_card P c)

  kept-over : (l : List (Step P)) (z : State P) (q : PlainList P) → WhileStopped P l z q → (plain_through P l z q).records ≡ q.records
  unfolding WhileStopped plain_through
  kept-over [] z q h = refl
  kept-over (e ∷ l) z q h =
      kept-over l (after_step P e z) (plain_step P (settle_accepted P z) e q) h.2 ∙ step_keeps (settle_accepted P z) e q h.0 h.1

  pub stopped-keeps-records : StoppedKeepsRecords P
  unfolding StoppedKeepsRecords
  stopped-keeps-records = kept-over

  -- ---- refusals, of any control part
  pub unnamed-is-stale : UnnamedIsStale P
  unfolding UnnamedIsStale return_refusal is_stale
  unnamed-is-stale k m c a s f n = go (ltb c cards) k.stopped (has k.failed c) (same_stamp (m c) (stamp_of k)) (has (mask k.newest) c) a s f n
    where
      go : (a s f g n : Bool) → a ≡ true → s ≡ true → f ≡ true → n ≡ false → row 3 (not a) (row 8 (not s || not f) (row 19 (not (g && n)) 0)) ≡ 19
      go a s f true n p q r t = rw (p, q, r, t)
      go a s f false n p q r t = rw (p, q, r)

  pub running-refuses : RunningRefusesReturn P
  unfolding RunningRefusesReturn
  running-refuses = running-refuses-return P

-- ---- a store that runs or rests beside the plain record list, from any beginning
module _ (P : Parameters) (L : Laws P) where
  open P use {block_of, blocks, cards, has, held, marks_while_stopped, mask, place_of, same_stamp, slot, stamp_of}
  open L use {has-card, same_refl}

  module _ (s z : State P) (q : PlainList P) (t : Tables P) where
    pub through-unlocks : Through P L s z q t → Unlocks P q
    through-unlocks (it-runs r d ms mz) e = tf q.control.stopped e r.inv.form.base.running
    through-unlocks (it-rests r) e = r.halt.free

    pub through-members : Through P L s z q t → MembersStamped P s
    through-members (it-runs r d ms mz) e c n =
        let k : s.control ≡ q.control = r.store_beside.same-control in
        let m : has (mask q.control.newest) c ≡ true = sym (ap (λ (j : Control P). has (mask j.newest) c) k) ∙ n in
        (ms c m ∙ sym (ap stamp_of k), ap (λ (j : Control P). has j.failed c) k ∙ r.inv.form.base.apart c (r.inv.form.new_works c m))
    through-members (it-rests r) e c n = tf s.control.stopped (ap (λ (j : Control P). j.stopped) r.store-control ∙ r.halt.rests.stays) e

    pub through-returns : Through P L s z q t → Returns P s t
    through-returns (it-runs r d ms mz) e c f n stamps h =
        tf s.control.stopped e (ap (λ (j : Control P). j.stopped) r.store_beside.same-control ∙ r.inv.form.base.running)
    through-returns (it-rests r) e c f n stamps h = shown-taken P s.control stamps c (record {
      is-card = lt-ltb c cards (has-card s.control.failed c f);
      is-stopped = e;
      was-failed = f;
      same-stamp = ap₂ same_stamp (h ∙ r.kept-stamps c (sym (ap (λ (j : Control P). has j.failed c) k) ∙ f) (sym (ap (λ (j : Control P). has (mask j.newest) c) k) ∙ n)) (ap stamp_of k)
          ∙ same_refl (stamp_of q.control);
      named = n;
    })
      where
        k : s.control ≡ q.control
        k = r.store-control

    -- a card that works and holds a block shows the records
    rested-shows : Rested P L s z q t → (c r : ℕ) → held (look P s c (block_of r)) ≡ true → slot (look P s c (block_of r)) (place_of r) ≡ q.records r
    unfolding look
    rested-shows h c r e = go (split (visible P s.control c b))
      where
        b : ℕ
        b = block_of r

        go : (visible P s.control c b ≡ true) ⊎ (visible P s.control c b ≡ false) → slot (look P s c b) (place_of r) ≡ q.records r
        go (inl v) =
            let o : visible P q.control c b ≡ true = sym (ap (λ (j : Control P). visible P j c b) h.store-control) ∙ v in
            let w = and_l (has q.control.working c) (ltb b (blocks q.control.setting)) o in
            let bk = and_r (has q.control.working c) (ltb b (blocks q.control.setting)) o in
            let same : look P s c b ≡ wish P L q.control z.block c b = rw v (h.same_blocks c b w bk ∙ sym (wish-works P L q.control z.block c b w bk)) in
            ap (λ x. slot x (place_of r)) same ∙ (h.halt.each b bk).same c r (sym (ap held same) ∙ e) refl
        go (inr v) = tf (held (look P s c b)) e (rw v (Laws.held-empty L))

    pub through-agreeing : Through P L s z q t → Agreeing P L (look P s)
    through-agreeing (it-runs r d ms mz) = agreed-look P L s (in-run z q r)
    through-agreeing (it-rests h) = λ c d r e f. rested-shows h c r e ∙ sym (rested-shows h d r f)

    pub through-twins : Through P L s z q t → Twins P s
    through-twins h = twins-seen P L s (through-agreeing h)

  -- ---- after a start
  module _ (marks : marks_while_stopped ≡ true) where
    after-steps : (Q : State P → PlainList P → Tables P → Type 0) → ((s z : State P) (q : PlainList P) (t : Tables P) → Through P L s z q t → Q s q t) → AfterSteps P Q
    after-steps Q f a before e t l i =
        let h = accepted-start P L a before e in
        f _ _ _ _ (through-after P L marks l (next_state P (start a) before) (zeroed P a) (plain_start P a) t (rw (next_start P L a before h) (through-start P L a h t)) i)

    pub stop-leaves-no-lock : StopLeavesNoLock P
    unfolding StopLeavesNoLock
    stop-leaves-no-lock = after-steps (λ s q t. Unlocks P q) through-unlocks

    pub running-members-stamped : RunningMembersStamped P
    unfolding RunningMembersStamped
    running-members-stamped = after-steps (λ s q t. MembersStamped P s) through-members

    pub intact-card-returns : IntactCardReturns P
    unfolding IntactCardReturns
    intact-card-returns = after-steps (λ s q t. Returns P s t) through-returns

    -- TWINS AGREE, through stops
    pub twins-agree-through-stops : TwinsAgreeThroughStops P
    unfolding TwinsAgreeThroughStops
    twins-agree-through-stops = after-steps (λ s q t. Twins P s) through-twins
