-- A stopped store with noise beside the run of the rules without: the same control part, the same blocks on the cards that work, and for the
-- failed cards that the newest placement names, the recorded tables are those of the run without noise. Every such card has the newest
-- placement's stamp there. So the run without noise takes back every card that the store takes back. Assumes nothing.
use Prim.Native.Nat.{ℕ}
use borrow.Author.Tests.{eqb-true, lt-ltb}
use lib.Dec.{eqb, ltb}
use mathlib.Core.Bool.{Bool, ◌&&◌, ◌||◌, cond, false, not, true}
use mathlib.Core.Logic.{◌⊎◌, inl, inr}
use mathlib.Core.Option.{none, some}
use mathlib.Core.Path.{◌∙◌, ◌≡◌, ap, fun_ext, refl, sym}
use Rattle.lists.proofs.Bools.{and_in, and_l, and_r, not_is, or_cases, split, tf}
use Rattle.method.specs.Changes.{Control, marked}
use Rattle.method.specs.ControlPart.{halted, is_open}
use Rattle.method.specs.OneRecordList.{Noise, disturb}
use Rattle.method.specs.Parameters.{Parameters}
use Rattle.method.specs.PlainList.{PlainList, with_control}
use Rattle.method.specs.Returning.{drop_locks, is_lock}
use Rattle.method.specs.Rules.{Plan, State, View, apply, drop_held, look, stop_plan, stops, unwritten, updated, visible}
use Rattle.method.specs.ThroughStops.{Tables, failed_now, recorded, rolled_back}
use Rattle.method.proofs.Laws.{Laws}
use Rattle.method.proofs.Resting.{Halt, halt-marked, halt-returned, halt-stopped}
use Rattle.method.proofs.Returning.{admitted_as}
use Rattle.method.proofs.Run.{Beside, Ready}
use Rattle.method.proofs.Stamps.{Stamped, stamped-same}
use Rattle.method.proofs.Tidy.{TidyList}

module _ (P : Parameters) (L : Laws P) where
  open P use {Block, blocks, cards, end_slots, has, held, insert, mask, remove, stamp_of}
  open L use {has-card, has-insert, has-remove, stamp-same}

  pub record Rested (s z : State P) (q : PlainList P) (t : Tables P) : Type 0 where
    pub store-control : s.control ≡ q.control
    pub rules-control : z.control ≡ q.control
    pub halt : Halt P L q.control z.block q.records
    pub rules-stamps : Stamped P q.control z.stamp
    pub same_blocks : (x b : ℕ) → has q.control.working x ≡ true → ltb b (blocks q.control.setting) ≡ true → s.block x b ≡ z.block x b
    pub store-stamps : (x : ℕ) → has q.control.working x ≡ true → has (mask q.control.newest) x ≡ true → s.stamp x ≡ stamp_of q.control
    pub kept-blocks : (x b : ℕ) → has q.control.failed x ≡ true → has (mask q.control.newest) x ≡ true → ltb b (blocks q.control.setting) ≡ true
        → t.block x b ≡ z.block x b
    pub kept-stamps : (x : ℕ) → has q.control.failed x ≡ true → has (mask q.control.newest) x ≡ true → t.stamp x ≡ stamp_of q.control

  -- ---- what is recorded in a step
  pub recorded-now : (s s' : State P) (t : Tables P) (x b : ℕ) → failed_now P s s' x ≡ true → (recorded P s s' t).block x b ≡ s'.block x b
  unfolding recorded
  recorded-now s s' t x b e = rw e

  stamp-now : (s s' : State P) (t : Tables P) (x : ℕ) → failed_now P s s' x ≡ true → (recorded P s s' t).stamp x ≡ s'.stamp x
  unfolding recorded
  stamp-now s s' t x e = rw e

  pub recorded-still : (s s' : State P) (t : Tables P) (x b : ℕ) → failed_now P s s' x ≡ false → (recorded P s s' t).block x b ≡ t.block x b
  unfolding recorded
  recorded-still s s' t x b e = rw e

  stamp-still : (s s' : State P) (t : Tables P) (x : ℕ) → failed_now P s s' x ≡ false → (recorded P s s' t).stamp x ≡ t.stamp x
  unfolding recorded
  stamp-still s s' t x e = rw e

  -- in a step in which no card fails nothing
  pub recorded-same : (s s' : State P) (t : Tables P) → ((x : ℕ) → failed_now P s s' x ≡ false) → recorded P s s' t ≡ t
  recorded-same s s' t e = λ i. record {
    block = fun_ext (λ x. fun_ext (λ b. recorded-still s s' t x b (e x))) i;
    stamp = fun_ext (λ x. stamp-still s s' t x (e x)) i;
  }

  -- one card fails: its table is recorded, and what was recorded stays
  abbrev New : State P → State P → Tables P → ℕ → ℕ → Type 0
  New s s' t c x = (eqb x c ≡ true) × ((b : ℕ) → (recorded P s s' t).block x b ≡ s'.block x b) × ((recorded P s s' t).stamp x ≡ s'.stamp x)

  abbrev Old : State P → State P → Tables P → Control P → ℕ → Type 0
  Old s s' t k x = (has k.failed x ≡ true) × ((b : ℕ) → (recorded P s s' t).block x b ≡ t.block x b) × ((recorded P s s' t).stamp x ≡ t.stamp x)

  module _ (s s' : State P) (t : Tables P) (k : Control P) (c : ℕ) (on : has k.working c ≡ true) (off : has k.failed c ≡ false)
      (was : s.control ≡ k) (now : s'.control.failed ≡ insert k.failed c) where
    failed-is : (x : ℕ) → failed_now P s s' x ≡ ((eqb x c || has k.failed x) && not (has k.failed x))
    failed-is x = rw (was, now, has-insert k.failed c x (lt-ltb c cards (has-card k.working c on))) refl

    one-recorded : (x : ℕ) → has (insert k.failed c) x ≡ true → New s s' t c x ⊎ Old s s' t k x
    one-recorded x d = go (split (eqb x c)) (rw (has-insert k.failed c x (lt-ltb c cards (has-card k.working c on))) at d)
      where
        go : (eqb x c ≡ true) ⊎ (eqb x c ≡ false) → (eqb x c || has k.failed x) ≡ true → New s s' t c x ⊎ Old s s' t k x
        go (inl e) d =
            let o : has k.failed x ≡ false = rw (eqb-true x c e) off in
            let f : failed_now P s s' x ≡ true = failed-is x ∙ rw (e, o) refl in
            inl (e, (λ b. recorded-now s s' t x b f), stamp-now s s' t x f)
        go (inr e) d =
            let o : has k.failed x ≡ true = rw e at d in
            let f : failed_now P s s' x ≡ false = failed-is x ∙ rw (e, o) refl in
            inr (o, (λ b. recorded-still s s' t x b f), stamp-still s s' t x f)

  -- works after the failure of c: worked before
  worked : (k : Control P) (c x : ℕ) → has (remove k.working c) x ≡ true → has k.working x ≡ true
  worked k c x w = and_l (has k.working x) (not (eqb x c)) (sym (has-remove k.working c x) ∙ w)

  -- ---- noise before a step is on failed cards
  pub rested-noise : (g : Noise P) (s z : State P) (q : PlainList P) (t : Tables P) → Rested s z q t → Rested (disturb P g s) z q t
  unfolding disturb
  rested-noise g s z q t r = record {
    store-control = r.store-control;
    rules-control = r.rules-control;
    halt = r.halt;
    rules-stamps = r.rules-stamps;
    same_blocks = λ x b w bk. rw (quiet x w) (r.same_blocks x b w bk);
    store-stamps = λ x w n. rw (quiet x w) (r.store-stamps x w n);
    kept-blocks = r.kept-blocks;
    kept-stamps = r.kept-stamps;
  }
    where
      quiet : (x : ℕ) → has q.control.working x ≡ true → has s.control.failed x ≡ false
      quiet x w = ap (λ (k : Control P). has k.failed x) r.store-control ∙ r.halt.rests.apart x w

  -- ---- a fail while stopped
  module _ (s z : State P) (q : PlainList P) (t : Tables P) (r : Rested s z q t) (c : ℕ) (on : has q.control.working c ≡ true) where
    abbrev marking : Plan P
    marking = unwritten P stops (marked P q.control c)

    abbrev mark : Control P
    mark = marked P q.control c

    mark-stamp : stamp_of q.control ≡ stamp_of mark
    mark-stamp = stamp-same q.control mark refl refl

    module _ (s' : State P) (blocks-stay : s'.block ≡ s.block) (stamps-stay : s'.stamp ≡ s.stamp) where
      mark-block : (x b : ℕ) → has (mask q.control.newest) x ≡ true → ltb b (blocks q.control.setting) ≡ true
          → New s s' t c x ⊎ Old s s' t q.control x → (recorded P s s' t).block x b ≡ z.block x b
      mark-block x b n bk (inl (e, h, m)) = h b ∙ ap (λ (v : View P). v x b) blocks-stay ∙ r.same_blocks x b (rw (eqb-true x c e) on) bk
      mark-block x b n bk (inr (d, h, m)) = h b ∙ r.kept-blocks x b d n bk

      mark-kept : (x : ℕ) → has (mask q.control.newest) x ≡ true → New s s' t c x ⊎ Old s s' t q.control x → (recorded P s s' t).stamp x ≡ stamp_of mark
      mark-kept x n (inl (e, h, m)) = m ∙ ap (λ f. f x) stamps-stay ∙ r.store-stamps x (rw (eqb-true x c e) on) n ∙ mark-stamp
      mark-kept x n (inr (d, h, m)) = m ∙ r.kept-stamps x d n ∙ mark-stamp

    pub rested-marked : Rested (apply P marking s) (apply P marking z) (with_control P q mark) (recorded P s (apply P marking s) t)
    unfolding apply
    rested-marked = record {
      store-control = refl;
      rules-control = refl;
      halt = halt-marked P L q.control z.block q.records r.halt c on;
      rules-stamps = stamped-same P L q.control mark z.stamp refl refl r.rules-stamps;
      same_blocks = λ x b w bk. r.same_blocks x b (worked q.control c x w) bk;
      store-stamps = λ x w n. r.store-stamps x (worked q.control c x w) n ∙ mark-stamp;
      kept-blocks = λ x b d n bk. mark-block s' refl refl x b n bk (cases x d);
      kept-stamps = λ x d n. mark-kept s' refl refl x n (cases x d);
    }
      where
        s' : State P
        s' = apply P marking s

        cases : (x : ℕ) → has (insert q.control.failed c) x ≡ true → New s s' t c x ⊎ Old s s' t q.control x
        cases = one-recorded s s' t q.control c on (r.halt.rests.apart c on) r.store-control refl

  -- ---- the stop of a running store
  -- what is seen of a working card is its table
  pub seen-block : (s : State P) (k : Control P) (v : View P) → Beside P L s k v → (x b : ℕ) → has k.working x ≡ true → ltb b (blocks k.setting) ≡ true
      → v x b ≡ s.block x b
  unfolding look
  seen-block s k v e x b w bk =
      let o : visible P s.control x b ≡ true = ap (λ (j : Control P). visible P j x b) e.same-control ∙ and_in (has k.working x) (ltb b (blocks k.setting)) w bk in
      sym (ap (λ (y : View P). y x b) e.same-look) ∙ rw o

  module _ (s z : State P) (q : PlainList P) (t : Tables P) (r : Ready P L s z q) (tidy : TidyList P L q) (ms : Stamped P q.control s.stamp)
      (mz : Stamped P q.control z.stamp) (c : ℕ) (on : has q.control.working c ≡ true) where
    abbrev stopping-plan : Plan P
    stopping-plan = stop_plan P q.control r.sees c

    abbrev stop : Control P
    stop = halted (marked P q.control c)

    stop-stamp : stamp_of q.control ≡ stamp_of stop
    stop-stamp = stamp-same q.control stop refl refl

    -- both runs have the same tables on every card that worked
    worked_same : (x b : ℕ) → has q.control.working x ≡ true → ltb b (blocks q.control.setting) ≡ true → (apply P stopping-plan s).block x b ≡ (apply P stopping-plan z).block x b
    unfolding apply
    worked_same x b w bk = ap (λ (y : Block). updated (drop_held P (is_open q.control) c r.sees x b) y)
        (sym (seen-block s q.control r.sees r.store_beside x b w bk) ∙ seen-block z q.control r.sees r.rules-beside x b w bk)

    -- the newest placement names no card that had failed before
    stop-kept : (s' : State P) (x : ℕ) → has (mask q.control.newest) x ≡ true → New s s' t c x ⊎ Old s s' t q.control x → New s s' t c x
    stop-kept s' x n (inl h) = h
    stop-kept s' x n (inr h) = tf (has q.control.failed x) h.0 (r.inv.form.base.apart x (r.inv.form.new_works x n))

    pub rested-stopped : Rested (apply P stopping-plan s) (apply P stopping-plan z) (rolled_back P q (some c)) (recorded P s (apply P stopping-plan s) t)
    unfolding apply
    rested-stopped = record {
      store-control = refl;
      rules-control = refl;
      halt = halt-stopped P L q.control z.block r.sees (seen-block z q.control r.sees r.rules-beside) q.records r.inv r.full tidy c on;
      rules-stamps = stamped-same P L q.control stop z.stamp refl refl mz;
      same_blocks = λ x b w bk. worked_same x b (worked q.control c x w) bk;
      store-stamps = λ x w n. ms x n ∙ stop-stamp;
      kept-blocks = λ x b d n bk.
          let h = new x d n in
          h.1 b ∙ worked_same x b (rw (eqb-true x c h.0) on) bk;
      kept-stamps = λ x d n. (new x d n).2 ∙ ms x n ∙ stop-stamp;
    }
      where
        s' : State P
        s' = apply P stopping-plan s

        new : (x : ℕ) → has (insert q.control.failed c) x ≡ true → has (mask q.control.newest) x ≡ true → New s s' t c x
        new x d n = stop-kept s' x n (one-recorded s s' t q.control c on (r.inv.form.base.apart c on) r.store_beside.same-control refl x d)

  -- ---- a return that is taken
  module _ (s z : State P) (q : PlainList P) (t : Tables P) (r : Rested s z q t) (c : ℕ) (c-ok : ltb c cards ≡ true)
      (down : has q.control.failed c ≡ true) (named : has (mask q.control.newest) c ≡ true)
      (intact : (b : ℕ) → s.block c b ≡ t.block c b) (same-stamp : s.stamp c ≡ t.stamp c) where
    -- what it leaves: the control part with the stopped bit as it becomes
    abbrev pub back : Bool → State P → State P
    back stopped y = record {
      control = admitted_as P L q.control c stopped;
      block = λ x b. updated (drop_locks P q.control y.block c x b) (y.block x b);
      stamp = y.stamp;
    }

    -- a card that works then worked before, or is the one
    either-works : (x : ℕ) → has (insert q.control.working c) x ≡ true → (eqb x c ≡ true) ⊎ (has q.control.working x ≡ true)
    either-works x w = or_cases (eqb x c) (has q.control.working x) (sym (has-insert q.control.working c x c-ok) ∙ w)

    found-same : (x b : ℕ) → (eqb x c ≡ true) ⊎ (has q.control.working x ≡ true) → ltb b (blocks q.control.setting) ≡ true → s.block x b ≡ z.block x b
    found-same x b (inl e) bk = rw (eqb-true x c e) (intact b ∙ r.kept-blocks c b down named bk)
    found-same x b (inr w) bk = r.same_blocks x b w bk

    pub back-same : (stopped : Bool) (x b : ℕ) → has (insert q.control.working c) x ≡ true → ltb b (blocks q.control.setting) ≡ true
        → (back stopped s).block x b ≡ (back stopped z).block x b
    unfolding drop_locks
    back-same stopped x b w bk =
        ap (λ (y : Block). updated (cond (eqb x c && (ltb b (blocks q.control.setting) && held y)) (some (end_slots false is_lock y)) none) y) (found-same x b (either-works x w) bk)

    admitted-stamp : (stopped : Bool) → stamp_of q.control ≡ stamp_of (admitted_as P L q.control c stopped)
    admitted-stamp stopped = stamp-same q.control (admitted_as P L q.control c stopped) refl refl

    back-stamp : (x : ℕ) → (eqb x c ≡ true) ⊎ (has q.control.working x ≡ true) → has (mask q.control.newest) x ≡ true → s.stamp x ≡ stamp_of q.control
    back-stamp x (inl e) n = rw (eqb-true x c e) (same-stamp ∙ r.kept-stamps c down named)
    back-stamp x (inr w) n = r.store-stamps x w n

    pub back-stamps : (stopped : Bool) (x : ℕ) → has (insert q.control.working c) x ≡ true → has (mask q.control.newest) x ≡ true
        → s.stamp x ≡ stamp_of (admitted_as P L q.control c stopped)
    back-stamps stopped x w n = back-stamp x (either-works x w) n ∙ admitted-stamp stopped

    pub rules-back : (stopped : Bool) → Stamped P (admitted_as P L q.control c stopped) z.stamp
    rules-back stopped x n = r.rules-stamps x n ∙ admitted-stamp stopped

    -- no card fails in it
    none-failed : (stopped : Bool) (x : ℕ) → failed_now P s (back stopped s) x ≡ false
    none-failed stopped x = rw (r.store-control, has-remove q.control.failed c x) (go (has q.control.failed x) (not (eqb x c)))
      where
        go : (a b : Bool) → ((a && b) && not a) ≡ false
        go true true = refl
        go true false = refl
        go false b = refl

    pub back-recorded : (stopped : Bool) → recorded P s (back stopped s) t ≡ t
    back-recorded stopped = recorded-same s (back stopped s) t (none-failed stopped)

    failed-yet : (x : ℕ) → has (remove q.control.failed c) x ≡ true → (has q.control.failed x ≡ true) × (eqb x c ≡ false)
    failed-yet x d =
        let e : (has q.control.failed x && not (eqb x c)) ≡ true = sym (has-remove q.control.failed c x) ∙ d in
        (and_l (has q.control.failed x) (not (eqb x c)) e, not_is (eqb x c) (and_r (has q.control.failed x) (not (eqb x c)) e))

    untouched : (x b : ℕ) → eqb x c ≡ false → (back true z).block x b ≡ z.block x b
    unfolding drop_locks
    untouched x b e = rw e

    pub rested-returned : Rested (back true s) (back true z) (with_control P q (admitted_as P L q.control c true)) t
    rested-returned = record {
      store-control = refl;
      rules-control = refl;
      halt = halt-returned P L q.control z.block q.records r.halt c c-ok down named;
      rules-stamps = rules-back true;
      same_blocks = back-same true;
      store-stamps = back-stamps true;
      kept-blocks = λ x b d n bk.
          let f = failed-yet x d in
          r.kept-blocks x b f.0 n bk ∙ sym (untouched x b f.1);
      kept-stamps = λ x d n. r.kept-stamps x (failed-yet x d).0 n ∙ admitted-stamp true;
    }
