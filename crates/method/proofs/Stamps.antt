-- In a running store every member of the newest placement has its stamp. A call that adds a placement stamps all working cards, and a call
-- that zeroes a stamp does so on a card that no active placement names. Assumes nothing.
use Prim.Native.Nat.{suc, zero, ℕ}
use borrow.Author.Tests.{ne_eqb}
use lib.Dec.{eqb, ltb}
use mathlib.Core.Bool.{Bool, ◌&&◌, ◌||◌, and-true, cond, false, not, true}
use mathlib.Core.Option.{none}
use mathlib.Core.Path.{◌∙◌, ◌≡◌, refl}
use Rattle.lists.proofs.Bools.{and_l, and_r, nor-r, not_is, tf}
use Rattle.lists.proofs.Lists.{any_none}
use Rattle.method.specs.Changes.{Control, added_by, marked, started_by}
use Rattle.method.specs.ControlPart.{active, begun_at, closed, only_newest, opened}
use Rattle.method.specs.OneRecordList.{is_last, is_stop, observe}
use Rattle.method.specs.Parameters.{Parameters}
use Rattle.method.specs.Rules.{Call, Plan, View, absent, act, begin, clear_stamp, commit, delete, fail, fail_plan, fit, get, guarded}
use Rattle.method.specs.Rules.{in_active, load, lock_holders, move, ok, place, plan, refusal, rollback, seen_slot, settle, stamp_all}
use Rattle.method.specs.Rules.{stamped, start, state, stop_plan, stopping, stops, store, unwritten, updated, withdraw, writing}
use Rattle.method.specs.Slots.{is_none, read_by}
use Rattle.method.proofs.Invariant.{Form, newest-in}
use Rattle.method.proofs.Laws.{Laws}
use Rattle.method.proofs.Refusals.{row-3, row-clear}

module _ (P : Parameters) where
  open P use {Stamp, has, mask, stamp_of}

  -- every member of the newest placement has its stamp
  abbrev pub Stamped : Control P → (ℕ → Stamp) → Type 0
  Stamped k m = (x : ℕ) → has (mask k.newest) x ≡ true → m x ≡ stamp_of k

module _ (P : Parameters) (L : Laws P) where
  open P use {Stamp, StartArgument, cards, has, mask, no_stamp, place_in_range, places}
  open P use {stamp_of, without}
  open L use {has-remove, has-without, place-works, stamp-same}

  pub stamped-same : (j k : Control P) (m : ℕ → Stamp) → j.newest ≡ k.newest → j.serial ≡ k.serial → Stamped P j m → Stamped P k m
  stamped-same j k m p e h x n = h x (rw (← p) at n) ∙ stamp-same j k p e

  -- what a start writes
  pub stamped-start : (a : StartArgument) → Stamped P (started_by P a) (stamped P (started_by P a) (λ c. no_stamp))
  unfolding stamped stamp_all
  stamped-start a x n = rw n

  module _ (k : Control P) (v : View P) (m : ℕ → Stamp) (f : Form P k) (h : Stamped P k m) where
    -- the stamps that a plan leaves
    abbrev left : Plan P → ℕ → Stamp
    left p x = updated (p.stamps x) (m x)

    all-stamped : (j : Control P) (x : ℕ) → has j.working x ≡ true → updated (stamp_all P j x) (m x) ≡ stamp_of j
    unfolding stamp_all
    all-stamped j x w = rw w

    -- a stamp is zeroed
    cleared : (c x : ℕ) → in_active P k c ≡ false → has (mask k.newest) x ≡ true → updated (clear_stamp P c x) (m x) ≡ m x
    unfolding clear_stamp
    cleared c x out n = rw (ne_eqb x c (λ e. tf (has (mask k.newest) c) (rw e at n) (any_none (λ p. has (mask p) c) (active k) k.newest out (newest-in P k))))

    cleared-stamped : (j : Control P) (c : ℕ) → in_active P k c ≡ false → k.newest ≡ j.newest → k.serial ≡ j.serial
        → Stamped P j (λ x. updated (clear_stamp P c x) (m x))
    cleared-stamped j c out p e x n = let o : has (mask k.newest) x ≡ true = rw (← p) at n in cleared c x out o ∙ h x o ∙ stamp-same k j p e

    -- a failure that does not stop the store
    fail-stamped : (c : ℕ) (b : Bool) → has (mask k.newest) c ≡ b
        → Stamped P (cond b (added_by P (closed (marked P k c) (begun_at k c)) (without k.newest c)) (closed (marked P k c) (begun_at k c)))
        (λ x. updated (cond b (stamp_all P (cond b (added_by P (closed (marked P k c) (begun_at k c)) (without k.newest c)) (closed (marked P k c) (begun_at k c))) x) none) (m x))
    fail-stamped c true e x n =
        let o : (has (mask k.newest) x && not (eqb x c)) ≡ true = rw (has-without k.newest c x) at n in
        all-stamped (added_by P (closed (marked P k c) (begun_at k c)) (without k.newest c)) x
        (rw (has-remove k.working c x, not_is (eqb x c) (and_r (has (mask k.newest) x) (not (eqb x c)) o))
        (and-true (has k.working x) ∙ f.new_works x (and_l (has (mask k.newest) x) (not (eqb x c)) o)))
    fail-stamped c false e x n = stamped-same k (closed (marked P k c) (begun_at k c)) m refl refl h x n

    act-stamped : (c : Call P) → refusal P c k v ≡ 0 → is_last P (observe P c (act P c k v).answer) ≡ false → Stamped P (act P c k v).after (left (act P c k v))
    unfolding act refusal
    act-stamped (start a) e s = stamped-start a
    act-stamped (begin t c) e s = stamped-same k (opened k t c) m refl refl h
    act-stamped (get t r) e s = h
    act-stamped (store t r n) e s = h
    act-stamped (delete t r) e s = either (is_none (read_by t (seen_slot P k v r)))
      where
        planned : Bool → Plan P
        planned b = cond b (unwritten P absent k) (writing P ok k (lock_holders P k v t r none))

        either : (b : Bool) → Stamped P (planned b).after (left (planned b))
        either true = h
        either false = h
    act-stamped (commit t) e s = stamped-same k (closed k (λ x. eqb x t)) m refl refl h
    act-stamped (rollback t) e s = stamped-same k (closed k (λ x. eqb x t)) m refl refl h
    act-stamped (fit c) e s =
        let r = (row-clear (has k.working c || in_active P k c) 7 (row-clear k.stopped 3 (row-3 (ltb c cards) e).1).1).0 in
        cleared-stamped (act P (fit c) k v).after c (nor-r (has k.working c) (in_active P k c) r) refl refl
    act-stamped (withdraw c) e s =
        let r = (row-clear (not (has k.working c) || in_active P k c) 7 (row-clear k.stopped 3 (row-3 (ltb c cards) e).1).1).0 in
        cleared-stamped (act P (withdraw c) k v).after c (nor-r (not (has k.working c)) (in_active P k c) r) refl refl
    act-stamped (place a) e s = λ x n. all-stamped (added_by P k (places k.newest a)) x
        (place-works k a x (row-clear k.stopped 3 (row-3 (place_in_range a) e).1).1 n)
    act-stamped (fail c) e s = either k.stopped (stopping P k c) s
      where
        planned : Bool → Bool → Plan P
        planned s b = cond s (unwritten P stops (marked P k c)) (cond b (stop_plan P k v c) (fail_plan P k v c))

        either : (s b : Bool) → is_stop P (planned s b).answer ≡ false → Stamped P (planned s b).after (left (planned s b))
        either true b z = tf true refl z
        either false true z = tf true refl z
        either false false z = fail-stamped c (has (mask k.newest) c) refl
    act-stamped (move c b) e s = h
    act-stamped settle e s = stamped-same k (only_newest k) m refl refl h
    act-stamped state e s = h
    act-stamped (load c) e s = h

    -- every call that does not stop the store
    pub stamped-next : (c : Call P) → is_last P (observe P c (plan P c k v).answer) ≡ false → Stamped P (plan P c k v).after (λ x. updated ((plan P c k v).stamps x) (m x))
    unfolding plan
    stamped-next c = go (refusal P c k v) refl
      where
        go : (n : ℕ) → refusal P c k v ≡ n → is_last P (observe P c (guarded P n k (act P c k v)).answer) ≡ false
            → Stamped P (guarded P n k (act P c k v)).after (left (guarded P n k (act P c k v)))
        go zero e s = act-stamped c e s
        go (suc n) e s = h
