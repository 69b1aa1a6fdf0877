-- The control part of a store that runs or has stopped: a start gives one, and every accepted call gives one again. What such a call writes
-- lies inside the tables. Assumes nothing.
use Prim.Native.Nat.{ℕ}
use borrow.Author.Tests.{eqb-true, lt-ltb}
use lib.Dec.{eqb, ltb}
use mathlib.Core.Bool.{Bool, ◌&&◌, cond, false, true}
use mathlib.Core.List.{List, [], ◌∷◌}
use mathlib.Core.Logic.{◌⊎◌, inl, inr}
use mathlib.Core.Option.{Option, none, some}
use mathlib.Core.Path.{◌∙◌, ◌≡◌, ap, refl, subst, sym}
use Rattle.lists.specs.Tests.{elem}
use Rattle.lists.proofs.Bools.{and_in, and_l, and_r, never_true, split, tf}
use Rattle.lists.proofs.Counts.{all-below}
use Rattle.lists.proofs.Lists.{elem-keep}
use Rattle.method.specs.Rules.{settled_by}
use Rattle.method.specs.Changes.{Control, marked, replaced, started_by}
use Rattle.method.specs.OneRecordList.{is_last, observe}
use Rattle.method.specs.Parameters.{Parameters}
use Rattle.method.specs.Rules.{Call, Plan, View, absent, act, begin, clear_card, clear_stamp, commit, delete, drop_held, end_held}
use Rattle.method.specs.Rules.{fail, fail_plan, stop_plan, fit, get, guarded, holders, lay_block, load, lock_holders, move, move_writes, newest_sites}
use Rattle.method.specs.Rules.{ok, place, placed, plan, refusal, rollback, seen_slot, settle, settled, stamp_all, stamped, start, state, stopping}
use Rattle.method.specs.Rules.{stops, store, store_writes, trail, unplaced, unwritten, updated, visible, withdraw, writing}
use Rattle.method.specs.Slots.{blank, is_none, read_by}
use Rattle.method.proofs.Calls.Agreement.{Agrees}
use Rattle.method.proofs.Calls.Every.{step-any}
use Rattle.method.proofs.Capacity.{ControlInv, control-kept, full_start}
use Rattle.method.proofs.ControlForms.{form-started}
use Rattle.method.proofs.Invariant.{Form, Invariant, held-seen, newest-in}
use Rattle.method.proofs.Laws.{Laws}
use Rattle.method.proofs.Refusals.{row-3, row-clear}
use Rattle.method.proofs.Stopped.{Rests, rests-halted, rests-marked}

module _ (P : Parameters) (L : Laws P) where
  open P use {Block, Stamp, StartArgument, block_of, blocks, cards, copies, empty, has, held, mask, no_stamp, place_in_range}
  open P use {rec_in_range, sites, stamp_of, start_refusal, tran_in_range, value_in_range, without}
  open L use {has-card, held-empty, rec-block, site-member}

  -- It runs, or it has stopped.
  pub data Legal (k : Control P) : Type 0 where
    is-running : Form P k → ControlInv P L k → Legal k
    is-resting : Rests P L k → Legal k

  pub legal-start : (a : StartArgument) → start_refusal a ≡ 0 → Legal (started_by P a)
  legal-start a e = is-running (form-started P L a e) (full_start P L a e)

  -- ---- calls of a running store
  module _ (k : Control P) (f : Form P k) (u : ControlInv P L k) where
    abbrev nothing : View P
    nothing c b = empty

    -- with no block held anywhere the form is all that the invariant asks
    bare : Invariant P k nothing (λ r. blank)
    bare = record {
      form = f;
      idle = λ c b e. refl;
      each = λ b e. record {
        trailed = λ c h. tf (held empty) h held-empty;
        same = λ c r h z. tf (held empty) h held-empty;
        cover = inr ((λ c. held-empty), (λ r z. refl));
      };
    }

    -- a call that does not stop the store
    kept : (c : Call P) → is_last P (observe P c (plan P c k nothing).answer) ≡ false → Legal (plan P c k nothing).after
    kept c e =
        let good : Agrees P L k nothing (λ r. blank) c = step-any P L k nothing (λ r. blank) bare c in
        let h = good.goes (sym (ap (is_last P) good.sight) ∙ e) in
        is-running (subst (Form P) (sym h.0) h.1.form) (control-kept P L k nothing f u c e)

    -- where no row depends on the tables
    kept_any : (c : Call P) → refusal P c k nothing ≡ 0 → is_last P (observe P c (act P c k nothing).answer) ≡ false → Legal (act P c k nothing).after
    kept_any c r = subst (λ n. is_last P (observe P c (guarded P n k (act P c k nothing)).answer) ≡ false → Legal (guarded P n k (act P c k nothing)).after) r (unfold plan in (kept c))

    none-held : settled P k nothing ≡ true
    unfolding settled settled_by
    none-held = all-below (blocks k.setting) _ (λ b h. all-below cards _ (λ c i. rw held-empty))

    runs-next : (c : Call P) (v : View P) → refusal P c k v ≡ 0 → Legal (act P c k v).after
    unfolding act refusal
    runs-next (start a) v e = legal-start a e
    runs-next (begin t h) v e = kept_any (begin t h) e refl
    runs-next (get t r) v e = is-running f u
    runs-next (store t r n) v e = is-running f u
    runs-next (delete t r) v e = either (is_none (read_by t (seen_slot P k v r)))
      where
        either : (b : Bool) → Legal (cond {A = Plan P} b (unwritten P absent k) (writing P ok k (lock_holders P k v t r none))).after
        either true = is-running f u
        either false = is-running f u
    runs-next (commit t) v e = kept_any (commit t) e refl
    runs-next (rollback t) v e = kept_any (rollback t) e refl
    runs-next (fit c) v e = kept_any (fit c) e refl
    runs-next (withdraw c) v e = kept_any (withdraw c) e refl
    runs-next (place a) v e = kept_any (place a) e refl
    runs-next (fail c) v e = either k.stopped f.base.running (stopping P k c) (kept_any (fail c) e)
      where
        planned : Bool → Bool → View P → Plan P
        planned s b v = cond s (unwritten P stops (marked P k c)) (cond b (stop_plan P k v c) (fail_plan P k v c))

        either : (s : Bool) → s ≡ false → (b : Bool)
            → (is_last P (observe P (fail c) (planned s b nothing).answer) ≡ false → Legal (planned s b nothing).after) → Legal (planned s b v).after
        either true z b h = tf true refl z
        either false z true h = is-resting (rests-halted P L k c (row-3 (ltb c cards) e).0 f u)
        either false z false h = h (quiet (has (mask k.newest) c))
          where
            quiet : (b : Bool) → is_last P (observe P (fail c) (cond b (placed (mask (without k.newest c))) unplaced)) ≡ false
            quiet true = refl
            quiet false = refl
    runs-next (move c b) v e = is-running f u
    runs-next settle v e = kept_any settle (rw (none-held, f.base.running)) refl
    runs-next state v e = is-running f u
    runs-next (load c) v e = is-running f u

  -- ---- a stopped store takes a start, and a fail that marks
  module _ (k : Control P) (s : Rests P L k) where
    past-4 : k.stopped ≡ false → ⊥
    past-4 e = tf k.stopped s.stays e

    rests-next : (c : Call P) (v : View P) → refusal P c k v ≡ 0 → Legal (act P c k v).after
    unfolding act refusal
    rests-next (start a) v e = legal-start a e
    rests-next (begin t h) v e = absurd (past-4 (row-clear k.stopped 3 (row-3 (tran_in_range t && ltb h cards) e).1).0)
    rests-next (get t r) v e = absurd (past-4 (row-clear k.stopped 3 (row-3 (tran_in_range t && rec_in_range k.setting r) e).1).0)
    rests-next (store t r n) v e = absurd (past-4 (row-clear k.stopped 3 (row-3 (tran_in_range t && rec_in_range k.setting r && value_in_range n) e).1).0)
    rests-next (delete t r) v e = absurd (past-4 (row-clear k.stopped 3 (row-3 (tran_in_range t && rec_in_range k.setting r) e).1).0)
    rests-next (commit t) v e = absurd (past-4 (row-clear k.stopped 3 (row-3 (tran_in_range t) e).1).0)
    rests-next (rollback t) v e = absurd (past-4 (row-clear k.stopped 3 (row-3 (tran_in_range t) e).1).0)
    rests-next (fit c) v e = absurd (past-4 (row-clear k.stopped 3 (row-3 (ltb c cards) e).1).0)
    rests-next (withdraw c) v e = absurd (past-4 (row-clear k.stopped 3 (row-3 (ltb c cards) e).1).0)
    rests-next (place a) v e = absurd (past-4 (row-clear k.stopped 3 (row-3 (place_in_range a) e).1).0)
    rests-next (fail c) v e = either k.stopped s.stays
      where
        either : (t : Bool) → t ≡ true → Legal (cond {A = Plan P} t (unwritten P stops (marked P k c)) (cond (stopping P k c) (stop_plan P k v c) (fail_plan P k v c))).after
        either true z = is-resting (rests-marked P L k c (row-3 (ltb c cards) e).0 s)
        either false z = tf false z refl
    rests-next (move c b) v e = absurd (past-4 (row-clear k.stopped 3 (row-3 (ltb c cards && ltb b (blocks k.setting)) e).1).0)
    rests-next settle v e = absurd (past-4 (row-clear k.stopped 3 e).0)
    rests-next state v e = absurd (past-4 (row-clear k.stopped 3 e).0)
    rests-next (load c) v e = absurd (past-4 (row-clear k.stopped 3 (row-3 (ltb c cards) e).1).0)

  pub legal-next : (k : Control P) → Legal k → (c : Call P) (v : View P) → refusal P c k v ≡ 0 → Legal (act P c k v).after
  legal-next k (is-running f u) = runs-next k f u
  legal-next k (is-resting s) = rests-next k s

  -- the placements that are active are usable, and cards that work have not failed
  pub legal-newest : (k : Control P) → Legal k → Parameters.usable P k.setting k.newest
  legal-newest k (is-running f u) = f.base.sound k.newest (newest-in P k)
  legal-newest k (is-resting s) = s.sound k.newest (newest-in P k)

  -- ---- what an accepted call writes outside the tables is nothing
  module _ (k : Control P) (good : Legal k) (v : View P) (idle : (c b : ℕ) → visible P k c b ≡ false → v c b ≡ empty) (x b : ℕ)
      (out : (ltb x cards && ltb b (blocks k.setting)) ≡ false) where
    -- no block is held there, and there is no site
    outside : ltb x cards ≡ true → ltb b (blocks k.setting) ≡ true → ⊥
    outside hx hb = tf (ltb x cards && ltb b (blocks k.setting)) (and_in (ltb x cards) (ltb b (blocks k.setting)) hx hb) out

    not-held : held (v x b) ≡ false
    not-held = never_true (held (v x b)) (λ h.
        let e : visible P k x b ≡ true = held-seen P L k v idle x b h in
        outside (lt-ltb x cards (has-card k.working x (and_l (has k.working x) (ltb b (blocks k.setting)) e))) (and_r (has k.working x) (ltb b (blocks k.setting)) e))

    no-holder : elem x (holders P k v b) ≡ false
    unfolding holders
    no-holder = never_true (elem x (holders P k v b)) (λ h. tf (held (v x b)) (elem-keep (λ c. held (v c b)) x (trail P k b) h).0 not-held)

    no-site : ltb b (blocks k.setting) ≡ true → elem x (newest_sites P k b) ≡ false
    no-site hb = never_true (elem x (newest_sites P k b)) (λ h.
        outside (lt-ltb x cards (has-card (mask k.newest) x (site-member k.setting k.newest b x (legal-newest k good) hb h))) hb)

    lock-outside : (t r : ℕ) (o : Option ℕ) → updated (lock_holders P k v t r o x b) empty ≡ empty
    unfolding lock_holders
    lock-outside t r o = rw no-holder (go (eqb b (block_of r)))
      where
        go : (d : Bool) → updated (cond {A = Option Block} d none none) empty ≡ empty
        go true = refl
        go false = refl

    lay-outside : (t r : ℕ) (o : Option ℕ) → ltb (block_of r) (blocks k.setting) ≡ true → updated (lay_block P k t r o x b) empty ≡ empty
    unfolding lay_block
    lay-outside t r o hb = rw (none_here (split (eqb b (block_of r))))
      where
        none_here : (eqb b (block_of r) ≡ true) ⊎ (eqb b (block_of r) ≡ false) → (eqb b (block_of r) && elem x (newest_sites P k b)) ≡ false
        none_here (inl e) = rw e (no-site (ap (λ (n : ℕ). ltb n (blocks k.setting)) (eqb-true b (block_of r) e) ∙ hb))
        none_here (inr e) = rw e

    clear-outside : (c : ℕ) → updated (clear_card P c x b) empty ≡ empty
    unfolding clear_card
    clear-outside c = go (eqb x c)
      where
        go : (d : Bool) → updated (cond d (some empty) none) empty ≡ empty
        go true = refl
        go false = refl

    move-outside : (c m : ℕ) → ltb m (blocks k.setting) ≡ true → updated (move_writes P k v c m x b) empty ≡ empty
    unfolding move_writes
    move-outside c m hm = go (split (eqb b m))
      where
        last : (d : Bool) → updated (cond d (some empty) none) empty ≡ empty
        last true = refl
        last false = refl

        go : (eqb b m ≡ true) ⊎ (eqb b m ≡ false) → updated (move_writes P k v c m x b) empty ≡ empty
        go (inl e) = rw (e, no-site (ap (λ (n : ℕ). ltb n (blocks k.setting)) (eqb-true b m e) ∙ hm)) (last (eqb x c))
        go (inr e) = rw e

    store-outside : (t r n : ℕ) (l : List ℕ) → ltb (block_of r) (blocks k.setting) ≡ true → updated (store_writes P k v t r n l x b) empty ≡ empty
    store-outside t r n [] hb = lay-outside t r (some n) hb
    store-outside t r n (h ∷ l) hb = lock-outside t r (some n)

    pub write-outside : (c : Call P) → refusal P c k v ≡ 0 → updated ((act P c k v).write x b) empty ≡ empty
    unfolding act refusal end_held drop_held
    write-outside (start a) e = refl
    write-outside (begin t h) e = refl
    write-outside (get t r) e = refl
    write-outside (store t r n) e = store-outside t r n (holders P k v (block_of r)) (rec-block k.setting r
        (and_r (tran_in_range t) (rec_in_range k.setting r) (and_l (tran_in_range t && rec_in_range k.setting r) (value_in_range n)
        (row-3 (tran_in_range t && rec_in_range k.setting r && value_in_range n) e).0)))
    write-outside (delete t r) e = either (is_none (read_by t (seen_slot P k v r)))
      where
        either : (d : Bool) → updated ((cond {A = Plan P} d (unwritten P absent k) (writing P ok k (lock_holders P k v t r none))).write x b) empty ≡ empty
        either true = refl
        either false = lock-outside t r none
    write-outside (commit t) e = rw not-held
    write-outside (rollback t) e = rw not-held
    write-outside (fit c) e = clear-outside c
    write-outside (withdraw c) e = clear-outside c
    write-outside (place a) e = refl
    write-outside (fail c) e = either k.stopped (stopping P k c)
      where
        either : (s d : Bool) → updated ((cond {A = Plan P} s (unwritten P stops (marked P k c)) (cond d (stop_plan P k v c) (fail_plan P k v c))).write x b) empty ≡ empty
        either true d = refl
        either false true = rw not-held
        either false false = rw not-held
    write-outside (move c m) e = move-outside c m (and_r (ltb c cards) (ltb m (blocks k.setting)) (row-3 (ltb c cards && ltb m (blocks k.setting)) e).0)
    write-outside settle e = refl
    write-outside state e = refl
    write-outside (load c) e = refl

  -- ---- stamps
  -- what is written of a card's stamp is none, or the stamp of the control part after the call
  abbrev pub Written : (Stamp → Type 0) → Option Stamp → Type 0
  Written Q none = Unit {0}
  Written Q (some m) = Q m

  written-if : (Q : Stamp → Type 0) (b : Bool) (m : Stamp) → Q m → Written Q (cond b (some m) none)
  written-if Q true m q = q
  written-if Q false m q = tt

  pub stamp-written : (Q : Stamp → Type 0) (k : Control P) (v : View P) (c : Call P) → Q no_stamp → Q (stamp_of (act P c k v).after) → (x : ℕ) → Written Q ((act P c k v).stamps x)
  unfolding act stamp_all clear_stamp stamped
  stamp-written Q k v (start a) z q x = go (has (mask (Parameters.starts P a)) x)
    where
      go : (b : Bool) → Q (updated (cond b (some (stamp_of (started_by P a))) none) no_stamp)
      go true = q
      go false = z
  stamp-written Q k v (begin t h) z q x = tt
  stamp-written Q k v (get t r) z q x = tt
  stamp-written Q k v (store t r n) z q x = tt
  stamp-written Q k v (delete t r) z q x = either (is_none (read_by t (seen_slot P k v r)))
    where
      either : (d : Bool) → Written Q ((cond {A = Plan P} d (unwritten P absent k) (writing P ok k (lock_holders P k v t r none))).stamps x)
      either true = tt
      either false = tt
  stamp-written Q k v (commit t) z q x = tt
  stamp-written Q k v (rollback t) z q x = tt
  stamp-written Q k v (fit c) z q x = written-if Q (eqb x c) no_stamp z
  stamp-written Q k v (withdraw c) z q x = written-if Q (eqb x c) no_stamp z
  stamp-written Q k v (place a) z q x = written-if Q (has k.working x) _ q
  stamp-written Q k v (fail c) z q x = either k.stopped (stopping P k c) q
    where
      both : (d : Bool) → Q (stamp_of (replaced P k c)) → Written Q (cond d (cond (has (replaced P k c).working x) (some (stamp_of (replaced P k c))) none) none)
      both true h = written-if Q (has (replaced P k c).working x) (stamp_of (replaced P k c)) h
      both false h = tt

      either : (s d : Bool) → Q (stamp_of (cond {A = Plan P} s (unwritten P stops (marked P k c)) (cond d (stop_plan P k v c) (fail_plan P k v c))).after)
          → Written Q ((cond {A = Plan P} s (unwritten P stops (marked P k c)) (cond d (stop_plan P k v c) (fail_plan P k v c))).stamps x)
      either true d h = tt
      either false true h = tt
      either false false h = both (has (mask k.newest) c) h
  stamp-written Q k v (move c b) z q x = tt
  stamp-written Q k v settle z q x = tt
  stamp-written Q k v state z q x = tt
  stamp-written Q k v (load c) z q x = tt

  -- and nothing of what is no card
  module _ (k : Control P) (v : View P) (x : ℕ) (out : ltb x cards ≡ false) where
    not_in : (m : Parameters.Mask P) → has m x ≡ false
    not_in m = never_true (has m x) (λ h. tf (ltb x cards) (lt-ltb x cards (has-card m x h)) out)

    clear-stamp : (c : ℕ) → updated (clear_stamp P c x) no_stamp ≡ no_stamp
    unfolding clear_stamp
    clear-stamp c = go (eqb x c)
      where
        go : (d : Bool) → updated (cond d (some no_stamp) none) no_stamp ≡ no_stamp
        go true = refl
        go false = refl

    pub stamp-outside : (c : Call P) → updated ((act P c k v).stamps x) no_stamp ≡ no_stamp
    unfolding act stamp_all stamped
    stamp-outside (start a) = rw (not_in (mask (Parameters.starts P a)))
    stamp-outside (begin t h) = refl
    stamp-outside (get t r) = refl
    stamp-outside (store t r n) = refl
    stamp-outside (delete t r) = either (is_none (read_by t (seen_slot P k v r)))
      where
        either : (d : Bool) → updated ((cond {A = Plan P} d (unwritten P absent k) (writing P ok k (lock_holders P k v t r none))).stamps x) no_stamp ≡ no_stamp
        either true = refl
        either false = refl
    stamp-outside (commit t) = refl
    stamp-outside (rollback t) = refl
    stamp-outside (fit c) = clear-stamp c
    stamp-outside (withdraw c) = clear-stamp c
    stamp-outside (place a) = rw (not_in k.working)
    stamp-outside (fail c) = either k.stopped (stopping P k c)
      where
        both : (d : Bool) → updated (cond {A = Option Stamp} d none none) no_stamp ≡ no_stamp
        both true = refl
        both false = refl

        either : (s d : Bool) → updated ((cond {A = Plan P} s (unwritten P stops (marked P k c)) (cond d (stop_plan P k v c) (fail_plan P k v c))).stamps x) no_stamp ≡ no_stamp
        either true d = refl
        either false true = refl
        either false false = rw (not_in (replaced P k c).working) (both (has (mask k.newest) c))
    stamp-outside (move c b) = refl
    stamp-outside settle = refl
    stamp-outside state = refl
    stamp-outside (load c) = refl
