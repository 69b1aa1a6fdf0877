-- fail. Assumes nothing.
use Prim.Native.Nat.{◌≤◌, suc, ℕ}
use borrow.Author.Tests.{lt-ltb, ne_eqb}
use lib.Dec.{eqb, ltb}
use mathlib.Core.Bool.{Bool, ◌&&◌, ◌||◌, and-true, cond, false, not, true}
use mathlib.Core.List.{[], ◌∷◌}
use mathlib.Core.Logic.{◌⊎◌, inl, inr}
use mathlib.Core.Option.{none}
use mathlib.Core.Path.{◌∙◌, ◌≡◌, ap, refl, subst, sym}
use native.Mathlib.Omega.{arith}
use Rattle.lists.specs.Tests.{In, count_below}
use Rattle.lists.proofs.Bools.{and_in, and_l, and_r, nor-l, nor-r, not_is, split, tf}
use Rattle.lists.proofs.Counts.{count-mono}
use Rattle.lists.proofs.Lists.{any_none, in_left}
use Rattle.method.specs.Changes.{Control, added_by, marked, replaced}
use Rattle.method.specs.ControlPart.{active, begun_at, closed}
use Rattle.method.specs.OneRecordList.{Observation, failing, is_stop, plain_observe}
use Rattle.method.specs.Parameters.{Parameters}
use Rattle.method.specs.PlainList.{end_records, plain_act, plain_next, plain_refusal, stops_now}
use Rattle.method.specs.Rules.{unless_refused}
use Rattle.method.specs.Rules.{View, act, drop_held, fail, fail_plan, stop_plan, guarded, lost, placed, plan, refusal}
use Rattle.method.specs.Rules.{refused, row, stopping, stops, unplaced, unwritten, updated, visible}
use Rattle.method.specs.Slots.{Slot, ended}
use Rattle.method.proofs.Calls.Agreement.{Agrees, Good, idle-still, plain_of}
use Rattle.method.proofs.ControlForms.{base-home, form-added}
use Rattle.method.proofs.Invariant.{Base, BlockInv, Form, Invariant, newest-in}
use Rattle.method.proofs.Keeping.{kept, next-idle, next_view}
use Rattle.method.proofs.Laws.{Laws}
use Rattle.method.proofs.Slots.{ended-blank}
use Rattle.method.proofs.StopRule.{enough-work, stop-same}

module _ (P : Parameters) (L : Laws P) where
  open P use {Placement, cards, copies, blocks, has, insert, remove, mask, without, held, marks_while_stopped}
  open L use {has-card, has-insert, has-remove, has-without, usable-without, held-end, slot-end}

  module _ (k : Control P) (v : View P) (records : ℕ → Slot) (i : Invariant P k v records) where
    -- ---- fail
    module _ (c : ℕ) (c-ok : ltb c cards ≡ true) (on : has k.working c ≡ true) (no_stop : stopping P k c ≡ false) where
      -- working afterwards: worked before, and is another card
      was : (x : ℕ) → has (remove k.working c) x ≡ true → has k.working x ≡ true
      was x h = and_l (has k.working x) (not (eqb x c)) (rw (has-remove k.working c x) at h)

      differs : (x : ℕ) → has (remove k.working c) x ≡ true → eqb x c ≡ false
      differs x h = not_is (eqb x c) (and_r (has k.working x) (not (eqb x c)) (rw (has-remove k.working c x) at h))

      is-on : (x : ℕ) → has k.working x ≡ true → eqb x c ≡ false → has (remove k.working c) x ≡ true
      is-on x h n = rw (has-remove k.working c x, n) (and-true (has k.working x) ∙ h)

      base-marked : Base P (marked P k c)
      unfolding stopping
      base-marked = record {
        running = i.form.base.running;
        apart = λ x h. rw (has-insert k.failed c x c-ok, differs x h) (i.form.base.apart x (was x h));
        known = λ p x m h n. known' p x m h (rw (has-insert k.failed c x c-ok) at n);
        sound = i.form.base.sound;
        safe = λ p m. any_none (lost P (marked P k c)) (active k) p no_stop m;
      }
        where
          known' : (p : Placement) (x : ℕ) → In p (active k) → has (mask p) x ≡ true → (eqb x c || has k.failed x) ≡ false → has (remove k.working c) x ≡ true
          known' p x m h n = is-on x (i.form.base.known p x m h (nor-r (eqb x c) (has k.failed x) n)) (nor-l (eqb x c) (has k.failed x) n)

      k1 : Control P
      k1 = closed (marked P k c) (begun_at k c)

      base1 : Base P k1
      unfolding k1
      base1 = base-home P L (marked P k c) base-marked (λ x. cond (begun_at k c x) none (k.home x))

      -- the new placement, without the card
      many : copies k.setting ≤ count_below cards (has (mask (without k.newest c)))
      many =
          let a : ℕ = count_below cards (λ x. has (mask k.newest) x && has (remove k.working c) x) in
          let s = base-marked.safe k.newest (newest-in P k) in
          let h : copies k.setting ≤ a = enough-work P k.setting (remove k.working c) (insert k.failed c) (mask k.newest) s in
          let g : a ≤ count_below cards (has (mask (without k.newest c))) = count-mono cards (λ x. has (mask k.newest) x && has (remove k.working c) x)
          (has (mask (without k.newest c))) inc in
          omega arith
        where
          inc : (x : ℕ) → (has (mask k.newest) x && has (remove k.working c) x) ≡ true → has (mask (without k.newest c)) x ≡ true
          inc x e = has-without k.newest c x ∙ and_in (has (mask k.newest) x) (not (eqb x c)) (and_l (has (mask k.newest) x) (has (remove k.working c) x) e)
              (rw (differs x (and_r (has (mask k.newest) x) (has (remove k.working c) x) e)))

      fail-in : Form P (added_by P k1 (without k.newest c))
      unfolding k1
      fail-in = form-added P L k1 base1 (without k.newest c) (usable-without k.setting k.newest c many) many wk
        where
          wk : (x : ℕ) → has (mask (without k.newest c)) x ≡ true → has (remove k.working c) x ≡ true
          wk x h =
              let e : (has (mask k.newest) x && not (eqb x c)) ≡ true = rw (has-without k.newest c x) at h in
              is-on x (i.form.new_works x (and_l (has (mask k.newest) x) (not (eqb x c)) e)) (not_is (eqb x c) (and_r (has (mask k.newest) x) (not (eqb x c)) e))

      fail-out : has (mask k.newest) c ≡ false → Form P k1
      unfolding k1
      fail-out n = record { base = base1; new_works = λ x h. is-on x (i.form.new_works x h) (ne_eqb x c (λ e. tf (has (mask k.newest) c) (rw e at h) n)) }

      -- the tables: one lemma for both
      module _ (k' : Control P) (set : k'.setting ≡ k.setting) (wk : k'.working ≡ remove k.working c) (sub : (p : Placement) → In p (active k) → In p (active k')) where
        f : ℕ → Bool
        f = begun_at k c

        fail-block : (b : ℕ) → ltb b (blocks k.setting) ≡ true → BlockInv P k.setting (active k') (has k'.working) (next_view P L k' (drop_held P (begun_at k c) c v) v)
            (λ r. ended false (begun_at k c) (records r)) b
        unfolding drop_held
        fail-block b bk = kept P L k v records i k' (drop_held P (begun_at k c) c v) (λ r. ended false (begun_at k c) (records r)) b bk (rw set bk) sub
            (λ p x m h w. was x (rw wk at w))
            (λ x s. kind x (not-c x s) (split (held (v x b))))
            (λ x r s h e o. rw (h, not-c x s) (slot-end false (begun_at k c) (v x b) r ∙ ap (ended false (begun_at k c)) o))
            (λ n r e. rw (n.1 r e) (ended-blank false (begun_at k c)))
          where
            not-c : (x : ℕ) → visible P k' x b ≡ true → eqb x c ≡ false
            not-c x s = differs x (rw wk at (and_l (has k'.working x) (ltb b (blocks k'.setting)) s))

            kind : (x : ℕ) → eqb x c ≡ false → (held (v x b) ≡ true) ⊎ (held (v x b) ≡ false) → held (updated (drop_held P (begun_at k c) c v x b) (v x b)) ≡ held (v x b)
            kind x n (inl e) = rw (e, n) (held-end false (begun_at k c) (v x b) ∙ e)
            kind x n (inr e) = rw e e

      fail-inv : (b : Bool) → has (mask k.newest) c ≡ b
          → Invariant P (cond b (added_by P k1 (without k.newest c)) k1) (next_view P L (cond b (added_by P k1 (without k.newest c)) k1) (drop_held P (begun_at k c) c v) v)
          (λ r. ended false (begun_at k c) (records r))
      unfolding k1
      fail-inv true e = record {
        form = fail-in;
        idle = next-idle P L (added_by P k1 (without k.newest c)) (drop_held P (begun_at k c) c v) v;
        each = fail-block (added_by P k1 (without k.newest c)) refl refl (λ p m. in_left (active k) (without k.newest c ∷ []) p m);
      }
      fail-inv false e = record {
        form = fail-out e;
        idle = next-idle P L k1 (drop_held P (begun_at k c) c v) v;
        each = fail-block k1 refl refl (λ p m. m);
      }

    pub refusal-on : (c : ℕ) → has k.working c ≡ true → refusal P (fail c) k v ≡ 0
    unfolding refusal
    refusal-on c on = rw (on, lt-ltb c cards (has-card k.working c on), i.form.base.running)

    refusal-off : (c : ℕ) → has k.working c ≡ false → (n : ℕ) × (refusal P (fail c) k v ≡ suc n)
    unfolding refusal
    refusal-off c off = go (split (ltb c cards))
      where
        go : (ltb c cards ≡ true) ⊎ (ltb c cards ≡ false) → (n : ℕ) × (row 3 (not (ltb c cards)) (row 4 (k.stopped && not marks_while_stopped) (row 8 (not (has k.working c)) 0)) ≡ suc n)
        go (inl e) = (7, rw (e, off, i.form.base.running))
        go (inr e) = (2, rw e)

    pub step-fail : (c : ℕ) → Agrees P L k v records (fail c)
    unfolding plan act plain_observe plain_next plain_refusal plain_act
    step-fail c = go (split (has k.working c))
      where
        Goal : ℕ → Type 0
        Goal n = Good P L v (fail c) (guarded P n k (act P (fail c) k v)) (failing (has k.working c && stops_now P k c))
            (unless_refused (row 8 (not (has k.working c)) 0) (plain_of P k records) (plain_act P (fail c) (plain_of P k records)))

        branch : has k.working c ≡ true → (s : Bool) → s ≡ false → (b : Bool) → stopping P k c ≡ b
            → Good P L v (fail c) (cond s (unwritten P stops (marked P k c)) (cond b (stop_plan P k v c) (fail_plan P k v c)))
            (failing b) (end_records P (plain_of P k records) false (begun_at k c) (replaced P k c))
        branch on true z b e = tf true refl z
        branch on false z true e = record { sight = refl; goes = λ z. tf true refl z }
        branch on false z false e = record {
          sight = quiet-fail (has (mask k.newest) c);
          goes = λ z.
              (refl, unfold k1 in (fail-inv c (lt-ltb c cards (has-card k.working c on)) on e (has (mask k.newest) c) refl));
        }
          where
            quiet-fail : (b : Bool) → ◌≡◌ {A = Observation P} (failing (is_stop P (cond b (placed (mask (without k.newest c))) unplaced))) (failing false)
            quiet-fail true = refl
            quiet-fail false = refl

        go : (has k.working c ≡ true) ⊎ (has k.working c ≡ false) → Goal (refusal P (fail c) k v)
        go (inl on) = subst Goal (sym (refusal-on c on))
            (rw (on, stop-same P L k c (lt-ltb c cards (has-card k.working c on))) (branch on k.stopped i.form.base.running (stopping P k c) refl))
        go (inr off) = subst Goal (sym (refusal-off c off).1) (rw off (idle-still P L k v records i (fail c) (refused (suc (refusal-off c off).0)) (failing false) refl))
