-- What a call may read of the tables after noise and after a call. Assumes nothing.
use Prim.Native.Nat.{suc, zero, ℕ}
use lib.Dec.{eqb, ltb}
use mathlib.Core.Bool.{Bool, ◌&&◌, cond, false, not, true}
use mathlib.Core.Logic.{◌⊎◌, inl, inr}
use mathlib.Core.Option.{Option, none, some}
use mathlib.Core.Path.{◌≡◌, fun_ext, refl}
use native.Mathlib.Omega.{arith}
use Rattle.lists.proofs.Bools.{and_in, and_l, and_r, not-not-is, split}
use Rattle.method.specs.Changes.{Control, added_by, marked}
use Rattle.method.specs.ControlPart.{begun_at, closed, with_cards}
use Rattle.method.specs.OneRecordList.{Noise, disturb}
use Rattle.method.specs.Parameters.{Parameters}
use Rattle.method.specs.Rules.{Call, Plan, State, View, absent, act, apply, begin, clear_card, commit, delete}
use Rattle.method.specs.Rules.{fail, fail_plan, stop_plan, fit, get, guarded, load, lock_holders, look, move, ok}
use Rattle.method.specs.Rules.{place, plan, refusal, refused, rollback, seen_slot, settle, start, state, stopping}
use Rattle.method.specs.Rules.{stops, store, unwritten, updated, visible, withdraw, writing}
use Rattle.method.specs.Slots.{is_none, read_by}
use Rattle.method.proofs.Keeping.{next_view}
use Rattle.method.proofs.Laws.{Laws}
use Rattle.method.proofs.Refusals.{row-clear}

pub some≢none : {A : Type 0} (x : A) → ◌≡◌ {A = Option A} (some x) none → ⊥
some≢none x e = let z : ◌≡◌ {A = ℕ} 0 1 = cc in omega arith

module _ (P : Parameters) (L : Laws P) where
  open P use {Block, cards, blocks, has, insert, remove, mask, without, empty}
  open L use {has-insert, has-remove}

  -- ---- noise: what the rules see of a state
  pub look-disturb : (g : Noise P) (s : State P) → ((c : ℕ) → has s.control.working c ≡ true → has s.control.failed c ≡ false) → look P (disturb P g s) ≡ look P s
  unfolding look disturb
  look-disturb g s apart = fun_ext (λ c. fun_ext (λ b. go c b (split (visible P s.control c b))))
    where
      go : (c b : ℕ) → (visible P s.control c b ≡ true) ⊎ (visible P s.control c b ≡ false)
          → cond (visible P s.control c b) (cond (has s.control.failed c) (g.block c b) (s.block c b)) empty ≡ cond (visible P s.control c b) (s.block c b) empty
      go c b (inl e) = rw (e, apart c (and_l (has s.control.working c) (ltb b (blocks s.control.setting)) e))
      go c b (inr e) = rw e

  -- a card that a call makes visible is written by it
  abbrev pub Seen-before : Control P → Plan P → Type 0
  Seen-before k p = (c b : ℕ) → visible P p.after c b ≡ true → p.write c b ≡ none → visible P k c b ≡ true

  pub look-next : (p : Plan P) (s : State P) → Seen-before s.control p → look P (apply P p s) ≡ next_view P L p.after p.write (look P s)
  unfolding look apply next_view
  look-next p s old = fun_ext (λ c. fun_ext (λ b. go c b (split (visible P p.after c b)) (p.write c b) refl))
    where
      go : (c b : ℕ) → (visible P p.after c b ≡ true) ⊎ (visible P p.after c b ≡ false) → (w : Option Block) → p.write c b ≡ w
          → cond (visible P p.after c b) (updated (p.write c b) (s.block c b)) empty ≡ cond (visible P p.after c b)
          (updated (p.write c b) (cond (visible P s.control c b) (s.block c b) empty)) empty
      go c b (inl e) none q = rw (e, q, old c b e q)
      go c b (inl e) (some x) q = rw (e, q)
      go c b (inr e) w q = rw e

  module _ (k : Control P) (v : View P) where
    kept-sight : (p : Plan P) → p.after.working ≡ k.working → p.after.setting ≡ k.setting → Seen-before k p
    kept-sight p w s c b h n = rw (w, s) at h

    lost-sight : (p : Plan P) (x : ℕ) → p.after.working ≡ remove k.working x → p.after.setting ≡ k.setting → Seen-before k p
    lost-sight p x w s c b h n =
        let g : (has (remove k.working x) c && ltb b (blocks k.setting)) ≡ true = rw (w, s) at h in
        let d : (has k.working c && not (eqb c x)) ≡ true = rw (has-remove k.working x c) at (and_l (has (remove k.working x) c) (ltb b (blocks k.setting)) g) in
        and_in (has k.working c) (ltb b (blocks k.setting)) (and_l (has k.working c) (not (eqb c x)) d) (and_r (has (remove k.working x) c) (ltb b (blocks k.setting)) g)

    either : (b : Bool) (p q : Plan P) → Seen-before k p → Seen-before k q → Seen-before k (cond b p q)
    either true p q x y = x
    either false p q x y = y

    replaced-working : (x : ℕ) (b : Bool) → (cond b (added_by P (closed (marked P k x) (begun_at k x)) (without k.newest x)) (closed (marked P k x) (begun_at k x))).working ≡ remove k.working x
    replaced-working x true = refl
    replaced-working x false = refl

    replaced-setting : (x : ℕ) (b : Bool) → (cond b (added_by P (closed (marked P k x) (begun_at k x)) (without k.newest x)) (closed (marked P k x) (begun_at k x))).setting ≡ k.setting
    replaced-setting x true = refl
    replaced-setting x false = refl

    fit-sight : (x : ℕ) → ltb x cards ≡ true → Seen-before k (writing P ok (with_cards k (insert k.working x) (remove k.failed x)) (clear_card P x))
    unfolding clear_card
    fit-sight x x-ok c b h n = go (split (eqb c x))
      where
        go : (eqb c x ≡ true) ⊎ (eqb c x ≡ false) → visible P k c b ≡ true
        go (inl e) = absurd (some≢none empty (rw e at n))
        go (inr e) = rw (has-insert k.working x c x-ok, e) at h

    act-sight : (c : Call P) → refusal P c k v ≡ 0 → Seen-before k (act P c k v)
    unfolding act refusal clear_card
    act-sight (start a) r = λ c b h n. absurd (some≢none empty n)
    act-sight (begin t h) r = kept-sight (act P (begin t h) k v) refl refl
    act-sight (get t x) r = kept-sight (act P (get t x) k v) refl refl
    act-sight (store t x n) r = kept-sight (act P (store t x n) k v) refl refl
    act-sight (delete t x) r = either (is_none (read_by t (seen_slot P k v x))) (unwritten P absent k) (writing P ok k (lock_holders P k v t x none))
        (kept-sight (unwritten P absent k) refl refl) (kept-sight (writing P ok k (lock_holders P k v t x none)) refl refl)
    act-sight (commit t) r = kept-sight (act P (commit t) k v) refl refl
    act-sight (rollback t) r = kept-sight (act P (rollback t) k v) refl refl
    act-sight (fit x) r = fit-sight x (not-not-is (ltb x cards) (row-clear (not (ltb x cards)) 2 r).0)
    act-sight (withdraw x) r = lost-sight (act P (withdraw x) k v) x refl refl
    act-sight (place a) r = kept-sight (act P (place a) k v) refl refl
    act-sight (fail x) r = either k.stopped (unwritten P stops (marked P k x)) (cond (stopping P k x) (stop_plan P k v x) (fail_plan P k v x))
        (lost-sight (unwritten P stops (marked P k x)) x refl refl)
        (either (stopping P k x) (stop_plan P k v x) (fail_plan P k v x)
        (lost-sight (stop_plan P k v x) x refl refl)
        (lost-sight (fail_plan P k v x) x (replaced-working x (has (mask k.newest) x)) (replaced-setting x (has (mask k.newest) x))))
    act-sight (move x b) r = kept-sight (act P (move x b) k v) refl refl
    act-sight settle r = kept-sight (act P settle k v) refl refl
    act-sight state r = kept-sight (act P state k v) refl refl
    act-sight (load x) r = kept-sight (act P (load x) k v) refl refl

    pub plan-sight : (c : Call P) → Seen-before k (plan P c k v)
    unfolding plan
    plan-sight c = go (refusal P c k v) refl
      where
        go : (n : ℕ) → refusal P c k v ≡ n → Seen-before k (guarded P n k (act P c k v))
        go zero e = act-sight c e
        go (suc n) e = kept-sight (unwritten P (refused (suc n)) k) refl refl
