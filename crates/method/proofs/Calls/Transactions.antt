-- begin, commit, rollback. Assumes nothing.
use Prim.Native.Nat.{suc, zero, ℕ}
use lib.Dec.{eqb}
use lib.ListN.{take}
use mathlib.Core.Bool.{Bool, cond, false, not, true}
use mathlib.Core.Logic.{◌⊎◌, inl, inr}
use mathlib.Core.Option.{Option, none, some}
use mathlib.Core.Path.{◌∙◌, ◌≡◌, ap, refl}
use Rattle.lists.proofs.Bools.{split}
use Rattle.method.specs.Changes.{Control}
use Rattle.method.specs.ControlPart.{is_open, with_home}
use Rattle.method.specs.OneRecordList.{client, plain_observe, quiet}
use Rattle.method.specs.Parameters.{Parameters}
use Rattle.method.specs.PlainList.{or_refused, plain_act, plain_next, plain_refusal}
use Rattle.method.specs.Rules.{unless_refused}
use Rattle.method.specs.Rules.{View, act, begin, commit, end_held, guarded, ok, plan, refusal, refused, rollback}
use Rattle.method.specs.Rules.{row, updated}
use Rattle.method.specs.Slots.{Slot, ended}
use Rattle.method.proofs.Calls.Agreement.{Agrees, Good, idle-still, plain_of}
use Rattle.method.proofs.ControlForms.{form-home}
use Rattle.method.proofs.Invariant.{Invariant}
use Rattle.method.proofs.Keeping.{kept, next-idle, next_view}
use Rattle.method.proofs.Laws.{Laws}
use Rattle.method.proofs.Slots.{ended-blank}

module _ (P : Parameters) (L : Laws P) where
  open P use {tran_in_range, held}
  open L use {held-end, slot-end}

  module _ (k : Control P) (v : View P) (records : ℕ → Slot) (i : Invariant P k v records) where
    -- ---- begin
    home-inv : (h : ℕ → Option ℕ) → Invariant P (with_home k h) (next_view P L (with_home k h) (λ c b. none) v) records
    home-inv h = record {
      form = form-home P L k i.form h;
      idle = next-idle P L (with_home k h) (λ c b. none) v;
      each = λ b ok. kept P L k v records i (with_home k h) (λ c b. none) records b ok ok (λ p m. m) (λ p c m x y. y) (λ c x. refl) (λ c r x y z o. o) (λ n r e. n.1 r e);
    }

    pub step-begin : (t h : ℕ) → Agrees P L k v records (begin t h)
    unfolding plan refusal act plain_observe plain_next plain_refusal plain_act
    step-begin t h = go (refusal P (begin t h) k v) refl
      where
        go : (n : ℕ) → refusal P (begin t h) k v ≡ n → Good P L v (begin t h) (guarded P n k (act P (begin t h) k v)) quiet
            (unless_refused n (plain_of P k records) (plain_act P (begin t h) (plain_of P k records)))
        go zero e = record { sight = refl; goes = λ z. (refl, home-inv (λ x. cond (eqb x t) (some h) (k.home x))) }
        go (suc n) e = idle-still P L k v records i (begin t h) (refused (suc n)) quiet refl

    -- ---- commit, rollback
    end_same : (t : ℕ) → row 3 (not (tran_in_range t)) (row 4 k.stopped (row 5 (not (is_open k t)) 0)) ≡ row 3 (not (tran_in_range t)) (row 5 (not (is_open k t)) 0)
    end_same t = rw i.form.base.running

    end-inv : (take : Bool) (f : ℕ → Bool) (h : ℕ → Option ℕ) → Invariant P (with_home k h) (next_view P L (with_home k h) (end_held P take f v) v) (λ r. ended take f (records r))
    unfolding end_held
    end-inv take f h = record {
      form = form-home P L k i.form h;
      idle = next-idle P L (with_home k h) (end_held P take f v) v;
      each = λ b ok. kept P L k v records i (with_home k h) (end_held P take f v) (λ r. ended take f (records r)) b ok ok (λ p m. m) (λ p c m x y. y)
          (λ c x. kind c b (split (held (v c b)))) (λ c r x y z o. rw y (slot-end take f (v c b) r ∙ ap (ended take f) o)) (λ n r e. rw (n.1 r e) (ended-blank take f));
    }
      where
        kind : (c b : ℕ) → (held (v c b) ≡ true) ⊎ (held (v c b) ≡ false) → held (updated (end_held P take f v c b) (v c b)) ≡ held (v c b)
        kind c b (inl e) = rw e (held-end take f (v c b) ∙ e)
        kind c b (inr e) = rw e e

    pub step-commit : (t : ℕ) → Agrees P L k v records (commit t)
    unfolding plan refusal act plain_observe plain_next plain_refusal plain_act
    step-commit t = rw (← (end_same t)) (go (row 3 (not (tran_in_range t)) (row 4 k.stopped (row 5 (not (is_open k t)) 0))) refl)
      where
        go : (n : ℕ) → row 3 (not (tran_in_range t)) (row 4 k.stopped (row 5 (not (is_open k t)) 0)) ≡ n
            → Good P L v (commit t) (guarded P n k (act P (commit t) k v)) (client (or_refused P n ok)) (unless_refused n (plain_of P k records) (plain_act P (commit t) (plain_of P k records)))
        go zero e = record { sight = refl; goes = λ z. (refl, end-inv true (λ x. eqb x t) (λ x. cond (eqb x t) none (k.home x))) }
        go (suc n) e = idle-still P L k v records i (commit t) (refused (suc n)) (client (refused (suc n))) refl

    pub step-rollback : (t : ℕ) → Agrees P L k v records (rollback t)
    unfolding plan refusal act plain_observe plain_next plain_refusal plain_act
    step-rollback t = rw (← (end_same t)) (go (row 3 (not (tran_in_range t)) (row 4 k.stopped (row 5 (not (is_open k t)) 0))) refl)
      where
        go : (n : ℕ) → row 3 (not (tran_in_range t)) (row 4 k.stopped (row 5 (not (is_open k t)) 0)) ≡ n
            → Good P L v (rollback t) (guarded P n k (act P (rollback t) k v)) (client (or_refused P n ok)) (unless_refused n (plain_of P k records) (plain_act P (rollback t) (plain_of P k records)))
        go zero e = record { sight = refl; goes = λ z. (refl, end-inv false (λ x. eqb x t) (λ x. cond (eqb x t) none (k.home x))) }
        go (suc n) e = idle-still P L k v records i (rollback t) (refused (suc n)) (client (refused (suc n))) refl
