-- start, fit, withdraw, place. Assumes nothing.
use Prim.Native.Nat.{suc, zero, ℕ}
use borrow.Author.Tests.{eqb-true, ne_eqb}
use lib.Dec.{eqb, ltb}
use mathlib.Core.Bool.{◌&&◌, ◌||◌, and-true, false, not, true}
use mathlib.Core.List.{[], ◌∷◌}
use mathlib.Core.Logic.{◌⊎◌, inl, inr}
use mathlib.Core.Option.{none, some}
use mathlib.Core.Path.{◌∙◌, ◌≡◌, ap, refl, sym}
use Rattle.lists.specs.Tests.{In}
use Rattle.lists.proofs.Bools.{and_l, and_r, never_true, nor-l, nor-r, not_is, split, tf}
use Rattle.lists.proofs.Lists.{any_none, in_left}
use Rattle.method.specs.Changes.{Control, added_by, started_by}
use Rattle.method.specs.ControlPart.{active, with_cards}
use Rattle.method.specs.OneRecordList.{plain_observe, quiet}
use Rattle.method.specs.Parameters.{Parameters}
use Rattle.method.specs.PlainList.{plain_act, plain_next, plain_refusal, plain_start}
use Rattle.method.specs.Rules.{unless_refused}
use Rattle.method.specs.Rules.{View, act, clear_card, fit, guarded, in_active, place, plan, refusal, refused}
use Rattle.method.specs.Rules.{start, updated, withdraw}
use Rattle.method.specs.Slots.{Slot, blank}
use Rattle.method.proofs.Calls.Agreement.{Agrees, Good, idle-still, plain_of}
use Rattle.method.proofs.ControlForms.{form-added, form-cards, form-started}
use Rattle.method.proofs.Invariant.{Invariant}
use Rattle.method.proofs.Keeping.{kept, next-held, next-idle, next_view}
use Rattle.method.proofs.Laws.{Laws}
use Rattle.method.proofs.Refusals.{row-3, row-clear}

module _ (P : Parameters) (L : Laws P) where
  open P use {Placement, StartArgument, PlaceArgument, cards, blocks, has, insert, remove, mask}
  open P use {start_refusal, places, place_in_range, place_refusal, empty, held}
  open L use {has-insert, has-remove, place-usable, place-many, place-works, held-empty}

  -- the invariant after a start, whatever was there
  pub start-inv : (v : View P) (a : StartArgument) → start_refusal a ≡ 0 → Invariant P (started_by P a) (next_view P L (started_by P a) (λ c b. some empty) v) (λ r. blank)
  start-inv v a e = record {
    form = form-started P L a e;
    idle = next-idle P L (started_by P a) (λ c b. some empty) v;
    each = λ b ok. record {
      trailed = λ c h. tf _ h (none-held c b);
      same = λ c r h z. tf _ h (none-held c b);
      cover = inr ((λ c. none-held c b), (λ r z. refl));
    };
  }
    where
      none-held : (c b : ℕ) → held (next_view P L (started_by P a) (λ c b. some empty) v c b) ≡ false
      none-held c b = never_true (held (next_view P L (started_by P a) (λ c b. some empty) v c b)) (λ h. tf (held empty) (next-held P L (started_by P a) (λ c b. some empty) v c b h) held-empty)

  module _ (k : Control P) (v : View P) (records : ℕ → Slot) (i : Invariant P k v records) where
    -- ---- start
    pub step_start : (a : StartArgument) → Agrees P L k v records (start a)
    unfolding plan refusal act plain_observe plain_next plain_refusal plain_act
    step_start a = go (start_refusal a) refl
      where
        go : (n : ℕ) → start_refusal a ≡ n → Good P L v (start a) (guarded P n k (act P (start a) k v)) quiet (unless_refused n (plain_of P k records) (plain_start P a))
        go zero e = record { sight = refl; goes = λ z. (refl, start-inv v a e) }
        go (suc n) e = idle-still P L k v records i (start a) (refused (suc n)) quiet refl

    -- ---- fit, withdraw
    -- a card in no active placement is no other card's name
    outside : (c : ℕ) → in_active P k c ≡ false → (p : Placement) (x : ℕ) → In p (active k) → has (mask p) x ≡ true → eqb x c ≡ false
    outside c n p x m h = ne_eqb x c (λ e. tf (has (mask p) c) (rw e at h) (any_none (λ q. has (mask q) c) (active k) p n m))

    fit-inv : (c : ℕ) → ltb c cards ≡ true → has k.working c ≡ false → in_active P k c ≡ false
        → Invariant P (with_cards k (insert k.working c) (remove k.failed c)) (next_view P L (with_cards k (insert k.working c) (remove k.failed c)) (clear_card P c) v) records
    unfolding clear_card
    fit-inv c c-ok off n = record {
      form = form-cards P L k i.form (insert k.working c) (remove k.failed c) (λ x h. apart x (split (eqb x c)) h)
          (λ p x m h. (rw (has-insert k.working c x c-ok, outside c n p x m h), rw (has-remove k.failed c x, outside c n p x m h) (and-true (has k.failed x))));
      idle = next-idle P L (with_cards k (insert k.working c) (remove k.failed c)) (clear_card P c) v;
      each = λ b bk. kept P L k v records i (with_cards k (insert k.working c) (remove k.failed c)) (clear_card P c) records b bk bk (λ p m. m)
          (λ p x m h w. rw (has-insert k.working c x c-ok, outside c n p x m h) at w)
          (λ x s. kind x b (split (eqb x c)))
          (λ x r s h e o. rw (differs x b h) o)
          (λ z r e. z.1 r e);
    }
      where
        gone : (b : ℕ) → held (v c b) ≡ false
        gone b = ap held (i.idle c b (rw off)) ∙ held-empty

        differs : (x b : ℕ) → held (v x b) ≡ true → eqb x c ≡ false
        differs x b h = ne_eqb x c (λ e. tf (held (v c b)) (rw e at h) (gone b))

        kind : (x b : ℕ) → (eqb x c ≡ true) ⊎ (eqb x c ≡ false) → held (updated (clear_card P c x b) (v x b)) ≡ held (v x b)
        kind x b (inl e) = rw e (held-empty ∙ sym (rw (eqb-true x c e) (gone b)))
        kind x b (inr e) = rw e refl

        apart : (x : ℕ) → (eqb x c ≡ true) ⊎ (eqb x c ≡ false) → has (insert k.working c) x ≡ true → has (remove k.failed c) x ≡ false
        apart x (inl e) h = rw (has-remove k.failed c x, e) (never_true (has k.failed x && false) (λ y. tf false (and_r (has k.failed x) false y) refl))
        apart x (inr e) h = rw (has-remove k.failed c x, e) (and-true (has k.failed x) ∙ i.form.base.apart x (rw (has-insert k.working c x c-ok, e) at h))

    pub step-fit : (c : ℕ) → Agrees P L k v records (fit c)
    unfolding plan refusal act plain_observe plain_next plain_refusal plain_act
    step-fit c = go (refusal P (fit c) k v) refl
      where
        go : (n : ℕ) → refusal P (fit c) k v ≡ n → Good P L v (fit c) (guarded P n k (act P (fit c) k v)) quiet (unless_refused n (plain_of P k records) (plain_act P (fit c) (plain_of P k records)))
        go zero e =
            let a = row-3 (ltb c cards) e in
            let b = (row-clear (has k.working c || in_active P k c) 7 (row-clear k.stopped 3 a.1).1).0 in
            record { sight = refl; goes = λ z. (refl, fit-inv c a.0 (nor-l (has k.working c) (in_active P k c) b) (nor-r (has k.working c) (in_active P k c) b)) }
        go (suc n) e = idle-still P L k v records i (fit c) (refused (suc n)) quiet refl

    withdraw-inv : (c : ℕ) → in_active P k c ≡ false
        → Invariant P (with_cards k (remove k.working c) k.failed) (next_view P L (with_cards k (remove k.working c) k.failed) (clear_card P c) v) records
    unfolding clear_card
    withdraw-inv c n = record {
      form = form-cards P L k i.form (remove k.working c) k.failed (λ x h. i.form.base.apart x (and_l (has k.working x) (not (eqb x c)) (rw (has-remove k.working c x) at h)))
          (λ p x m h. (rw (has-remove k.working c x, outside c n p x m h) (and-true (has k.working x)), refl));
      idle = next-idle P L (with_cards k (remove k.working c) k.failed) (clear_card P c) v;
      each = λ b bk. kept P L k v records i (with_cards k (remove k.working c) k.failed) (clear_card P c) records b bk bk (λ p m. m)
          (λ p x m h w. and_l (has k.working x) (not (eqb x c)) (rw (has-remove k.working c x) at w))
          (λ x s. rw (stays x b s) refl)
          (λ x r s h e o. rw (stays x b s) o)
          (λ z r e. z.1 r e);
    }
      where
        stays : (x b : ℕ) → (has (remove k.working c) x && ltb b (blocks k.setting)) ≡ true → eqb x c ≡ false
        stays x b s = not_is (eqb x c) (and_r (has k.working x) (not (eqb x c)) (rw (has-remove k.working c x) at (and_l (has (remove k.working c) x) (ltb b (blocks k.setting)) s)))

    pub step-withdraw : (c : ℕ) → Agrees P L k v records (withdraw c)
    unfolding plan refusal act plain_observe plain_next plain_refusal plain_act
    step-withdraw c = go (refusal P (withdraw c) k v) refl
      where
        go : (n : ℕ) → refusal P (withdraw c) k v ≡ n → Good P L v (withdraw c) (guarded P n k (act P (withdraw c) k v)) quiet
            (unless_refused n (plain_of P k records) (plain_act P (withdraw c) (plain_of P k records)))
        go zero e =
            let a = row-3 (ltb c cards) e in
            let b = (row-clear (not (has k.working c) || in_active P k c) 7 (row-clear k.stopped 3 a.1).1).0 in
            record { sight = refl; goes = λ z. (refl, withdraw-inv c (nor-r (not (has k.working c)) (in_active P k c) b)) }
        go (suc n) e = idle-still P L k v records i (withdraw c) (refused (suc n)) quiet refl

    -- ---- place
    pub step-place : (a : PlaceArgument) → Agrees P L k v records (place a)
    unfolding plan refusal act plain_observe plain_next plain_refusal plain_act
    step-place a = go (refusal P (place a) k v) refl
      where
        inv : place_refusal k a ≡ 0 → Invariant P (added_by P k (places k.newest a)) (next_view P L (added_by P k (places k.newest a)) (λ c b. none) v) records
        inv e = record {
          form = form-added P L k i.form.base (places k.newest a) (place-usable k a e) (place-many k a e) (λ c h. place-works k a c e h);
          idle = next-idle P L (added_by P k (places k.newest a)) (λ c b. none) v;
          each = λ b ok. kept P L k v records i (added_by P k (places k.newest a)) (λ c b. none) records b ok ok (λ p m. in_left (active k) (places k.newest a ∷ []) p m)
              (λ p c m x y. y) (λ c x. refl) (λ c r x y z o. o) (λ n r e. n.1 r e);
        }

        go : (n : ℕ) → refusal P (place a) k v ≡ n → Good P L v (place a) (guarded P n k (act P (place a) k v)) quiet
            (unless_refused n (plain_of P k records) (plain_act P (place a) (plain_of P k records)))
        go zero e = record { sight = refl; goes = λ z. (refl, inv (row-clear k.stopped 3 (row-clear (not (place_in_range a)) 2 e).1).1) }
        go (suc n) e = idle-still P L k v records i (place a) (refused (suc n)) quiet refl
