-- get, store, delete. Assumes nothing.
use Prim.Native.Nat.{suc, zero, ℕ}
use borrow.Author.Tests.{eq-eqb, eqb-false, eqb-true, ne_eqb}
use lib.Dec.{eqb, ltb}
use mathlib.Core.Bool.{Bool, ◌&&◌, cond, false, not, true}
use mathlib.Core.List.{List, [], ◌∷◌}
use mathlib.Core.Logic.{◌⊎◌, inl, inr}
use mathlib.Core.Option.{Option, none, some}
use mathlib.Core.Path.{◌∙◌, ◌≡◌, ap, refl, subst, sym}
use Rattle.lists.specs.Tests.{elem}
use Rattle.lists.proofs.Bools.{and_l, and_r, eqb-self, or_l, split, tf}
use Rattle.method.specs.Changes.{Control}
use Rattle.method.specs.ControlPart.{active, is_open}
use Rattle.method.specs.OneRecordList.{client, plain_observe}
use Rattle.method.specs.Parameters.{Parameters}
use Rattle.method.specs.PlainList.{lock_record, or_refused, plain_act, plain_next, plain_refusal}
use Rattle.method.specs.Rules.{unless_refused}
use Rattle.method.specs.Rules.{View, absent, act, delete, get, guarded, holders, lay_block, lock_holders, locked_out}
use Rattle.method.specs.Rules.{newest_sites, ok, plan, refusal, refused, reply, row, store, store_writes, unwritten}
use Rattle.method.specs.Rules.{updated, writing}
use Rattle.method.specs.Slots.{Slot, blank, is_none, locked, locked_by_other, read_by}
use Rattle.method.proofs.Calls.Agreement.{Agrees, Good, accepted, idle-still, plain_of}
use Rattle.method.proofs.Invariant.{Blank, BlockInv, Cover, Invariant, holder-is, holder-of, locks-is, seen-is}
use Rattle.method.proofs.Keeping.{kept, next-idle, next_view, renewed}
use Rattle.method.proofs.Laws.{Laws}
use Rattle.method.proofs.Refusals.{row-3}

module _ (P : Parameters) (L : Laws P) where
  open P use {Block, slots, blocks, tran_in_range, rec_in_range, value_in_range, block_of, place_of, has, fresh}
  open P use {held, slot, lock_slot}
  open L use {rec-block, rec-inj, held-fresh, slot-fresh, held-lock, slot-store, slot-delete}

  module _ (k : Control P) (v : View P) (records : ℕ → Slot) (i : Invariant P k v records) where
    -- ---- get, store, delete: the refusals agree
    guard-same : (a : Bool) (t r : ℕ) → (a ≡ true → rec_in_range k.setting r ≡ true)
        → row 3 (not a) (row 4 k.stopped (row 5 (not (is_open k t)) (row 7 (locked_out P k v t r) 0))) ≡ row 3 (not a) (row 5 (not (is_open k t)) (row 7 (locked_by_other t (records r)) 0))
    guard-same true t r h = rw (locks-is P L k v records i t r (h refl), i.form.base.running)
    guard-same false t r h = refl

    get-same : (t r : ℕ) → refusal P (get t r) k v ≡ plain_refusal P (accepted P k v) (get t r) (plain_of P k records)
    unfolding refusal plain_refusal
    get-same t r = guard-same (tran_in_range t && rec_in_range k.setting r) t r (and_r (tran_in_range t) (rec_in_range k.setting r))

    store_same : (t r n : ℕ) → refusal P (store t r n) k v ≡ plain_refusal P (accepted P k v) (store t r n) (plain_of P k records)
    unfolding refusal plain_refusal
    store_same t r n = guard-same (tran_in_range t && rec_in_range k.setting r && value_in_range n) t r
        (λ e. and_r (tran_in_range t) (rec_in_range k.setting r) (and_l (tran_in_range t && rec_in_range k.setting r) (value_in_range n) e))

    delete-same : (t r : ℕ) → refusal P (delete t r) k v ≡ plain_refusal P (accepted P k v) (delete t r) (plain_of P k records)
    unfolding refusal plain_refusal
    delete-same t r = guard-same (tran_in_range t && rec_in_range k.setting r) t r (and_r (tran_in_range t) (rec_in_range k.setting r))

    pub step-get : (t r : ℕ) → Agrees P L k v records (get t r)
    unfolding plan refusal act plain_observe plain_next plain_refusal plain_act
    step-get t r = subst (λ (m : ℕ). Good P L v (get t r) (guarded P (refusal P (get t r) k v) k (act P (get t r) k v)) (client (or_refused P m (reply P (read_by t (records r)))))
        (unless_refused m (plain_of P k records) (plain_of P k records)))
        (get-same t r) (go (refusal P (get t r) k v) refl)
      where
        range : refusal P (get t r) k v ≡ 0 → rec_in_range k.setting r ≡ true
        range e = and_r (tran_in_range t) (rec_in_range k.setting r) (row-3 (tran_in_range t && rec_in_range k.setting r) e).0

        go : (n : ℕ) → refusal P (get t r) k v ≡ n → Good P L v (get t r) (guarded P n k (act P (get t r) k v)) (client (or_refused P n (reply P (read_by t (records r)))))
            (unless_refused n (plain_of P k records) (plain_of P k records))
        go zero e = idle-still P L k v records i (get t r) _ (client (reply P (read_by t (records r)))) (rw (seen-is P L k v records i r (range e)))
        go (suc n) e = idle-still P L k v records i (get t r) (refused (suc n)) (client (refused (suc n))) refl

    -- ---- store, delete
    -- the plain list's records after a lock
    abbrev relock : ℕ → ℕ → Option ℕ → ℕ → Slot
    relock t r x j = cond (eqb j r) (locked t x (records j)) (records j)

    Locks : ℕ → ℕ → Option ℕ → Type 0
    Locks t r x = (y : Block) (j : ℕ) → slot (lock_slot y (place_of r) t x) (place_of j) ≡ cond (eqb (place_of j) (place_of r)) (locked t x (slot y (place_of r))) (slot y (place_of j))

    -- a slot of a block of r, after the lock of r's slot
    relocked : (t r : ℕ) (x : Option ℕ) → Locks t r x → (y : Block) (j : ℕ) → block_of j ≡ block_of r → slot y (place_of j) ≡ records j → slot (lock_slot y (place_of r) t x) (place_of j) ≡ relock t r x j
    unfolding Locks
    relocked t r x law y j e o = law y j ∙ go (split (eqb (place_of j) (place_of r)))
      where
        go : (eqb (place_of j) (place_of r) ≡ true) ⊎ (eqb (place_of j) (place_of r) ≡ false) → cond (eqb (place_of j) (place_of r)) (locked t x (slot y (place_of r))) (slot y (place_of j)) ≡ relock t r x j
        go (inl q) =
            let p : place_of j ≡ place_of r = eqb-true (place_of j) (place_of r) q in
            let s : j ≡ r = rec-inj j r e p in
            rw (q, eq-eqb j r s, ← p) (ap (locked t x) o)
        go (inr q) = rw (q, ne_eqb j r (λ s. eqb-false (place_of j) (place_of r) q (ap place_of s))) o

    -- records of other blocks stay
    away : (t r : ℕ) (x : Option ℕ) (j b : ℕ) → block_of j ≡ b → eqb b (block_of r) ≡ false → relock t r x j ≡ records j
    away t r x j b e n = rw (ne_eqb j r (λ s. eqb-false b (block_of r) n (sym e ∙ ap block_of s)))

    lock-inv : (t r : ℕ) (x : Option ℕ) → Locks t r x → (Blank P v records (block_of r) → ⊥) → Invariant P k (next_view P L k (lock_holders P k v t r x) v) (relock t r x)
    unfolding lock_holders
    lock-inv t r x law alive = record {
      form = i.form;
      idle = next-idle P L k (lock_holders P k v t r x) v;
      each = λ b ok. kept P L k v records i k (lock_holders P k v t r x) (relock t r x) b ok ok (λ p m. m) (λ p c m x y. y)
          (λ c s. kind c b (split (eqb b (block_of r))) (split (elem c (holders P k v b))))
          (λ c j s h e o. slots c j b h e o (split (eqb b (block_of r))))
          (λ n j e. blanks b n j e (split (eqb b (block_of r))));
    }
      where
        kind : (c b : ℕ) → (eqb b (block_of r) ≡ true) ⊎ (eqb b (block_of r) ≡ false) → (elem c (holders P k v b) ≡ true) ⊎ (elem c (holders P k v b) ≡ false)
            → held (updated (lock_holders P k v t r x c b) (v c b)) ≡ held (v c b)
        kind c b (inl p) (inl q) = rw (p, q) (held-lock (v c b) (place_of r) t x)
        kind c b (inl p) (inr q) = rw (p, q) refl
        kind c b (inr p) q = rw p refl

        slots : (c j b : ℕ) → held (v c b) ≡ true → block_of j ≡ b → slot (v c b) (place_of j) ≡ records j → (eqb b (block_of r) ≡ true) ⊎ (eqb b (block_of r) ≡ false)
            → slot (updated (lock_holders P k v t r x c b) (v c b)) (place_of j) ≡ relock t r x j
        slots c j b h e o (inl p) = rw (p, holder-is P L k v records i c b ∙ h) (relocked t r x law (v c b) j (e ∙ eqb-true b (block_of r) p) o)
        slots c j b h e o (inr p) = rw p (o ∙ sym (away t r x j b e p))

        blanks : (b : ℕ) → Blank P v records b → (j : ℕ) → block_of j ≡ b → (eqb b (block_of r) ≡ true) ⊎ (eqb b (block_of r) ≡ false) → relock t r x j ≡ blank
        blanks b n j e (inl p) = absurd (alive (rw (eqb-true b (block_of r) p) at n))
        blanks b n j e (inr p) = away t r x j b e p ∙ n.1 j e

    lay-inv : (t r : ℕ) (x : Option ℕ) → Locks t r x → ltb (block_of r) (blocks k.setting) ≡ true → Blank P v records (block_of r)
        → Invariant P k (next_view P L k (lay_block P k t r x) v) (relock t r x)
    unfolding lay_block
    lay-inv t r x law r-ok none_yet = record {
      form = i.form;
      idle = next-idle P L k (lay_block P k t r x) v;
      each = λ b ok. go b ok (split (eqb b (block_of r)));
    }
      where
        there : (c b : ℕ) → eqb b (block_of r) ≡ true → (elem c (newest_sites P k b) ≡ true) ⊎ (elem c (newest_sites P k b) ≡ false)
            → held (updated (lay_block P k t r x c b) (v c b)) ≡ elem c (newest_sites P k b)
        there c b p (inl q) = rw (p, q) (held-lock fresh (place_of r) t x ∙ held-fresh)
        there c b p (inr q) = rw (p, q) (rw (eqb-true b (block_of r) p) (none_yet.0 c))

        slots : (c j b : ℕ) → eqb b (block_of r) ≡ true → elem c (newest_sites P k b) ≡ true → block_of j ≡ b → slot (updated (lay_block P k t r x c b) (v c b)) (place_of j) ≡ relock t r x j
        slots c j b p q e = rw (p, q) (relocked t r x law fresh j (e ∙ eqb-true b (block_of r) p) (slot-fresh j ∙ sym (none_yet.1 j (e ∙ eqb-true b (block_of r) p))))

        go : (b : ℕ) → ltb b (blocks k.setting) ≡ true → (eqb b (block_of r) ≡ true) ⊎ (eqb b (block_of r) ≡ false)
            → BlockInv P k.setting (active k) (has k.working) (next_view P L k (lay_block P k t r x) v) (relock t r x) b
        go b bk (inl p) = renewed P L k v records i (lay_block P k t r x) (relock t r x) b bk
            (λ c q. there c b p (inl q) ∙ q)
            (λ c h. inl (sym (there c b p (split (elem c (newest_sites P k b)))) ∙ h))
            (λ c j h e. slots c j b p (sym (there c b p (split (elem c (newest_sites P k b)))) ∙ h) e)
        go b bk (inr p) = kept P L k v records i k (lay_block P k t r x) (relock t r x) b bk bk (λ q m. m) (λ q c m y z. z)
            (λ c s. rw p refl)
            (λ c j s h e o. rw p (o ∙ sym (away t r x j b e p)))
            (λ n j e. away t r x j b e p ∙ n.1 j e)

    store-inv : (t r n : ℕ) → tran_in_range t ≡ true → rec_in_range k.setting r ≡ true → value_in_range n ≡ true → (l : List ℕ) → ((c : ℕ) → elem c l ≡ held (v c (block_of r)))
        → Invariant P k (next_view P L k (store_writes P k v t r n l) v) (relock t r (some n))
    unfolding Locks
    store-inv t r n t-ok r-ok n-ok [] h = lay-inv t r (some n) (λ y j. slot-store y r t n j t-ok n-ok) b-ok (go (i.each (block_of r) b-ok).cover)
      where
        b-ok : ltb (block_of r) (blocks k.setting) ≡ true
        b-ok = rec-block k.setting r r-ok

        go : Cover P k.setting (active k) (has k.working) v (block_of r) ⊎ Blank P v records (block_of r) → Blank P v records (block_of r)
        go (inl c) = let o = holder-of P L k v records i (block_of r) b-ok c in tf (held (v o.0 (block_of r))) o.1 (sym (h o.0))
        go (inr z) = z
    store-inv t r n t-ok r-ok n-ok (c ∷ l) h = lock-inv t r (some n) (λ y j. slot-store y r t n j t-ok n-ok)
        (λ z. tf (held (v c (block_of r))) (sym (h c) ∙ or_l (eqb c c) (elem c l) (eqb-self c)) (z.0 c))

    pub step-store : (t r n : ℕ) → Agrees P L k v records (store t r n)
    unfolding plan refusal act plain_observe plain_next plain_refusal plain_act
    step-store t r n = subst (λ (m : ℕ). Good P L v (store t r n) (guarded P (refusal P (store t r n) k v) k (act P (store t r n) k v)) (client (or_refused P m ok))
        (unless_refused m (plain_of P k records) (plain_act P (store t r n) (plain_of P k records))))
        (store_same t r n) (go (refusal P (store t r n) k v) refl)
      where
        range : refusal P (store t r n) k v ≡ 0 → (tran_in_range t && rec_in_range k.setting r && value_in_range n) ≡ true
        range e = (row-3 (tran_in_range t && rec_in_range k.setting r && value_in_range n) e).0

        go : (m : ℕ) → refusal P (store t r n) k v ≡ m → Good P L v (store t r n) (guarded P m k (act P (store t r n) k v)) (client (or_refused P m ok))
            (unless_refused m (plain_of P k records) (plain_act P (store t r n) (plain_of P k records)))
        go zero e = record {
          sight = refl;
          goes = λ z. (
            refl,
            store-inv t r n (and_l (tran_in_range t) (rec_in_range k.setting r) (and_l (tran_in_range t && rec_in_range k.setting r) (value_in_range n) (range e)))
                (and_r (tran_in_range t) (rec_in_range k.setting r) (and_l (tran_in_range t && rec_in_range k.setting r) (value_in_range n) (range e)))
                (and_r (tran_in_range t && rec_in_range k.setting r) (value_in_range n) (range e))
                (holders P k v (block_of r)) (λ c. holder-is P L k v records i c (block_of r)),
          );
        }
        go (suc m) e = idle-still P L k v records i (store t r n) (refused (suc m)) (client (refused (suc m))) refl

    pub step-delete : (t r : ℕ) → Agrees P L k v records (delete t r)
    unfolding plan refusal act plain_observe plain_next plain_refusal plain_act
    step-delete t r = subst (λ (m : ℕ). Good P L v (delete t r) (guarded P (refusal P (delete t r) k v) k (act P (delete t r) k v))
        (client (or_refused P m (cond (is_none (read_by t (records r))) absent ok))) (unless_refused m (plain_of P k records) (plain_act P (delete t r) (plain_of P k records))))
        (delete-same t r) (go (refusal P (delete t r) k v) refl)
      where
        range : refusal P (delete t r) k v ≡ 0 → (tran_in_range t && rec_in_range k.setting r) ≡ true
        range e = (row-3 (tran_in_range t && rec_in_range k.setting r) e).0

        alive : is_none (read_by t (records r)) ≡ false → Blank P v records (block_of r) → ⊥
        alive e z = tf (is_none (read_by t (records r))) (rw (z.1 r refl) (ap is_none (flat-read (eqb 0 t)))) e
          where
            flat-read : (b : Bool) → ◌≡◌ {A = Option ℕ} (cond b none none) none
            flat-read true = refl
            flat-read false = refl

        branch : (tran_in_range t && rec_in_range k.setting r) ≡ true → (b : Bool) → is_none (read_by t (records r)) ≡ b
            → Good P L v (delete t r) (cond b (unwritten P absent k) (writing P ok k (lock_holders P k v t r none))) (client (cond b absent ok))
            (cond b (plain_of P k records) (lock_record P (plain_of P k records) t r none))
        branch o true e = idle-still P L k v records i (delete t r) absent (client absent) refl
        branch o false e = record { sight = refl; goes = λ z. (refl, lock-inv t r none (unfold Locks in (λ y j. slot-delete y r t j (and_l (tran_in_range t) (rec_in_range k.setting r) o))) (alive e)) }

        go : (m : ℕ) → refusal P (delete t r) k v ≡ m → Good P L v (delete t r) (guarded P m k (act P (delete t r) k v))
            (client (or_refused P m (cond (is_none (read_by t (records r))) absent ok))) (unless_refused m (plain_of P k records) (plain_act P (delete t r) (plain_of P k records)))
        go zero e = rw (seen-is P L k v records i r (and_r (tran_in_range t) (rec_in_range k.setting r) (range e))) (branch (range e) (is_none (read_by t (records r))) refl)
        go (suc m) e = idle-still P L k v records i (delete t r) (refused (suc m)) (client (refused (suc m))) refl
