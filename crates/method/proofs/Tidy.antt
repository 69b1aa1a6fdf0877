-- A slot that no transaction locks, and the plain record list's own order: whatever is locked there is locked by an open transaction. Every
-- call keeps it, since a call locks for an open transaction and frees what it closes. Assumes nothing.
use Prim.Native.Nat.{suc, zero, ℕ}
use borrow.Author.Tests.{ne_eqb}
use lib.Dec.{eqb}
use mathlib.Core.Bool.{Bool, ◌&&◌, cond, false, not, true}
use mathlib.Core.List.{List, [], ◌∷◌}
use mathlib.Core.Logic.{◌⊎◌, inl, inr}
use mathlib.Core.Option.{Option, none, some}
use mathlib.Core.Path.{◌≡◌, refl, sym}
use Rattle.lists.proofs.Bools.{not-not-is, split, tf}
use Rattle.method.specs.Changes.{Control, added_by, marked}
use Rattle.method.specs.ControlPart.{begun_at, closed, is_open}
use Rattle.method.specs.OneRecordList.{plain_after, settle_accepted}
use Rattle.method.specs.Parameters.{Parameters}
use Rattle.method.specs.PlainList.{PlainList, lock_record, plain_act, plain_next, plain_refusal}
use Rattle.method.specs.Returning.{is_lock}
use Rattle.method.specs.Rules.{Call, State, begin, commit, delete, fail, fit, get, load, move, next_state, place, rollback, row}
use Rattle.method.specs.Rules.{settle, start, state, store, unless_refused, withdraw}
use Rattle.method.specs.Slots.{Slot, ended, freed, is_none, is_some, locked, locked_by_other, read_by}
use Rattle.method.proofs.Laws.{Laws}
use Rattle.method.proofs.Refusals.{row-clear}

-- No lock, and nothing pending.
abbrev pub Unlocked : Slot → Type 0
Unlocked s = (s.lock ≡ 0) × (s.pending ≡ none)

pub freed-unlocked : (take : Bool) (s : Slot) → Unlocked (freed take s)
freed-unlocked true s = (refl, refl)
freed-unlocked false s = (refl, refl)

pub freed-same : (s : Slot) → Unlocked s → freed false s ≡ s
freed-same s (p, q) = λ i. record { committed = s.committed; lock = sym p i; pending = sym q i }

-- dropping changes no more than freeing does
pub drop-unlocked : (f : ℕ → Bool) (s : Slot) → Unlocked s → ended false f s ≡ freed false s
drop-unlocked f s u = go (f s.lock)
  where
    go : (b : Bool) → cond b (freed false s) s ≡ freed false s
    go true = refl
    go false = sym (freed-same s u)

pub drop-picked : (f : ℕ → Bool) (s : Slot) → f s.lock ≡ true → ended false f s ≡ freed false s
drop-picked f s e = rw e

module _ (P : Parameters) where
  -- every record is unlocked, or locked by an open transaction
  abbrev pub Tidy : Control P → (ℕ → Slot) → Type 0
  Tidy k records = (r : ℕ) → Unlocked (records r) ⊎ (is_open k (records r).lock ≡ true)

module _ (P : Parameters) (L : Laws P) where
  open P use {mask, has, rec_in_range, tran_in_range, value_in_range, without}
  open L use {tran-some}

  -- in such a list, to drop what open transactions hold and to drop every lock is the same
  pub drop-open : (k : Control P) (s : Slot) → Unlocked s ⊎ (is_open k s.lock ≡ true) → ended false (is_open k) s ≡ freed false s
  drop-open k s (inl u) = drop-unlocked (is_open k) s u
  drop-open k s (inr e) = drop-picked (is_open k) s e

  pub drop_all : (k : Control P) (s : Slot) → ((t : ℕ) → is_open k t ≡ true → tran_in_range t ≡ true) → Unlocked s ⊎ (is_open k s.lock ≡ true)
      → ended false is_lock s ≡ freed false s
  drop_all k s opens (inl u) = drop-unlocked is_lock s u
  drop_all k s opens (inr e) = drop-picked is_lock s (rw (ne_eqb s.lock 0 (λ z. tf (tran_in_range s.lock) (opens s.lock e) (rw z tran-some))))

  -- ---- the two changes of records
  ended-tidy : (k : Control P) (records : ℕ → Slot) (take : Bool) (f : ℕ → Bool) → Tidy P k records
      → (r : ℕ) → Unlocked (ended take f (records r)) ⊎ (is_some (cond (f (ended take f (records r)).lock) none (k.home (ended take f (records r)).lock)) ≡ true)
  ended-tidy k records take f h r = go (split (f (records r).lock)) (h r)
    where
      go : (f (records r).lock ≡ true) ⊎ (f (records r).lock ≡ false) → Unlocked (records r) ⊎ (is_open k (records r).lock ≡ true)
          → Unlocked (ended take f (records r)) ⊎ (is_some (cond (f (ended take f (records r)).lock) none (k.home (ended take f (records r)).lock)) ≡ true)
      go (inl e) o = inl (rw e (freed-unlocked take (records r)))
      go (inr e) (inl u) = inl (rw e u)
      go (inr e) (inr o) = inr (rw (e, e) o)

  abbrev pub TidyList : PlainList P → Type 0
  TidyList q = Tidy P q.control q.records

  lock-tidy : (q : PlainList P) (t r : ℕ) (x : Option ℕ) → is_open q.control t ≡ true → TidyList q → TidyList (lock_record P q t r x)
  lock-tidy q t r x o h j = go (eqb j r)
    where
      go : (b : Bool) → Unlocked (cond b (locked t x (q.records j)) (q.records j))
          ⊎ (is_open q.control (cond b (locked t x (q.records j)) (q.records j)).lock ≡ true)
      go true = inr o
      go false = h j

  -- ---- every call
  open_row : (a o x : Bool) → row 3 a (row 5 (not o) (row 7 x 0)) ≡ 0 → o ≡ true
  open_row a o x e = not-not-is o (row-clear (not o) 4 (row-clear a 2 e).1).0

  tidy-act : (accepted : Bool) (c : Call P) (q : PlainList P) → TidyList q → plain_refusal P accepted c q ≡ 0 → TidyList (plain_act P c q)
  unfolding plain_refusal plain_act
  tidy-act accepted (start a) q h e = λ r. inl (refl, refl)
  tidy-act accepted (begin t x) q h e = λ r. go r (h r)
    where
      more : (b : Bool) (l : ℕ) → is_some (q.control.home l) ≡ true → is_some (cond b (some x) (q.control.home l)) ≡ true
      more true l o = refl
      more false l o = o

      go : (r : ℕ) → Unlocked (q.records r) ⊎ (is_open q.control (q.records r).lock ≡ true)
          → Unlocked (q.records r) ⊎ (is_some (cond (eqb (q.records r).lock t) (some x) (q.control.home (q.records r).lock)) ≡ true)
      go r (inl u) = inl u
      go r (inr o) = inr (more (eqb (q.records r).lock t) (q.records r).lock o)
  tidy-act accepted (get t r) q h e = h
  tidy-act accepted (store t r n) q h e = lock-tidy q t r (some n)
      (open_row (not (tran_in_range t && rec_in_range q.control.setting r && value_in_range n)) (is_open q.control t) (locked_by_other t (q.records r)) e) h
  tidy-act accepted (delete t r) q h e = go (is_none (read_by t (q.records r)))
    where
      go : (b : Bool) → TidyList (cond b q (lock_record P q t r none))
      go true = h
      go false = lock-tidy q t r none (open_row (not (tran_in_range t && rec_in_range q.control.setting r)) (is_open q.control t) (locked_by_other t (q.records r)) e) h
  tidy-act accepted (commit t) q h e = ended-tidy q.control q.records true (λ x. eqb x t) h
  tidy-act accepted (rollback t) q h e = ended-tidy q.control q.records false (λ x. eqb x t) h
  tidy-act accepted (fit c) q h e = h
  tidy-act accepted (withdraw c) q h e = h
  tidy-act accepted (place a) q h e = h
  tidy-act accepted (fail c) q h e = go (has (mask q.control.newest) c)
    where
      go : (b : Bool) → Tidy P (cond b (added_by P (closed (marked P q.control c) (begun_at q.control c)) (without q.control.newest c))
          (closed (marked P q.control c) (begun_at q.control c))) (λ r. ended false (begun_at q.control c) (q.records r))
      go true = ended-tidy q.control q.records false (begun_at q.control c) h
      go false = ended-tidy q.control q.records false (begun_at q.control c) h
  tidy-act accepted (move c b) q h e = h
  tidy-act accepted settle q h e = h
  tidy-act accepted state q h e = h
  tidy-act accepted (load c) q h e = h

  pub tidy-next : (accepted : Bool) (c : Call P) (q : PlainList P) → TidyList q → TidyList (plain_next P accepted c q)
  unfolding plain_next
  tidy-next accepted c q h = go (plain_refusal P accepted c q) refl
    where
      go : (n : ℕ) → plain_refusal P accepted c q ≡ n → TidyList (unless_refused n q (plain_act P c q))
      go zero e = tidy-act accepted c q h e
      go (suc n) e = h

  -- a list of calls
  pub tidy-after : (l : List (Call P)) (z : State P) (q : PlainList P) → TidyList q → TidyList (plain_after P l z q)
  unfolding plain_after
  tidy-after [] z q h = h
  tidy-after (c ∷ l) z q h = tidy-after l (next_state P c z) (plain_next P (settle_accepted P z) c q) (tidy-next (settle_accepted P z) c q h)
