-- What is shown of each call: it answers as the plain list does and keeps the invariant. Assumes nothing.
use Prim.Native.Nat.{suc, zero, ℕ}
use mathlib.Core.Bool.{Bool, false}
use mathlib.Core.Path.{◌≡◌, refl}
use Rattle.method.specs.Changes.{Control}
use Rattle.method.specs.OneRecordList.{Observation, is_last, is_zero, observe, plain_observe, quiet}
use Rattle.method.specs.Parameters.{Parameters}
use Rattle.method.specs.PlainList.{PlainList, plain_next}
use Rattle.method.specs.Rules.{Answer, Call, Plan, View, guarded, plan, refusal, refused, settle, unwritten}
use Rattle.method.specs.Slots.{Slot}
use Rattle.method.proofs.Invariant.{Invariant}
use Rattle.method.proofs.Keeping.{next_view, unchanged}
use Rattle.method.proofs.Laws.{Laws}

module _ (P : Parameters) where
  -- the plain list with these fields
  abbrev pub plain_of : Control P → (ℕ → Slot) → PlainList P
  plain_of k records = record { records = records; control = k }

  -- the rules accept a settle here
  abbrev pub accepted : Control P → View P → Bool
  accepted k v = is_zero (refusal P settle k v)

module _ (P : Parameters) (L : Laws P) where
  -- a call with this plan, beside a plain list that shows x and comes to q
  pub record Good (v : View P) (c : Call P) (p : Plan P) (x : Observation P) (q : PlainList P) : Type 0 where
    pub sight : observe P c p.answer ≡ x
    pub goes : is_last P x ≡ false → (p.after ≡ q.control) × Invariant P q.control (next_view P L p.after p.write v) q.records

  -- the call c on control part k and tables v agrees with the plain list of these records and the same control part
  abbrev pub Agrees : Control P → View P → (ℕ → Slot) → Call P → Type 0
  Agrees k v records c = Good v c (plan P c k v) (plain_observe P c (plain_of P k records)) (plain_next P (accepted P k v) c (plain_of P k records))

  module _ (k : Control P) (v : View P) (records : ℕ → Slot) (i : Invariant P k v records) where
    pub idle-still : (c : Call P) (a : Answer P) (x : Observation P) → observe P c a ≡ x → Good v c (unwritten P a k) x (plain_of P k records)
    idle-still c a x e = record { sight = e; goes = λ z. (refl, unchanged P L k v records i) }

    -- a call that writes nothing and shows nothing
    pub idle-any : (c : Call P) (a : Answer P) → ((x : Answer P) → observe P c x ≡ quiet) → (n : ℕ) → Good v c (guarded P n k (unwritten P a k)) quiet (plain_of P k records)
    idle-any c a e zero = idle-still c a quiet (e a)
    idle-any c a e (suc n) = idle-still c (refused (suc n)) quiet (e (refused (suc n)))
