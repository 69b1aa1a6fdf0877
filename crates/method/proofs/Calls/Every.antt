-- Every call agrees with the plain record list. Assumes nothing.
use Prim.Native.Nat.{ℕ}
use Rattle.method.specs.Changes.{Control}
use Rattle.method.specs.Parameters.{Parameters}
use Rattle.method.specs.Rules.{Call, View, begin, commit, delete, fail, fit, get, load, move, place, rollback}
use Rattle.method.specs.Rules.{settle, start, state, store, withdraw}
use Rattle.method.specs.Slots.{Slot}
use Rattle.method.proofs.Calls.Agreement.{Agrees}
use Rattle.method.proofs.Calls.Cards.{step-fit, step-place, step_start, step-withdraw}
use Rattle.method.proofs.Calls.Fail.{step-fail}
use Rattle.method.proofs.Calls.Records.{step-delete, step-get, step-store}
use Rattle.method.proofs.Calls.Reorganise.{step-load, step_move, step-settle, step-state}
use Rattle.method.proofs.Calls.Transactions.{step-begin, step-commit, step-rollback}
use Rattle.method.proofs.Invariant.{Invariant}
use Rattle.method.proofs.Laws.{Laws}

module _ (P : Parameters) (L : Laws P) where
  module _ (k : Control P) (v : View P) (records : ℕ → Slot) (i : Invariant P k v records) where
    -- ---- every call
    pub step-any : (c : Call P) → Agrees P L k v records c
    step-any (start a) = step_start P L k v records i a
    step-any (begin t h) = step-begin P L k v records i t h
    step-any (get t r) = step-get P L k v records i t r
    step-any (store t r n) = step-store P L k v records i t r n
    step-any (delete t r) = step-delete P L k v records i t r
    step-any (commit t) = step-commit P L k v records i t
    step-any (rollback t) = step-rollback P L k v records i t
    step-any (fit c) = step-fit P L k v records i c
    step-any (withdraw c) = step-withdraw P L k v records i c
    step-any (place a) = step-place P L k v records i a
    step-any (fail c) = step-fail P L k v records i c
    step-any (move c b) = step_move P L k v records i c b
    step-any settle = step-settle P L k v records i
    step-any state = step-state P L k v records i
    step-any (load c) = step-load P L k v records i c
