-- A slot of a block, which is also a record of the plain record list: both sides of demand 3 read and change it by
-- these definitions. Assumes nothing.
use Rattle.std.specs.Prelude.{Bool, true, false, not, ◌&&◌, cond, ℕ, eqb}
use Rattle.std.proofs.Math.Option.{Option, some, none}

-- What is committed (none is absent), the transaction that locks it (0 is none), what is pending.
pub record Slot : Type 0 where
  pub committed : Option ℕ
  pub lock : ℕ
  pub pending : Option ℕ

-- Absent and unlocked.
abbrev pub blank : Slot
blank = record { committed = none; lock = 0; pending = none }

abbrev pub is_some : Option ℕ → Bool
is_some none = false
is_some (some n) = true

abbrev pub is_none : Option ℕ → Bool
is_none o = not (is_some o)

-- What a transaction sees: its own pending state where it has the lock, and what is committed elsewhere.
abbrev pub read_by : ℕ → Slot → Option ℕ
read_by t s = cond (eqb s.lock t) s.pending s.committed

-- The slot is locked by another number.
abbrev pub locked_by_other : ℕ → Slot → Bool
locked_by_other t s = not (eqb s.lock 0) && not (eqb s.lock t)

-- Locked by t with a pending state.
abbrev pub locked : ℕ → Option ℕ → Slot → Slot
locked t v s = record { committed = s.committed; lock = t; pending = v }

-- The pending state is taken (commit) or dropped (rollback); lock and pending become zero.
abbrev pub freed : Bool → Slot → Slot
freed true s = record { committed = s.pending; lock = 0; pending = none }
freed false s = record { committed = s.committed; lock = 0; pending = none }

-- The transactions that f picks end: a slot that one of them locks is freed.
abbrev pub ended : Bool → (ℕ → Bool) → Slot → Slot
ended take f s = cond (f s.lock) (freed take s) s
