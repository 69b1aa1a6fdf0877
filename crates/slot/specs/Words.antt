-- The 40 bits of a slot: present (1), value (16), lock (4), pending present (1), pending value (16), 2 unnamed bits.
-- Assumes nothing.
use Rattle.std.specs.Prelude.{Bool, true, false, cond, ℕ, ◌+◌, ◌*◌, ◌/◌, ◌%◌, ◌^◌, ◌<◌, eqb}
use Rattle.std.proofs.Math.Option.{Option, some, none}
use Rattle.image.specs.Layout.{tran_bound, value_bound}
use Rattle.slot.specs.declared.Entry.{Entry}
use Rattle.slot.specs.declared.Slot.{Slot}

abbrev pub bit_number : Bool → ℕ
bit_number true = 1
bit_number false = 0

-- The slot that a number of 40 bits shows.
unfoldable pub slot_of : ℕ → Slot
slot_of n = record {
  committed = record { present = eqb (n / 2 ^ 39 % 2) 1; value = n / 2 ^ 23 % 2 ^ 16 };
  lock = n / 2 ^ 19 % 2 ^ 4;
  pending = record { present = eqb (n / 2 ^ 18 % 2) 1; value = n / 2 ^ 2 % 2 ^ 16 };
  spare = n % 2 ^ 2;
}

-- The number that shows a slot.
unfoldable pub word_of : Slot → ℕ
word_of s = bit_number s.committed.present * 2 ^ 39 + s.committed.value * 2 ^ 23 + s.lock * 2 ^ 19
    + bit_number s.pending.present * 2 ^ 18 + s.pending.value * 2 ^ 2 + s.spare

-- Each field fits its bits.
pub record InRange (s : Slot) : Type 0 where
  pub value-fits : s.committed.value < value_bound
  pub lock-fits : s.lock < tran_bound
  pub pending-fits : s.pending.value < value_bound
  pub spare-fits : s.spare < 4

-- A state as a present bit and a value; an absence has value 0.
abbrev pub entry_of : Option ℕ → Entry
entry_of none = record { present = false; value = 0 }
entry_of (some n) = record { present = true; value = n }

-- The state that an entry shows; an absence shows no value.
abbrev pub state_of : Entry → Option ℕ
state_of e = cond e.present (some e.value) none

-- The slot locked by t with a pending state; the committed state and the unnamed bits stay.
abbrev pub locked_slot : ℕ → Option ℕ → Slot → Slot
locked_slot t v s = record { committed = s.committed; lock = t; pending = entry_of v; spare = s.spare }

-- The pending state is taken, an absence with value 0, or dropped; lock and pending become zero and the unnamed bits
-- stay.
abbrev pub freed_slot : Bool → Slot → Slot
freed_slot true s =
    record { committed = entry_of (state_of s.pending); lock = 0; pending = entry_of none; spare = s.spare }
freed_slot false s = record { committed = s.committed; lock = 0; pending = entry_of none; spare = s.spare }
