-- What begin, commit and rollback ask of the rules. Assumes nothing.
use Rattle.std.specs.Prelude.{ℕ, Bool, false, true}
use Rattle.slot.specs.Blocks.{empty_block}
use Rattle.method.specs.Rules.{Call, begin, commit, refusal, rollback}
use Rattle.control.specs.ControlBytes.{Part}
use Rattle.cabinet_rules.specs.Cabinet.{cabinet}

-- The end of a transaction: its pending states are taken by a commit and dropped by a rollback.
abbrev pub end_call : Bool → ℕ → Call cabinet
end_call true t = commit t
end_call false t = rollback t

-- The rows of a begin from 3 on. They ask for the control part alone, so any tables do: here empty ones.
unfoldable pub begin_rows : Part → ℕ → ℕ → ℕ
begin_rows k t h = refusal cabinet (begin t h) k (λ c b. empty_block)
