-- The promise of every call: its answer and the image that it leaves are those of the rules. Assumes nothing.
use Rattle.std.specs.Prelude.{◌≡◌, ℕ, Result, Ok, Err}
use Rattle.refusals.specs.Refusals.{number}
use Rattle.refusals.specs.declared.Refusal.{Refusal}
use Rattle.mask.specs.Masks.{byte}
use Rattle.method.specs.Rules.{Answer, Call, absent, begin, commit, copied, delete, fail, fit, get, load, loaded, move}
use Rattle.method.specs.Rules.{ok, place, placed, protected, refused, retired, rollback, settle, start, state, stops}
use Rattle.method.specs.Rules.{store, unplaced, unprotected, value, withdraw}
use Rattle.cabinet_rules.specs.Cabinet.{cabinet}
use Rattle.cabinet_rules.specs.Converting.{Filling, unfilled, written}
use Rattle.cabinet_rules.specs.Images.{Image, answer, next}
use Rattle.cabinet_rules.specs.Places.{by_mask}
use Rattle.promise.specs.declared.Call.{Call as CallValue}
use Rattle.promise.specs.declared.Answer.{Answer as AnswerValue}
use Rattle.promise.specs.declared.Call.TheVariants.{Start, Begin, Get, Store, Delete, Commit, Rollback, Fit}
use Rattle.promise.specs.declared.Call.TheVariants.{Withdraw, Place, Fail, Move, Settle, State, Load}
use Rattle.promise.specs.declared.Answer.TheVariants.{Accepted, Value, Absent, Placed, Unplaced, Stopped, Copied}
use Rattle.promise.specs.declared.Answer.TheVariants.{Retired, Protected, Unprotected, Loaded}

-- The call of the rules that each case of the code's enum asks for.
abbrev pub asked : CallValue → Call cabinet
asked (Start m) = start (byte m)
asked (Begin t h) = begin t.0 h.0
asked (Get t r) = get t.0 r.0
asked (Store t r n) = store t.0 r.0 n
asked (Delete t r) = delete t.0 r.0
asked (Commit t) = commit t.0
asked (Rollback t) = rollback t.0
asked (Fit c) = fit c.0
asked (Withdraw c) = withdraw c.0
asked (Place m) = place (by_mask (byte m))
asked (Fail c) = fail c.0
asked (Move c b) = move c.0 b.0
asked Settle = settle
asked State = state
asked (Load c) = load c.0

-- The answer of the rules for each case of the code's enum.
abbrev pub said : AnswerValue → Answer cabinet
said Accepted = ok
said (Value n) = value n
said Absent = absent
said (Placed m) = placed (byte m)
said Unplaced = unplaced
said Stopped = stops
said (Copied n) = copied n
said (Retired n) = retired n
said Protected = protected
said Unprotected = unprotected
said (Loaded n) = loaded n

-- What a call answers: one of these, or its refusal.
abbrev pub Answered : Type 0
Answered = Result AnswerValue Refusal

-- The answer of the rules for one of these, or for what stands for a refusal by a number.
abbrev pub shown_by : {E : Type 0} → (E → ℕ) → Result AnswerValue E → Answer cabinet
shown_by numbered (Ok a) = said a
shown_by numbered (Err r) = refused (numbered r)

-- The answer of the rules for what a call answers.
abbrev pub shown : Answered → Answer cabinet
shown = shown_by number

-- The answer of the rules for what a call that fills lent bytes answers: how many were written, or what stands for a
-- refusal by a number; and the same where that is a refusal of the table.
abbrev pub shown_filled_by : {E : Type 0} → (E → ℕ) → Result ℕ E → Filling
shown_filled_by numbered (Ok n) = written n
shown_filled_by numbered (Err r) = unfilled (numbered r)

abbrev pub shown_filled : Result ℕ Refusal → Filling
shown_filled = shown_filled_by number

-- A call on an image answered a and left the image behind.
pub record Done (c : Call cabinet) (before : Image) (a : Answered) (behind : Image) : Type 0 where
  pub answers : shown a ≡ answer c before
  pub leaves : behind ≡ next c before
