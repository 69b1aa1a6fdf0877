-- The plain record list: RULES, "The plain record list". It sees each call with its arguments, and no answer of the
-- store. Assumes nothing.
use Rattle.std.specs.Prelude.{suc, zero, ℕ, eqb, leb, ltb, Bool, ◌&&◌, ◌||◌, cond, false, not, true}
use Rattle.std.proofs.Math.Option.{Option, none, some}
use Rattle.lists.specs.Tests.{all_below, any_in, count_below}
use Rattle.method.specs.Changes.{Control, added_by, replaced, started_by}
use Rattle.method.specs.ControlPart.{active, begun_at, closed, is_open, only_newest, opened, with_cards}
use Rattle.method.specs.Parameters.{Parameters}
use Rattle.method.specs.Rules.{Answer, Call, View, begin, commit, delete, fail, fit, get, load, move, place}
use Rattle.method.specs.Rules.{refusal, refused, rollback, row, settle, start, state, store, unless_refused, withdraw}
use Rattle.method.specs.Slots.{Slot, blank, ended, is_none, locked, locked_by_other, read_by}

module _ (P : Parameters) where
  open P use {StartArgument, cards, copies, tran_in_range, rec_in_range, value_in_range, has, insert, remove}
  open P use {mask, places, empty}

  -- A slot for each record, and a control part: open transactions with their homes, working and failed cards, active
  -- placements.
  pub record PlainList : Type 0 where
    pub records : ℕ → Slot
    pub control : Control P

  abbrev pub with_records : PlainList → (ℕ → Slot) → PlainList
  with_records q f = record { records = f; control = q.control }

  abbrev pub with_control : PlainList → Control P → PlainList
  with_control q k = record { records = q.records; control = k }

  -- start: no record is present or locked; the argument's cards work, and their placement is the only one.
  abbrev pub plain_start : StartArgument → PlainList
  plain_start a = record { records = λ i. blank; control = started_by P a }

  -- Record r is locked by t, with a pending state.
  abbrev pub lock_record : PlainList → ℕ → ℕ → Option ℕ → PlainList
  lock_record q t r x = with_records q (λ i. cond (eqb i r) (locked t x (q.records i)) (q.records i))

  -- The transactions that f picks end: their records take or drop what is pending, and are free. The control part
  -- becomes k.
  abbrev pub end_records : PlainList → Bool → (ℕ → Bool) → Control P → PlainList
  end_records q take f k = record { records = λ i. ended take f (q.records i); control = k }

  -- ---- refusals
  -- No table is read: every block is as one that is not held.
  abbrev pub no_blocks : View P
  no_blocks c b = empty

  -- start, begin, fit, withdraw and place follow from the rules over the list's own fields; settle from s, which says
  -- whether the rules over the same calls accept it. get, store, delete: 3, else 5, else 7; commit and rollback: 3
  -- and 5. A fail of a card that does not work changes nothing.
  unfoldable pub plain_refusal : Bool → Call P → PlainList → ℕ
  plain_refusal s (start a) q = refusal P (start a) q.control no_blocks
  plain_refusal s (begin t h) q = refusal P (begin t h) q.control no_blocks
  plain_refusal s (get t r) q =
      row 3 (not (tran_in_range t && rec_in_range q.control.setting r)) (
      row 5 (not (is_open q.control t)) (
      row 7 (locked_by_other t (q.records r)) 0))
  plain_refusal s (store t r n) q =
      row 3 (not (tran_in_range t && rec_in_range q.control.setting r && value_in_range n)) (
      row 5 (not (is_open q.control t)) (
      row 7 (locked_by_other t (q.records r)) 0))
  plain_refusal s (delete t r) q =
      row 3 (not (tran_in_range t && rec_in_range q.control.setting r)) (
      row 5 (not (is_open q.control t)) (
      row 7 (locked_by_other t (q.records r)) 0))
  plain_refusal s (commit t) q = row 3 (not (tran_in_range t)) (row 5 (not (is_open q.control t)) 0)
  plain_refusal s (rollback t) q = row 3 (not (tran_in_range t)) (row 5 (not (is_open q.control t)) 0)
  plain_refusal s (fit c) q = refusal P (fit c) q.control no_blocks
  plain_refusal s (withdraw c) q = refusal P (withdraw c) q.control no_blocks
  plain_refusal s (place a) q = refusal P (place a) q.control no_blocks
  plain_refusal s (fail c) q = row 8 (not (has q.control.working c)) 0
  plain_refusal s (move c b) q = 0
  plain_refusal s settle q = row 13 (not s) 0
  plain_refusal s state q = 0
  plain_refusal s (load c) q = 0

  -- ---- steps
  unfoldable pub plain_act : Call P → PlainList → PlainList
  plain_act (start a) q = plain_start a
  plain_act (begin t h) q = with_control q (opened q.control t h)
  plain_act (get t r) q = q
  plain_act (store t r n) q = lock_record q t r (some n)
  plain_act (delete t r) q = cond (is_none (read_by t (q.records r))) q (lock_record q t r none)
  plain_act (commit t) q = end_records q true (λ x. eqb x t) (closed q.control (λ x. eqb x t))
  plain_act (rollback t) q = end_records q false (λ x. eqb x t) (closed q.control (λ x. eqb x t))
  plain_act (fit c) q =
      with_control q (with_cards q.control (insert q.control.working c) (remove q.control.failed c))
  plain_act (withdraw c) q = with_control q (with_cards q.control (remove q.control.working c) q.control.failed)
  plain_act (place a) q = with_control q (added_by P q.control (places q.control.newest a))
  plain_act (fail c) q = end_records q false (begun_at q.control c) (replaced P q.control c)
  plain_act (move c b) q = q
  plain_act settle q = with_control q (only_newest q.control)
  plain_act state q = q
  plain_act (load c) q = q

  -- A refused call changes nothing in it.
  unfoldable pub plain_next : Bool → Call P → PlainList → PlainList
  plain_next s c q = unless_refused (plain_refusal s c q) q (plain_act c q)

  -- The answer of an accepted call, or its refusal.
  abbrev pub or_refused : ℕ → Answer P → Answer P
  or_refused zero a = a
  or_refused (suc n) a = refused (suc n)

  -- ---- the stop rule, of the list's own fields
  -- With c failed, some active placement has as many failed cards as copies or fewer working ones.
  unfoldable pub stops_now : Control P → ℕ → Bool
  stops_now k c = any_in (λ p.
      leb (copies k.setting) (count_below cards (λ x. has (mask p) x && (eqb x c || has k.failed x)))
      || ltb (count_below cards (λ x. has (mask p) x && (has k.working x && not (eqb x c)))) (copies k.setting))
      (active k)

  -- The word of state, of the list's own fields: no working card is one whose failure stops it.
  unfoldable pub plain_protected : PlainList → Bool
  plain_protected q = all_below cards (λ c. not (has q.control.working c && stops_now q.control c))
