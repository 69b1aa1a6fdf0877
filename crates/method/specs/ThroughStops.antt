-- Demand 3 through stops (request A.7): the list of steps goes on behind a stop, and failed cards come back. The
-- statement. Assumes nothing.
use Rattle.std.specs.Prelude.{ℕ, Bool, ◌&&◌, cond, false, not, true, List, [], ◌++◌, ◌∷◌, ◌≡◌}
use Rattle.std.proofs.Math.Option.{Option, none, some}
use Rattle.method.specs.Changes.{Control, marked}
use Rattle.method.specs.ControlPart.{halted, is_open}
use Rattle.method.specs.Growth.{Growth, grown, grown_plain, grown_state}
use Rattle.method.specs.OneRecordList.{Noise, Observation, disturb, failing, is_last, is_zero, observe, plain_observe}
use Rattle.method.specs.OneRecordList.{NoStop, calls_of, plain_after, rules_after, settle_accepted, state_after, zeroed}
use Rattle.method.specs.Parameters.{Parameters}
use Rattle.method.specs.PlainList.{PlainList, end_records, plain_next, plain_start, with_control}
use Rattle.method.specs.Returning.{after_return, rejoined, return_refusal}
use Rattle.method.specs.Rules.{Call, State, View, answer_of, begin, commit, delete, fail, fit, get, is_start, load}
use Rattle.method.specs.Rules.{move, next_state, ok, out_of_range, place, refused, rollback, row, settle, start, state}
use Rattle.method.specs.Rules.{store, withdraw}

module _ (P : Parameters) where
  open P use {StartArgument, Stamp, has}

  -- ---- steps
  -- A call, or the return of a card.
  pub data Step : Type 0 where
    call : Call P → Step
    return : ℕ → Step

  -- What a step leaves.
  unfoldable pub after_step : Step → State P → State P
  after_step (call c) s = next_state P c s
  after_step (return c) s = after_return P c s

  -- The return of the card is not refused.
  unfoldable pub takes : ℕ → State P → Bool
  takes c s = is_zero (return_refusal P s.control s.stamp c)

  -- Every call is a step of the plain record list, and every return that is taken.
  abbrev pub counts : Step → State P → Bool
  counts (call c) s = true
  counts (return c) s = takes c s

  -- A step with the noise before it.
  unfoldable pub next_by : Noise P × Step → State P → State P
  next_by e s = after_step e.1 (disturb P e.0 s)

  -- ---- the proviso
  -- The tables of failed cards, as they were at their failing.
  pub record Tables : Type 0 where
    pub block : View P
    pub stamp : ℕ → Stamp

  -- The card failed between the two states.
  abbrev pub failed_now : State P → State P → ℕ → Bool
  failed_now s s' c = has s'.control.failed c && not (has s.control.failed c)

  -- The tables of such cards are recorded (a fail writes nothing in its own card's table); the rest stays.
  unfoldable pub recorded : State P → State P → Tables → Tables
  recorded s s' t = record {
    block = λ c b. cond (failed_now s s' c) (s'.block c b) (t.block c b);
    stamp = λ c. cond (failed_now s s' c) (s'.stamp c) (t.stamp c);
  }

  -- The recorded tables after a step with the noise before it.
  unfoldable pub recorded_by : Noise P × Step → State P → Tables → Tables
  recorded_by e s t = recorded (disturb P e.0 s) (next_by e s) t

  -- A card that comes back has the bytes of its failing: all its blocks, and its stamp. A refused return asks nothing.
  unfoldable pub AsRecorded : Step → State P → Tables → Type 0
  AsRecorded (call c) s t = Unit {0}
  AsRecorded (return c) s t = takes c s ≡ true → ((b : ℕ) → s.block c b ≡ t.block c b) × (s.stamp c ≡ t.stamp c)

  -- So it is at every step of the list.
  unfoldable pub Intact : List (Noise P × Step) → State P → Tables → Type 0
  Intact [] s t = Unit {0}
  Intact (e ∷ l) s t = AsRecorded e.1 (disturb P e.0 s) t × Intact l (next_by e s) (recorded_by e s t)

  -- ---- the store
  -- What is observed of a step: of a return nothing, its effect shows in later answers.
  unfoldable pub observed : Step → State P → List (Observation P)
  observed (call c) s = observe P c (answer_of P c s) ∷ []
  observed (return c) s = []

  -- A list of steps, each with the noise before it, and on behind every stop.
  unfoldable pub run_through : List (Noise P × Step) → State P → List (Observation P)
  run_through [] s = []
  run_through (e ∷ l) s = observed e.1 (disturb P e.0 s) ++ run_through l (next_by e s)

  -- The steps without the refused returns: what the plain record list and the run without noise get.
  unfoldable pub steps_taken : List (Noise P × Step) → State P → List Step
  steps_taken [] s = []
  steps_taken (e ∷ l) s =
      cond (counts e.1 (disturb P e.0 s)) (e.1 ∷ steps_taken l (next_by e s)) (steps_taken l (next_by e s))

  -- The state after the list.
  unfoldable pub state_through : List (Noise P × Step) → State P → State P
  state_through [] s = s
  state_through (e ∷ l) s = state_through l (next_by e s)

  -- The tables recorded by then.
  unfoldable pub tables_through : List (Noise P × Step) → State P → Tables → Tables
  tables_through [] s t = t
  tables_through (e ∷ l) s t = tables_through l (next_by e s) (recorded_by e s t)

  -- ---- the plain record list
  -- The card that a call fails.
  abbrev pub fail_card : Call P → Option ℕ
  fail_card (start a) = none
  fail_card (begin t h) = none
  fail_card (get t r) = none
  fail_card (store t r n) = none
  fail_card (delete t r) = none
  fail_card (commit t) = none
  fail_card (rollback t) = none
  fail_card (fit c) = none
  fail_card (withdraw c) = none
  fail_card (place a) = none
  fail_card (fail c) = some c
  fail_card (move c b) = none
  fail_card settle = none
  fail_card state = none
  fail_card (load c) = none

  -- A fail that stops: the card is marked, and what all open transactions did is dropped.
  abbrev pub rolled_back : PlainList P → Option ℕ → PlainList P
  rolled_back q none = q
  rolled_back q (some c) = end_records P q false (is_open q.control) (halted (marked P q.control c))

  -- A fail while stopped: a card that works is marked.
  abbrev pub marked_only : PlainList P → Option ℕ → PlainList P
  marked_only q none = q
  marked_only q (some c) = cond (has q.control.working c) (with_control P q (marked P q.control c)) q

  -- While stopped nothing but a start and a fail changes it; while it runs the calls do as always, up to the next stop.
  unfoldable pub plain_call : Bool → Call P → PlainList P → PlainList P
  plain_call s c q =
      cond q.control.stopped
      (cond (is_start c) (plain_next P s c q) (marked_only q (fail_card c)))
      (cond (is_last P (plain_observe P c q)) (rolled_back q (fail_card c)) (plain_next P s c q))

  -- A card that comes back works again, and the list runs again where the control form of a running store holds.
  unfoldable pub plain_step : Bool → Step → PlainList P → PlainList P
  plain_step s (call c) q = plain_call s c q
  plain_step s (return c) q = with_control P q (rejoined P q.control c)

  -- While stopped a fail says whether the card worked; all else is refused, 3 before 4.
  abbrev pub stopped_observe : Option ℕ → Call P → Control P → Observation P
  stopped_observe none c k = observe P c (refused (row 3 (out_of_range P c k) 4))
  stopped_observe (some x) c k = failing (has k.working x)

  -- What the plain record list shows of a step.
  unfoldable pub plain_observed : Step → PlainList P → List (Observation P)
  plain_observed (call c) q =
      cond q.control.stopped (stopped_observe (fail_card c) c q.control) (plain_observe P c q) ∷ []
  plain_observed (return c) q = []

  -- z is the run of the rules over the same steps alone, with no noise; it decides nothing but whether a settle is
  -- accepted.
  unfoldable pub run_plain_through : List Step → State P → PlainList P → List (Observation P)
  run_plain_through [] z q = []
  run_plain_through (e ∷ l) z q =
      plain_observed e q ++ run_plain_through l (after_step e z) (plain_step (settle_accepted P z) e q)

  -- What the steps leave of the run without noise.
  unfoldable pub rules_through : List Step → State P → State P
  rules_through [] z = z
  rules_through (e ∷ l) z = rules_through l (after_step e z)

  -- What they leave of the plain record list, beside that run from z.
  unfoldable pub plain_through : List Step → State P → PlainList P → PlainList P
  plain_through [] z q = q
  plain_through (e ∷ l) z q = plain_through l (after_step e z) (plain_step (settle_accepted P z) e q)

  -- DEMAND 3 THROUGH STOPS. After an accepted start on memory of any contents, and any record of earlier failures, over
  -- any list of steps in which every card that comes back has the bytes of its failing.
  unfoldable pub OneRecordListThroughStops : Type 0
  OneRecordListThroughStops = (a : StartArgument) (before : State P) → answer_of P (start a) before ≡ ok
      → (t : Tables) (l : List (Noise P × Step)) → Intact l (next_state P (start a) before) t
      → run_through l (next_state P (start a) before)
      ≡ run_plain_through (steps_taken l (next_state P (start a) before)) (zeroed P a) (plain_start P a)

-- DEMAND 3 THROUGH STOPS, going on. After an accepted start come any calls of before a paper, none of which stops the
-- store, and then any steps under the paper, stops and returns among them: these the store answers as the plain record
-- list does that was fed all of them.
unfoldable pub GoesOnThroughStops : (P : Parameters) → Growth P → Type 0
GoesOnThroughStops P G = (a : Parameters.StartArgument P) (before : State P) → answer_of P (start a) before ≡ ok
    → (l : List (Noise P × Call P)) → NoStop P l (next_state P (start a) before)
    → (t : Tables (grown P G)) (m : List (Noise (grown P G) × Step (grown P G)))
    → Intact (grown P G) m (grown_state P G (state_after P l (next_state P (start a) before))) t
    → run_through (grown P G) m (grown_state P G (state_after P l (next_state P (start a) before)))
    ≡ run_plain_through (grown P G) (steps_taken (grown P G) m (grown_state P G (state_after P l (next_state P (start a) before))))
    (grown_state P G (rules_after P (calls_of P l) (zeroed P a)))
    (grown_plain P G (plain_after P (calls_of P l) (zeroed P a) (plain_start P a)))
