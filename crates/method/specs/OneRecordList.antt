-- Demand 3, the statement: over any list of calls after an accepted start, the store answers as the plain record list
-- does, and stops exactly when the stop rule says. Assumes nothing.
use Rattle.std.specs.Prelude.{suc, zero, ℕ, Bool, ◌&&◌, cond, false, true, List, [], ◌∷◌, ◌≡◌}
use Rattle.method.specs.Changes.{started_by}
use Rattle.method.specs.Parameters.{Parameters}
use Rattle.method.specs.PlainList.{PlainList, no_blocks, or_refused, plain_next, plain_refusal, plain_start, stops_now}
use Rattle.method.specs.Rules.{Answer, Call, State, View, absent, answer_of, begin, commit, copied, delete, fail}
use Rattle.method.specs.Rules.{fit, get, load, loaded, look, move, next_state, ok, place, placed, protected}
use Rattle.method.specs.Rules.{refusal, refused, reply, retired, rollback, settle, start, state, stops, store}
use Rattle.method.specs.Rules.{stamped, unplaced, unprotected, value, withdraw}
use Rattle.method.specs.Slots.{is_none, read_by}

abbrev pub is_zero : ℕ → Bool
is_zero zero = true
is_zero (suc n) = false

module _ (P : Parameters) where
  open P use {StartArgument, Stamp, has, no_stamp}

  -- ---- what is compared
  -- The answer of a get, store, delete, commit or rollback; of a fail, whether it stops the store; of the other calls
  -- nothing.
  pub data Observation : Type 0 where
    client : Answer P → Observation
    failing : Bool → Observation
    quiet : Observation

  -- The list of observations ends with the first stop.
  abbrev pub is_last : Observation → Bool
  is_last (client x) = false
  is_last (failing stop) = stop
  is_last quiet = false

  -- ---- the store
  abbrev pub is_stop : Answer P → Bool
  is_stop ok = false
  is_stop (value n) = false
  is_stop absent = false
  is_stop (placed m) = false
  is_stop unplaced = false
  is_stop stops = true
  is_stop (copied n) = false
  is_stop (retired n) = false
  is_stop protected = false
  is_stop unprotected = false
  is_stop (loaded n) = false
  is_stop (refused n) = false

  abbrev pub observe : Call P → Answer P → Observation
  observe (start a) x = quiet
  observe (begin t h) x = quiet
  observe (get t r) x = client x
  observe (store t r n) x = client x
  observe (delete t r) x = client x
  observe (commit t) x = client x
  observe (rollback t) x = client x
  observe (fit c) x = quiet
  observe (withdraw c) x = quiet
  observe (place a) x = quiet
  observe (fail c) x = failing (is_stop x)
  observe (move c b) x = quiet
  observe settle x = quiet
  observe state x = quiet
  observe (load c) x = quiet

  -- Before each call the tables of failed cards hold any bytes: what noise says, of blocks and of stamps.
  pub record Noise : Type 0 where
    pub block : View P
    pub stamp : ℕ → Stamp

  unfoldable pub disturb : Noise → State P → State P
  disturb noise s = record {
    control = s.control;
    block = λ c b. cond (has s.control.failed c) (noise.block c b) (s.block c b);
    stamp = λ c. cond (has s.control.failed c) (noise.stamp c) (s.stamp c);
  }

  -- A list of calls, each with the noise before it. Each call gets the tables as the last left them.
  unfoldable pub run_store : List (Noise × Call P) → State P → List Observation
  run_store [] s = []
  run_store (e ∷ l) s =
      observe e.1 (answer_of P e.1 (disturb e.0 s))
      ∷ cond (is_last (observe e.1 (answer_of P e.1 (disturb e.0 s)))) []
      (run_store l (next_state P e.1 (disturb e.0 s)))

  -- ---- the plain record list
  -- Its refusals are 3, 5 and 7 (the `true` is for settle, of which no answer is compared).
  unfoldable pub plain_observe : Call P → PlainList P → Observation
  plain_observe (start a) q = quiet
  plain_observe (begin t h) q = quiet
  plain_observe (get t r) q = client (or_refused P (plain_refusal P true (get t r) q) (reply P (read_by t (q.records r))))
  plain_observe (store t r n) q = client (or_refused P (plain_refusal P true (store t r n) q) ok)
  plain_observe (delete t r) q =
      client (or_refused P (plain_refusal P true (delete t r) q) (cond (is_none (read_by t (q.records r))) absent ok))
  plain_observe (commit t) q = client (or_refused P (plain_refusal P true (commit t) q) ok)
  plain_observe (rollback t) q = client (or_refused P (plain_refusal P true (rollback t) q) ok)
  plain_observe (fit c) q = quiet
  plain_observe (withdraw c) q = quiet
  plain_observe (place a) q = quiet
  plain_observe (fail c) q = failing (has q.control.working c && stops_now P q.control c)
  plain_observe (move c b) q = quiet
  plain_observe settle q = quiet
  plain_observe state q = quiet
  plain_observe (load c) q = quiet

  -- The rules over the same calls accept a settle in state z.
  unfoldable pub settle_accepted : State P → Bool
  settle_accepted z = is_zero (refusal P settle z.control (look P z))

  -- z is the run of the rules over the same calls alone, with no noise; it decides nothing but whether a settle is
  -- accepted.
  unfoldable pub run_plain : List (Call P) → State P → PlainList P → List Observation
  run_plain [] z q = []
  run_plain (c ∷ l) z q =
      plain_observe c q
      ∷ cond (is_last (plain_observe c q)) [] (run_plain l (next_state P c z) (plain_next P (settle_accepted z) c q))

  abbrev pub calls_of : List (Noise × Call P) → List (Call P)
  calls_of [] = []
  calls_of (e ∷ l) = e.1 ∷ calls_of l

  -- ---- what a list of calls leaves
  -- The state after a list of calls, each with the noise before it.
  unfoldable pub state_after : List (Noise × Call P) → State P → State P
  state_after [] s = s
  state_after (e ∷ l) s = state_after l (next_state P e.1 (disturb e.0 s))

  -- None of these calls stopped the store.
  unfoldable pub NoStop : List (Noise × Call P) → State P → Type 0
  NoStop [] s = Unit {0}
  NoStop (e ∷ l) s =
      (is_last (observe e.1 (answer_of P e.1 (disturb e.0 s))) ≡ false)
      × NoStop l (next_state P e.1 (disturb e.0 s))

  -- The state after the calls alone, with no noise: the run of the rules beside the plain record list.
  unfoldable pub rules_after : List (Call P) → State P → State P
  rules_after [] z = z
  rules_after (c ∷ l) z = rules_after l (next_state P c z)

  -- The plain record list after the calls, beside the run of the rules from z.
  unfoldable pub plain_after : List (Call P) → State P → PlainList P → PlainList P
  plain_after [] z q = q
  plain_after (c ∷ l) z q = plain_after l (next_state P c z) (plain_next P (settle_accepted z) c q)

  -- What a start leaves.
  abbrev pub zeroed : StartArgument → State P
  zeroed a = record {
    control = started_by P a;
    block = no_blocks P;
    stamp = stamped P (started_by P a) (λ c. no_stamp);
  }

  -- DEMAND 3. After an accepted start on memory of any contents.
  unfoldable pub OneRecordList : Type 0
  OneRecordList = (a : StartArgument) (before : State P) → answer_of P (start a) before ≡ ok
      → (l : List (Noise × Call P))
      → run_store l (next_state P (start a) before) ≡ run_plain (calls_of l) (zeroed a) (plain_start P a)
