-- What a stop keeps and what comes back after it (request A.7): the statements. Assumes nothing.
use Rattle.std.specs.Prelude.{ℕ, ltb, Bool, false, true, List, [], ◌∷◌, ◌≡◌}
use Rattle.std.proofs.Math.Option.{none, some}
use Rattle.method.specs.Changes.{Control}
use Rattle.method.specs.OneRecordList.{Noise, settle_accepted, zeroed}
use Rattle.method.specs.Parameters.{Parameters}
use Rattle.method.specs.PlainList.{PlainList, plain_start}
use Rattle.method.specs.Returning.{after_return, return_refusal}
use Rattle.method.specs.Rules.{State, answer_of, is_start, next_state, ok, start}
use Rattle.method.specs.ThroughStops.{Intact, Step, Tables, after_step, call, plain_step, plain_through, return, rolled_back}
use Rattle.method.specs.ThroughStops.{state_through, steps_taken, tables_through}
use Rattle.method.specs.Twins.{Twins}

module _ (P : Parameters) where
  open P use {Stamp, StartArgument, cards, has, mask, stamp_of}

  -- ---- committed records are kept
  -- A stop leaves every record's committed state.
  unfoldable pub StopKeepsCommitted : Type 0
  StopKeepsCommitted = (q : PlainList P) (c r : ℕ)
      → ((rolled_back P q (some c)).records r).committed ≡ (q.records r).committed

  -- The step is a start.
  abbrev pub restarts : Step P → Bool
  restarts (call c) = is_start c
  restarts (return c) = false

  -- Each of the steps finds the list stopped, and none is a start; the last may set it running.
  unfoldable pub WhileStopped : List (Step P) → State P → PlainList P → Type 0
  WhileStopped [] z q = Unit {0}
  WhileStopped (e ∷ l) z q =
      (q.control.stopped ≡ true) × (restarts e ≡ false)
      × WhileStopped l (after_step P e z) (plain_step P (settle_accepted P z) e q)

  -- While the list is stopped, no step but a start changes a record.
  unfoldable pub StoppedKeepsRecords : Type 0
  StoppedKeepsRecords = (l : List (Step P)) (z : State P) (q : PlainList P) → WhileStopped l z q
      → (plain_through P l z q).records ≡ q.records

  -- ---- of every store after an accepted start and steps in which every card that comes back has the bytes of its
  -- failing
  -- Whatever is so of all of them: of the state, of the plain record list beside it, and of the recorded tables.
  abbrev pub AfterSteps : (State P → PlainList P → Tables P → Type 0) → Type 0
  AfterSteps Q = (a : StartArgument) (before : State P) → answer_of P (start a) before ≡ ok
      → (t : Tables P) (l : List (Noise P × Step P)) → Intact P l (next_state P (start a) before) t
      → Q (state_through P l (next_state P (start a) before))
      (plain_through P (steps_taken P l (next_state P (start a) before)) (zeroed P a) (plain_start P a))
      (tables_through P l (next_state P (start a) before) t)

  -- While stopped no record is locked, and nothing is pending.
  abbrev pub Unlocks : PlainList P → Type 0
  Unlocks q = q.control.stopped ≡ true → (r : ℕ) → ((q.records r).lock ≡ 0) × ((q.records r).pending ≡ none)

  -- A stop leaves no lock.
  unfoldable pub StopLeavesNoLock : Type 0
  StopLeavesNoLock = AfterSteps (λ s q t. Unlocks q)

  -- In a running store every member of the newest placement has its stamp and is not failed: a card that failed before
  -- the placement was made is not named by it.
  abbrev pub MembersStamped : State P → Type 0
  MembersStamped s = s.control.stopped ≡ false → (c : ℕ) → has (mask s.control.newest) c ≡ true
      → (s.stamp c ≡ stamp_of s.control) × (has s.control.failed c ≡ false)

  -- So it is in every running store.
  unfoldable pub RunningMembersStamped : Type 0
  RunningMembersStamped = AfterSteps (λ s q t. MembersStamped s)

  -- In a stopped store a failed card that the newest placement names is not refused, where its stamp is as recorded.
  abbrev pub Returns : State P → Tables P → Type 0
  Returns s t = s.control.stopped ≡ true → (c : ℕ) → has s.control.failed c ≡ true
      → has (mask s.control.newest) c ≡ true
      → (stamps : ℕ → Stamp) → stamps c ≡ t.stamp c → return_refusal P s.control stamps c ≡ 0

  -- So it is in every stopped store.
  unfoldable pub IntactCardReturns : Type 0
  IntactCardReturns = AfterSteps (λ s q t. Returns s t)

  -- Twins agree, whether the store runs or is stopped, and whichever cards came back.
  unfoldable pub TwinsAgreeThroughStops : Type 0
  TwinsAgreeThroughStops = AfterSteps (λ s q t. Twins P s)

  -- ---- of any control part, any stamps and any state
  -- A failed card that the newest placement does not name is refused 19, whatever its stamp.
  unfoldable pub UnnamedIsStale : Type 0
  UnnamedIsStale = (k : Control P) (stamps : ℕ → Stamp) (c : ℕ) → ltb c cards ≡ true → k.stopped ≡ true
      → has k.failed c ≡ true → has (mask k.newest) c ≡ false → return_refusal P k stamps c ≡ 19

  -- A running store refuses every return, and it changes nothing.
  unfoldable pub RunningRefusesReturn : Type 0
  RunningRefusesReturn = (c : ℕ) (s : State P) → s.control.stopped ≡ false → after_return P c s ≡ s
