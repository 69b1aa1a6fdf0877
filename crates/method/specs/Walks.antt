-- Reads that give way to moves (request A.8): a walk reads one card of a block's trail a step, with other calls between.
-- The step, and the two claims for walks: what they answer, and that they end. Assumes nothing.
use Rattle.std.specs.Prelude.{◌*◌, ◌+◌, ◌-◌, ◌<◌, ◌≤◌, suc, zero, ℕ, eqb, leb, ltb, length, Bool, ◌&&◌, cond, false, not, true, List, [], ◌++◌, ◌∷◌, ◌≡◌}
use Rattle.lists.specs.Tests.{In}
use Rattle.method.specs.Changes.{Control}
use Rattle.method.specs.ControlPart.{active, is_open}
use Rattle.method.specs.OneRecordList.{Noise, disturb}
use Rattle.method.specs.Parameters.{Parameters}
use Rattle.method.specs.Rules.{Answer, AnswerOf, State, View, absent, answer_of, get, look, next_state, ok, refused, reply}
use Rattle.method.specs.Rules.{row, start}
use Rattle.method.specs.Slots.{Slot, locked_by_other, read_by}
use Rattle.method.specs.ThroughStops.{Intact, Step, Tables, after_step, state_through}

-- ---- the walk
-- A walk keeps its placement, told by serial, and its position there: those of the next site, positions from 0.
pub record Walk : Type 0 where
  pub serial : ℕ
  pub position : ℕ

-- It is new when all its numbers are zero.
abbrev pub new_walk : Walk
new_walk = record { serial = 0; position = 0 }

abbrev pub is_new : Walk → Bool
is_new w = eqb w.serial 0 && eqb w.position 0

-- ---- the sites of a block, as a walk passes them
-- A site: the walk that stands there, and the card.
pub record Site : Type 0 where
  pub at : Walk
  pub card : ℕ

-- The sites of one placement, from a position on.
abbrev pub sites_from : ℕ → ℕ → List ℕ → List Site
sites_from ν j [] = []
sites_from ν j (c ∷ l) = record { at = record { serial = ν; position = j }; card = c } ∷ sites_from ν (suc j) l

-- The walk stands at this site.
abbrev pub stands_at : Walk → Site → Bool
stands_at w s = eqb w.serial s.at.serial && eqb w.position s.at.position

-- The sites from the walk's own on.
abbrev pub from_own : Walk → List Site → List Site
from_own w [] = []
from_own w (s ∷ l) = cond (stands_at w s) (s ∷ l) (from_own w l)

-- ---- one card is read
-- It holds the block; it lacks the block, and the walk goes on to the next site; it lacks the block, and it is the
-- newest's last site (in a running store no member of the newest is failed).
pub data Reading : Type 0 where
  found : ℕ → Reading
  on_to : Walk → Reading
  missing : Reading

-- The next site, whether its card is failed or not.
abbrev pub next_site : List Site → Reading
next_site [] = missing
next_site (s ∷ l) = on_to s.at

-- Failed cards are passed over within a step.
abbrev pub read_first : (ℕ → Bool) → (ℕ → Bool) → List Site → Reading
read_first failed holds [] = missing
read_first failed holds (s ∷ l) =
    cond (failed s.card) (read_first failed holds l) (cond (holds s.card) (found s.card) (next_site l))

-- ---- answers
-- A step says 'on', or it answers as a get does. A set of cards is an M.
pub data WalkAnswerOf (M : Type 0) : Type 0 where
  on : WalkAnswerOf M
  says : AnswerOf M → WalkAnswerOf M

-- What a step answers, and the walk after it.
pub record WalkStepOf (M : Type 0) : Type 0 where
  pub answer : WalkAnswerOf M
  pub walk : Walk

-- A refusal leaves the walk as lent. The number is its refusal, 0 where there is none.
abbrev pub unless_walk_refused : {M : Type 0} → ℕ → Walk → WalkStepOf M → WalkStepOf M
unless_walk_refused zero w x = x
unless_walk_refused (suc n) w x = record { answer = says (refused (suc n)); walk = w }

module _ (P : Parameters) where
  open P use {Mask, block_of, place_of, slot}

  abbrev pub WalkAnswer : Type 0
  WalkAnswer = WalkAnswerOf Mask

  abbrev pub WalkStep : Type 0
  WalkStep = WalkStepOf Mask

  -- The record's slot on a card.
  abbrev pub slot_on : View P → ℕ → ℕ → Slot
  slot_on v r c = slot (v c (block_of r)) (place_of r)

  -- Row 7 minds only the card that is read.
  abbrev pub read_locked : ℕ → ℕ → View P → Reading → Bool
  read_locked t r v (found c) = locked_by_other t (slot_on v r c)
  read_locked t r v (on_to w) = false
  read_locked t r v missing = false

  -- A card that holds the block gives the answer of a get; the newest's last site without it answers absent; other
  -- steps without it say 'on'. An answer that ends the walk leaves it new.
  abbrev pub after_reading : ℕ → ℕ → View P → Reading → WalkStep
  after_reading t r v (found c) = record { answer = says (reply P (read_by t (slot_on v r c))); walk = new_walk }
  after_reading t r v (on_to w) = record { answer = on; walk = w }
  after_reading t r v missing = record { answer = says absent; walk = new_walk }

-- ---- placements are told by serial, which is a number
module _ (P : Parameters) (number : Parameters.Serial P → ℕ) where
  open P use {Placement, Setting, StartArgument, copies, tran_in_range, rec_in_range, block_of, has, sites, held}

  -- The control part has the newest's; each placement has one more than the one before it.
  abbrev pub oldest_serial : Control P → ℕ
  oldest_serial k = number k.serial - length k.older

  -- The sites of a list of placements, of which the first has serial ν.
  abbrev pub sites_of_all : Setting → ℕ → ℕ → List Placement → List Site
  sites_of_all σ b ν [] = []
  sites_of_all σ b ν (p ∷ l) = sites_from ν 0 (sites σ p b) ++ sites_of_all σ b (suc ν) l

  -- All sites of a block, oldest placement first.
  abbrev pub all_sites : Control P → ℕ → List Site
  all_sites k b = sites_of_all k.setting b (oldest_serial k) (active k)

  -- A walk whose placement is retired goes to position 0 of the oldest. No placement has serial 0, so a new walk begins
  -- there, and so does one with serial 0 and another position.
  abbrev pub standing : Control P → Walk → Walk
  standing k w = cond (ltb w.serial (oldest_serial k)) (record { serial = oldest_serial k; position = 0 }) w

  -- What a step for record r reads.
  unfoldable pub reading : ℕ → Control P → View P → Walk → Reading
  reading r k v w =
      read_first (has k.failed) (λ c. held (v c (block_of r))) (from_own (standing k w) (all_sites k (block_of r)))

  -- ---- the step
  -- A position above that of a placement's last site, or a serial above the newest's, is outside its range.
  abbrev pub walk_in_range : Control P → Walk → Bool
  walk_in_range k w = ltb w.position (copies k.setting) && leb w.serial (number k.serial)

  -- The refusal table from 3 on.
  unfoldable pub walk_refusal : ℕ → ℕ → Control P → View P → Walk → ℕ
  walk_refusal t r k v w =
      row 3 (not (tran_in_range t && rec_in_range k.setting r && walk_in_range k w)) (
      row 4 k.stopped (
      row 5 (not (is_open k t)) (
      row 7 (read_locked P t r v (reading r k v w)) 0)))

  unfoldable pub walk_step : ℕ → ℕ → Control P → View P → Walk → WalkStep P
  walk_step t r k v w = unless_walk_refused (walk_refusal t r k v w) w (after_reading P t r v (reading r k v w))

  abbrev pub step_in : ℕ → ℕ → State P → Walk → WalkStep P
  step_in t r s w = walk_step t r s.control (look P s) w

  -- ---- the moments of a run
  -- A step of the walk, or another step of the run: a call, or the return of a card.
  pub data Event : Type 0 where
    steps : Event
    others : Step P → Event

  -- A moment: the state, and whether a step of the walk is made in it.
  abbrev pub Moment : Type 0
  Moment = State P × Bool

  -- The moments of a list of events, each with the noise before it.
  unfoldable pub moments : List (Noise P × Event) → State P → List Moment
  moments [] s = []
  moments ((g, steps) ∷ l) s = (disturb P g s, true) ∷ moments l (disturb P g s)
  moments ((g, others e) ∷ l) s = (after_step P e (disturb P g s), false) ∷ moments l (after_step P e (disturb P g s))

  -- The transaction is open at every moment.
  unfoldable pub OpenThroughout : ℕ → List Moment → Type 0
  OpenThroughout t [] = Unit {0}
  OpenThroughout t (m ∷ l) = (is_open m.0.control t ≡ true) × OpenThroughout t l

  -- ---- what a walk answers
  -- The answer is one of these; 'on' is none.
  abbrev pub IsOneOf : WalkAnswer P → List (Answer P) → Type 0
  IsOneOf on reads = Unit {0}
  IsOneOf (says x) reads = In x reads

  -- What whole reads would have given since the walk's first step: a step of a new walk is its first.
  abbrev pub since_first : Walk → List (Answer P) → List (Answer P)
  since_first w reads = cond (is_new w) [] reads

  -- Whatever a step of the walk answers, a refusal too, is what a whole read would have given at some moment from the
  -- walk's first step to this one.
  unfoldable pub AnswersAsRead : ℕ → ℕ → List Moment → Walk → List (Answer P) → Type 0
  AnswersAsRead t r [] w reads = Unit {0}
  AnswersAsRead t r ((s, false) ∷ l) w reads = AnswersAsRead t r l w (answer_of P (get t r) s ∷ reads)
  AnswersAsRead t r ((s, true) ∷ l) w reads =
      IsOneOf (step_in t r s w).answer (answer_of P (get t r) s ∷ since_first w reads)
      × AnswersAsRead t r l (step_in t r s w).walk (answer_of P (get t r) s ∷ since_first w reads)

  -- THE CLAIM OF A.8. After an accepted start on memory of any contents and any steps, stops and returns among them, where
  -- every card that came back had the bytes of its failing, come steps of a walk, new at the first, and any others between
  -- them, with the transaction open throughout.
  unfoldable pub WalksAsRead : Type 0
  WalksAsRead = (a : StartArgument) (before : State P) → answer_of P (start a) before ≡ ok
      → (x : Tables P) (l : List (Noise P × Step P)) → Intact P l (next_state P (start a) before) x
      → (t r : ℕ) (s : State P) → s ≡ state_through P l (next_state P (start a) before) → is_open s.control t ≡ true
      → (m : List (Noise P × Event)) → OpenThroughout t (moments m s)
      → AnswersAsRead t r (moments m s) new_walk []

  -- ---- a walk ends
  -- How often the walk says 'on' before it ends; a refused step, whose number is first, leaves it where it is.
  abbrev pub ons_after : ℕ → WalkAnswer P → ℕ → ℕ
  ons_after (suc n) x later = later
  ons_after zero on later = suc later
  ons_after zero (says x) later = 0

  unfoldable pub ons : ℕ → ℕ → List Moment → Walk → ℕ
  ons t r [] w = 0
  ons t r ((s, false) ∷ l) w = ons t r l w
  ons t r ((s, true) ∷ l) w =
      ons_after (walk_refusal t r s.control (look P s) w) (step_in t r s w).answer (ons t r l (step_in t r s w).walk)

  -- The newest's serial is at most ν at every moment.
  unfoldable pub SerialsUpTo : ℕ → List Moment → Type 0
  SerialsUpTo ν [] = Unit {0}
  SerialsUpTo ν (m ∷ l) = (number m.0.control.serial ≤ ν) × SerialsUpTo ν l

  -- THE BOUND. Where at most d placements are added meanwhile (none: d is 0), a new walk says 'on' fewer times than the
  -- placements that are active at its first step, and those d, have sites; so it ends within that many steps that are not
  -- refused.
  unfoldable pub WalksEnd : Type 0
  WalksEnd = (a : StartArgument) (before : State P) → answer_of P (start a) before ≡ ok
      → (x : Tables P) (l : List (Noise P × Step P)) → Intact P l (next_state P (start a) before) x
      → (t r d : ℕ) (s : State P) → s ≡ state_through P l (next_state P (start a) before) → is_open s.control t ≡ true
      → (m : List (Noise P × Event)) → OpenThroughout t (moments m s) → SerialsUpTo (number s.control.serial + d) (moments m s)
      → ons t r (moments m s) new_walk < (length (active s.control) + d) * copies s.control.setting
