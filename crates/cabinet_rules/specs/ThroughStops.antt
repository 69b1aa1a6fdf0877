-- Demand 3 through stops, on images (request A.7): the statements. Assumes nothing.
use Rattle.std.specs.Prelude.{◌+◌, ◌<◌, ℕ, leb, get_or, Bool, ◌&&◌, cond, not, true, List, [], ◌++◌, ◌∷◌, ◌≡◌}
use Rattle.image.specs.Layout.{control_size, table_size_of, table_start_of}
use Rattle.mask.specs.Masks.{Byte, has_card}
use Rattle.method.specs.OneRecordList.{Observation, is_zero, observe, zeroed}
use Rattle.method.specs.PlainList.{plain_start}
use Rattle.method.specs.Rules.{ok, start}
use Rattle.method.specs.ThroughStops.{Step, call, return, run_plain_through}
use Rattle.control_form.specs.ControlForm.{form_refusal}
use Rattle.cabinet_rules.specs.Cabinet.{cabinet, rules_of}
use Rattle.cabinet_rules.specs.Claims.{noisy_by}
use Rattle.cabinet_rules.specs.Delivery.{Delivery, current}
use Rattle.cabinet_rules.specs.GoesOn.{Earlier, Store}
use Rattle.cabinet_rules.specs.Images.{Image, answer, answer_by, card_by, control_by, next, next_by}
use Rattle.cabinet_rules.specs.Returns.{after_return_by, return_refusal_by}

-- ---- steps by a delivery
module _ (D : Delivery) where
  -- What a step leaves: a call, or the return of a card.
  unfoldable pub after_step_by : Step (rules_of D) → Image → Image
  after_step_by (call c) g = next_by D c g
  after_step_by (return c) g = after_return_by D c g

  -- The return of the card is not refused.
  unfoldable pub takes_by : ℕ → Image → Bool
  takes_by c g = is_zero (return_refusal_by D c g)

  abbrev pub counts_by : Step (rules_of D) → Image → Bool
  counts_by (call c) g = true
  counts_by (return c) g = takes_by c g

  -- A step, and the noise before it as the bytes that it gives.
  abbrev pub NoisyStepBy : Type 0
  NoisyStepBy = (ℕ → ℕ) × Step (rules_of D)

  -- ---- the proviso, of bytes
  -- The card failed between the two images.
  abbrev pub failed_between : Image → Image → ℕ → Bool
  failed_between g h c = has_card (control_by D h).failed c && not (has_card (control_by D g).failed c)

  -- The bytes of failed cards' tables as they were at their failing: those of cards that failed between the two images
  -- are recorded, the rest stays.
  unfoldable pub recorded_byte : Image → Image → (ℕ → ℕ) → ℕ → ℕ
  recorded_byte g h t n = cond (leb control_size n && failed_between g h (card_by D.memory.layout n)) (get_or h n 0) (t n)

  -- A card that comes back has in its whole table, stamp included, the bytes of its failing. A refused return asks nothing.
  unfoldable pub AsRecordedBy : Step (rules_of D) → Image → (ℕ → ℕ) → Type 0
  AsRecordedBy (call c) g t = Unit {0}
  AsRecordedBy (return c) g t = takes_by c g ≡ true → (j : ℕ) → j < table_size_of D.memory.layout
      → get_or g (table_start_of D.memory.layout c + j) 0 ≡ t (table_start_of D.memory.layout c + j)

  -- So it is at every step of the list.
  unfoldable pub IntactBy : List NoisyStepBy → Image → (ℕ → ℕ) → Type 0
  IntactBy [] g t = Unit {0}
  IntactBy (e ∷ l) g t =
      AsRecordedBy e.1 (noisy_by D e.0 g) t
      × IntactBy l (after_step_by e.1 (noisy_by D e.0 g))
      (recorded_byte (noisy_by D e.0 g) (after_step_by e.1 (noisy_by D e.0 g)) t)

  -- ---- runs
  -- What is observed of a step: of a return nothing, its effect shows in later answers.
  unfoldable pub observed_by : Step (rules_of D) → Image → List (Observation (rules_of D))
  observed_by (call c) g = observe (rules_of D) c (answer_by D c g) ∷ []
  observed_by (return c) g = []

  -- A list of steps, each getting the memory as the last left it but for the noise, and on behind every stop.
  unfoldable pub run_through_by : List NoisyStepBy → Image → List (Observation (rules_of D))
  run_through_by [] g = []
  run_through_by (e ∷ l) g = observed_by e.1 (noisy_by D e.0 g) ++ run_through_by l (after_step_by e.1 (noisy_by D e.0 g))

  -- The steps without the refused returns, as the plain record list is given them.
  unfoldable pub steps_taken_by : List NoisyStepBy → Image → List (Step (rules_of D))
  steps_taken_by [] g = []
  steps_taken_by (e ∷ l) g =
      cond (counts_by e.1 (noisy_by D e.0 g))
      (e.1 ∷ steps_taken_by l (after_step_by e.1 (noisy_by D e.0 g)))
      (steps_taken_by l (after_step_by e.1 (noisy_by D e.0 g)))

  -- The image after all of them.
  unfoldable pub image_through_by : List NoisyStepBy → Image → Image
  image_through_by [] g = g
  image_through_by (e ∷ l) g = image_through_by l (after_step_by e.1 (noisy_by D e.0 g))

-- ---- by the delivery in force
abbrev pub NoisyStep : Type 0
NoisyStep = NoisyStepBy current

-- DEMAND 3 THROUGH STOPS. After an accepted start on memory of any contents, over any list of calls and returns in which
-- every card that comes back has the bytes of its failing: what is observed is what the plain record list shows, through
-- every stop.
unfoldable pub OneRecordListThroughStopsOnImages : Type 0
OneRecordListThroughStopsOnImages = (m : Byte) (before : Image) → answer (start m) before ≡ ok
    → (t : ℕ → ℕ) (l : List NoisyStep) → IntactBy current l (next (start m) before) t
    → run_through_by current l (next (start m) before)
    ≡ run_plain_through cabinet (steps_taken_by current l (next (start m) before)) (zeroed cabinet m) (plain_start cabinet m)

-- The same from a running store that earlier deliveries left.
unfoldable pub GoesOnThroughStopsOnImages : Type 0
GoesOnThroughStopsOnImages = (s : Store) → Earlier s
    → (t : ℕ → ℕ) (l : List NoisyStep) → IntactBy current l s.image t
    → run_through_by current l s.image ≡ run_plain_through cabinet (steps_taken_by current l s.image) s.rules s.plain

-- With returns too, refusals 1 and 2 never come again after an accepted start, whatever bytes the cards have that come back.
unfoldable pub ControlFormStaysThroughStops : Type 0
ControlFormStaysThroughStops = (m : Byte) (before : Image) → answer (start m) before ≡ ok
    → (l : List NoisyStep) → form_refusal (image_through_by current l (next (start m) before)) ≡ 0
