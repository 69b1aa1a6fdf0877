-- Demand 3 on images, and that the control form is never broken again after a start: the statements. Assumes nothing.
use Rattle.std.specs.Prelude.{ℕ, leb, get_or, length, ◌&&◌, cond, false, List, [], ◌∷◌, ◌≡◌}
use Rattle.lists.specs.Tabulate.{tabulate}
use Rattle.image.specs.Layout.{control_size}
use Rattle.mask.specs.Masks.{Byte, has_card}
use Rattle.method.specs.OneRecordList.{Observation, is_last, observe, run_plain, zeroed}
use Rattle.method.specs.PlainList.{plain_start}
use Rattle.method.specs.Rules.{Call, ok, start}
use Rattle.control_form.specs.ControlForm.{form_refusal}
use Rattle.cabinet_rules.specs.Cabinet.{cabinet, rules_of}
use Rattle.cabinet_rules.specs.Delivery.{Delivery, current}
use Rattle.cabinet_rules.specs.Images.{Image, answer, answer_by, card_by, control_by, next, next_by}

-- ---- a list of calls by a delivery, each with the noise before it
module _ (D : Delivery) where
  -- Before each call the tables of failed cards hold any bytes: those that noise gives.
  unfoldable pub noisy_byte : (ℕ → ℕ) → Image → ℕ → ℕ
  noisy_byte noise g n =
      cond (leb control_size n && has_card (control_by D g).failed (card_by D.memory.layout n)) (noise n) (get_or g n 0)

  unfoldable pub noisy_by : (ℕ → ℕ) → Image → Image
  noisy_by noise g = tabulate (length g) (noisy_byte noise g)

  -- The noise, as the bytes that it gives, and the call.
  abbrev pub NoisyCallBy : Type 0
  NoisyCallBy = (ℕ → ℕ) × Call (rules_of D)

  -- What is observed up to the first stop, each call getting the memory as the last left it.
  unfoldable pub run_image_by : List NoisyCallBy → Image → List (Observation (rules_of D))
  run_image_by [] g = []
  run_image_by (e ∷ l) g =
      observe (rules_of D) e.1 (answer_by D e.1 (noisy_by e.0 g))
      ∷ cond (is_last (rules_of D) (observe (rules_of D) e.1 (answer_by D e.1 (noisy_by e.0 g)))) []
      (run_image_by l (next_by D e.1 (noisy_by e.0 g)))

  -- The calls alone.
  abbrev pub image_calls_by : List NoisyCallBy → List (Call (rules_of D))
  image_calls_by [] = []
  image_calls_by (e ∷ l) = e.1 ∷ image_calls_by l

  -- The image after all of them, stops included.
  unfoldable pub image_after_by : List NoisyCallBy → Image → Image
  image_after_by [] g = g
  image_after_by (e ∷ l) g = image_after_by l (next_by D e.1 (noisy_by e.0 g))

  -- None of them stopped the store.
  unfoldable pub NoStopBy : List NoisyCallBy → Image → Type 0
  NoStopBy [] g = Unit {0}
  NoStopBy (e ∷ l) g =
      (is_last (rules_of D) (observe (rules_of D) e.1 (answer_by D e.1 (noisy_by e.0 g))) ≡ false)
      × NoStopBy l (next_by D e.1 (noisy_by e.0 g))

-- ---- by the delivery in force
abbrev pub noisy : (ℕ → ℕ) → Image → Image
noisy = noisy_by current

abbrev pub NoisyCall : Type 0
NoisyCall = NoisyCallBy current

abbrev pub run_image : List NoisyCall → Image → List (Observation cabinet)
run_image = run_image_by current

abbrev pub image_calls : List NoisyCall → List (Call cabinet)
image_calls = image_calls_by current

abbrev pub image_after : List NoisyCall → Image → Image
image_after = image_after_by current

-- DEMAND 3. After an accepted start on memory of any contents, until the store stops, every get, store, delete,
-- commit and rollback answers exactly what the plain record list answers; and it stops exactly when the stop rule
-- says.
unfoldable pub OneRecordListOnImages : Type 0
OneRecordListOnImages = (m : Byte) (before : Image) → answer (start m) before ≡ ok → (l : List NoisyCall)
    → run_image l (next (start m) before) ≡ run_plain cabinet (image_calls l) (zeroed cabinet m) (plain_start cabinet m)

-- After an accepted start, refusals 1 and 2 never come again, whether the store runs or has stopped.
unfoldable pub ControlFormStays : Type 0
ControlFormStays = (m : Byte) (before : Image) → answer (start m) before ≡ ok → (l : List NoisyCall)
    → form_refusal (image_after l (next (start m) before)) ≡ 0
