-- What comes back after a stop, on images (request A.7): the statements. Assumes nothing.
use Rattle.std.specs.Prelude.{◌+◌, ◌<◌, ℕ, get_or, false, true, List, [], ◌∷◌, ◌≡◌}
use Rattle.image.specs.Layout.{card_count, table_size, table_start}
use Rattle.mask.specs.Masks.{Byte, has_card}
use Rattle.method.specs.Rules.{ok, start}
use Rattle.control.specs.Stamps.{stamp_in, stamp_of}
use Rattle.control_form.specs.ControlForm.{form_refusal}
use Rattle.cabinet_rules.specs.Claims.{noisy_by}
use Rattle.cabinet_rules.specs.Delivery.{Delivery, current}
use Rattle.cabinet_rules.specs.Images.{Image, answer, control_in, end_in, next}
use Rattle.cabinet_rules.specs.Returns.{return_refusal_on}
use Rattle.cabinet_rules.specs.ThroughStops.{IntactBy, NoisyStep, NoisyStepBy, after_step_by, image_through_by, recorded_byte}
use Rattle.cabinet_rules.specs.Twins.{TwinsOn}

-- The bytes of failed cards' tables, as recorded by the end of a list.
unfoldable pub recorded_through_by : (D : Delivery) → List (NoisyStepBy D) → Image → (ℕ → ℕ) → ℕ → ℕ
recorded_through_by D [] g t = t
recorded_through_by D (e ∷ l) g t =
    recorded_through_by D l (after_step_by D e.1 (noisy_by D e.0 g))
    (recorded_byte D (noisy_by D e.0 g) (after_step_by D e.1 (noisy_by D e.0 g)) t)

-- Whatever is so of the image and of the recorded bytes after an accepted start and any list of calls and returns in which
-- every card that comes back has the bytes of its failing.
abbrev pub AfterStepsOnImages : (Image → (ℕ → ℕ) → Type 0) → Type 0
AfterStepsOnImages Q = (m : Byte) (before : Image) → answer (start m) before ≡ ok
    → (t : ℕ → ℕ) (l : List NoisyStep) → IntactBy current l (next (start m) before) t
    → Q (image_through_by current l (next (start m) before)) (recorded_through_by current l (next (start m) before) t)

-- In a running store every member of the newest placement has its stamp, and none is failed: a card that failed before
-- the placement was made is not named by it.
unfoldable pub MembersAreStamped : Type 0
MembersAreStamped = AfterStepsOnImages (λ g t. (control_in g).stopped ≡ false
    → (c : ℕ) → has_card (control_in g).newest.mask c ≡ true
    → (stamp_in (end_in g c) ≡ stamp_of (control_in g)) × (has_card (control_in g).failed c ≡ false))

-- In a stopped store a failed card that the newest placement names comes back, whatever the tables of other failed cards
-- hold: where its own table has the bytes of its failing, its return is not refused.
unfoldable pub MembersComeBack : Type 0
MembersComeBack = AfterStepsOnImages (λ g t. (control_in g).stopped ≡ true
    → (c : ℕ) → has_card (control_in g).failed c ≡ true → has_card (control_in g).newest.mask c ≡ true
    → (noise : ℕ → ℕ) → ((j : ℕ) → j < table_size → get_or (noisy_by current noise g) (table_start c + j) 0 ≡ t (table_start c + j))
    → return_refusal_on c (noisy_by current noise g) ≡ 0)

-- Any two working cards that hold a block show the same slots of it, whether the store runs or has stopped.
unfoldable pub TwinsAgreeThroughStopsOnImages : Type 0
TwinsAgreeThroughStopsOnImages = AfterStepsOnImages (λ g t. TwinsOn g)

-- On every image that is refused neither 1 nor 2: a failed card that the newest placement does not name is refused 19 by a
-- stopped store, whatever its table holds.
unfoldable pub UnnamedStaysAway : Type 0
UnnamedStaysAway = (g : Image) → form_refusal g ≡ 0 → (control_in g).stopped ≡ true
    → (c : ℕ) → c < card_count → has_card (control_in g).failed c ≡ true → has_card (control_in g).newest.mask c ≡ false
    → return_refusal_on c g ≡ 19

-- On any two images that are refused neither 1 nor 2, g of a running store and h of a stopped one, with the same newest
-- mask: a card that did not work in g is refused 19 in h, whatever its table holds. So a card that failed before the newest
-- placement was made does not come back (g is the memory when it was made), nor one that was fitted since (g is the memory
-- before the fit).
unfoldable pub IdleStaysAway : Type 0
IdleStaysAway = (g h : Image) → form_refusal g ≡ 0 → form_refusal h ≡ 0
    → (control_in g).stopped ≡ false → (control_in h).stopped ≡ true → (control_in h).newest.mask ≡ (control_in g).newest.mask
    → (c : ℕ) → c < card_count → has_card (control_in g).working c ≡ false → has_card (control_in h).failed c ≡ true
    → return_refusal_on c h ≡ 19
