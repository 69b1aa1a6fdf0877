-- Calls and lists of calls on images are those of the rules on the states that the images show: the statements. So what
-- is proved of the rules holds on images. Assumes nothing.
use Rattle.std.specs.Prelude.{◌+◌, ℕ, cond, List, [], ◌∷◌, ◌≡◌}
use Rattle.image.specs.Layout.{block_address_of, end_start_of}
use Rattle.slot.specs.Blocks.{block_of_bytes, empty_block}
use Rattle.method.specs.OneRecordList.{state_after, Noise, run_store}
use Rattle.method.specs.Rules.{Call, answer_of, is_start, next_state}
use Rattle.control_form.specs.ControlForm.{control_form, form_refusal, form_rows}
use Rattle.cabinet_rules.specs.Cabinet.{cabinet, rules_of}
use Rattle.cabinet_rules.specs.Claims.{NoisyCall, NoisyCallBy, image_after, run_image}
use Rattle.cabinet_rules.specs.Delivery.{Delivery, current}
use Rattle.cabinet_rules.specs.Images.{Image, answer, is_there, next, state_in}

module _ (D : Delivery) where
  -- What noise on an image is by the rules: blocks and stamps. The same calls as the rules are given them.
  unfoldable pub noise_by : (ℕ → ℕ) → Noise (rules_of D)
  noise_by noise = record {
    block = λ c b. cond (is_there c b) (block_of_bytes (λ j. noise (block_address_of D.memory.layout c b + j))) empty_block;
    stamp = λ c. D.memory.stamp_in (λ j. noise (end_start_of D.memory.layout c + j));
  }

  abbrev pub noised_by : List (NoisyCallBy D) → List (Noise (rules_of D) × Call (rules_of D))
  noised_by [] = []
  noised_by (e ∷ l) = (noise_by e.0, e.1) ∷ noised_by l

-- On every image that is refused neither 1 nor 2, reached by calls or not, a call answers what the rules answer on the
-- state that the image shows, and the image after it shows the state that they give. So what is proved of the rules
-- holds on images.
unfoldable pub CallsByTheRules : Type 0
CallsByTheRules = (c : Call cabinet) (g : Image) → form_rows (is_start c) (control_form g) g 0 ≡ 0
    → (answer c g ≡ answer_of cabinet c (state_in g)) × (state_in (next c g) ≡ next_state cabinet c (state_in g))

-- So it is with a list of calls and the noise before each: what is observed, and the state that is left.
unfoldable pub RunsByTheRules : Type 0
RunsByTheRules = (l : List NoisyCall) (g : Image) → form_refusal g ≡ 0
    → (run_image l g ≡ run_store cabinet (noised_by current l) (state_in g))
    × (state_in (image_after l g) ≡ state_after cabinet (noised_by current l) (state_in g))
