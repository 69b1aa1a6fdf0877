-- Twins agree, on images: all working cards that hold a block show the same slots of it. The statements. Assumes
-- nothing.
use Rattle.std.specs.Prelude.{◌<◌, ℕ, true, List, ◌≡◌}
use Rattle.image.specs.Layout.{block_count, slot_count}
use Rattle.mask.specs.Masks.{Byte, has_card}
use Rattle.slot.specs.Blocks.{is_held}
use Rattle.method.specs.Rules.{ok, start}
use Rattle.cabinet_rules.specs.Cabinet.{slot_seen}
use Rattle.cabinet_rules.specs.Claims.{NoisyCall, image_after}
use Rattle.cabinet_rules.specs.Converting.{stamped_image}
use Rattle.cabinet_rules.specs.GoesOn.{EarlierImage}
use Rattle.cabinet_rules.specs.Images.{Image, answer, block_in, control_in, next}

-- Two working cards that hold block b show the same eight slots of it: committed state, lock and pending state alike.
abbrev pub TwinsOn : Image → Type 0
TwinsOn g = (c d b i : ℕ) → has_card (control_in g).working c ≡ true → has_card (control_in g).working d ≡ true
    → b < block_count → is_held (block_in g c b) ≡ true → is_held (block_in g d b) ≡ true → i < slot_count
    → slot_seen (block_in g c b) i ≡ slot_seen (block_in g d b) i

-- After an accepted start on memory of any contents and any list of calls, whether they stopped the store or not.
unfoldable pub TwinsAgreeOnImages : Type 0
TwinsAgreeOnImages = (m : Byte) (before : Image) → answer (start m) before ≡ ok → (l : List NoisyCall)
    → TwinsOn (image_after l (next (start m) before))

-- After any list of calls on a converted image that earlier deliveries left, of a running or of a stopped store.
unfoldable pub TwinsAgreeFromEarlier : Type 0
TwinsAgreeFromEarlier = (g : Image) → EarlierImage g → (l : List NoisyCall) → TwinsOn (image_after l (stamped_image g))
