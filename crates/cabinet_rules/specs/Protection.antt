-- When state answers protected, on images: the statements. Assumes nothing.
use Rattle.std.specs.Prelude.{ℕ, Bool, not, List, ◌≡◌}
use Rattle.lists.specs.Tests.{all_below}
use Rattle.image.specs.Layout.{card_count}
use Rattle.mask.specs.Masks.{Byte}
use Rattle.method.specs.OneRecordList.{plain_after, is_stop, zeroed}
use Rattle.method.specs.PlainList.{plain_protected, plain_start}
use Rattle.method.specs.Protection.{protection}
use Rattle.method.specs.Rules.{fail, ok, start, state}
use Rattle.cabinet_rules.specs.Cabinet.{cabinet}
use Rattle.cabinet_rules.specs.Claims.{NoStopBy, NoisyCall, image_after, image_calls, noisy}
use Rattle.cabinet_rules.specs.Delivery.{current}
use Rattle.cabinet_rules.specs.GoesOn.{Earlier, Store}
use Rattle.cabinet_rules.specs.Images.{Image, answer, next, refusal_on}

-- No fail of a card would answer 'stopped' on this image.
unfoldable pub no_fail_stops_on : Image → Bool
no_fail_stops_on g = all_below card_count (λ c. not (is_stop cabinet (answer (fail c) g)))

-- On every image of which state is not refused, reached by calls or not, it answers protected exactly where no fail of
-- a card would answer 'stopped'.
unfoldable pub ProtectedByFailsOnImages : Type 0
ProtectedByFailsOnImages = (g : Image) → refusal_on state g ≡ 0 → answer state g ≡ protection cabinet (no_fail_stops_on g)

-- After an accepted start on memory of any contents and any calls, none of which stopped the store, state answers the
-- word of the plain record list that was fed the same calls.
unfoldable pub ProtectedByPlainListOnImages : Type 0
ProtectedByPlainListOnImages = (m : Byte) (before : Image) → answer (start m) before ≡ ok
    → (l : List NoisyCall) → NoStopBy current l (next (start m) before)
    → (noise : ℕ → ℕ)
    → answer state (noisy noise (image_after l (next (start m) before)))
    ≡ protection cabinet (plain_protected cabinet
    (plain_after cabinet (image_calls l) (zeroed cabinet m) (plain_start cabinet m)))

-- The same from a store that earlier deliveries left: the plain record list was fed their calls too.
unfoldable pub ProtectedFromEarlier : Type 0
ProtectedFromEarlier = (s : Store) → Earlier s → (l : List NoisyCall) → NoStopBy current l s.image
    → (noise : ℕ → ℕ)
    → answer state (noisy noise (image_after l s.image))
    ≡ protection cabinet (plain_protected cabinet (plain_after cabinet (image_calls l) s.rules s.plain))
