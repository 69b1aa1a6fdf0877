-- An image with an empty table. Assumes nothing.
use Rattle.std.specs.Prelude.{ℕ, get_or}
use Rattle.method.specs.Rules.{clear_card, clear_stamp}
use Rattle.cabinet_rules.specs.Cabinet.{cabinet}
use Rattle.cabinet_rules.specs.Delivery.{current}
use Rattle.cabinet_rules.specs.Images.{Image, after, end_of, tail_in}

-- Card c holds no block and has no stamp; all else stays as it is.
unfoldable pub emptied : ℕ → Image → Image
emptied c g = after (λ n. get_or g n 0) (tail_in g) (clear_card cabinet c) (λ d. end_of current (clear_stamp cabinet c d)) g
