-- What the functions under load say of an image. Assumes nothing.
use Rattle.std.specs.Prelude.{ℕ}
use Rattle.lists.specs.Tests.{sum_below}
use Rattle.method.specs.Rules.{committed_in}
use Rattle.cabinet_rules.specs.Cabinet.{cabinet}
use Rattle.cabinet_rules.specs.Images.{Image, block_in}

-- How many records are committed present in the first n blocks of card c; a block that is not held has none.
unfoldable pub load_below : Image → ℕ → ℕ → ℕ
load_below g c n = sum_below n (λ b. committed_in cabinet (block_in g c b))
