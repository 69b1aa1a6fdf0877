-- What block work leaves of an image: the blocks that were written, all else as found. Assumes nothing.
use Rattle.std.proofs.Math.Option.{none}
use Rattle.std.specs.Prelude.{get_or}
use Rattle.cabinet_rules.specs.Images.{Image, Writes, after, tail_in}

-- The control bytes and what lies behind a table's blocks and behind the tables stay as they are.
unfoldable pub laid : Writes → Image → Image
laid w g = after (λ n. get_or g n 0) (tail_in g) w (λ c. none) g
