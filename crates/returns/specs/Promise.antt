-- The promise of a return: its answer and the image that it leaves are those of the rules. Assumes nothing.
use Rattle.std.specs.Prelude.{ℕ, ◌≡◌}
use Rattle.cabinet_rules.specs.Images.{Image}
use Rattle.cabinet_rules.specs.Returns.{after_return_on, answer_to_return}
use Rattle.promise.specs.Promise.{Answered, shown}

-- The return of card c on an image answered a and left the image behind.
pub record ReturnDone (c : ℕ) (before : Image) (a : Answered) (behind : Image) : Type 0 where
  pub answers : shown a ≡ answer_to_return c before
  pub leaves : behind ≡ after_return_on c before
