-- With other working cards the struct means what the cards alone change (`cards-are`). Assumes nothing.
use mathlib.Core.Path.{refl}
use Rattle.control.specs.Meaning.{meaning}
use Rattle.control.proofs.Changes.{cards-are}
use Rattle.control.proofs.Control.dismiss.Goals as goal

pub returns : goal.returns
unfolding meaning
returns c = cards-are c.args.self c.requires.counted c.without_card.result c.args.self.failed _ _ c.without_card.ensures refl
