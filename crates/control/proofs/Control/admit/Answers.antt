-- With other working and failed cards the struct means what the cards alone change (`cards-are`). Assumes nothing.
use Rattle.control.specs.Meaning.{meaning}
use Rattle.control.proofs.Changes.{cards-are}
use Rattle.control.proofs.Control.admit.Goals as goal

pub returns : goal.returns
unfolding meaning
returns c = cards-are c.args.self c.requires.counted c.with_card.result c.without_card.result _ _ c.with_card.ensures c.without_card.ensures
