-- One card and then the other is put into the empty mask. Assumes nothing.
use Rattle.mask.proofs.SiteMasks.{pair_is}
use Rattle.mask.proofs.pair.Goals as goal

pub returns : goal.returns
returns c =
    pair_is c.args.a.0 c.args.b.0 c.with_card.result c.with_card-2.result c.requires.0 c.requires.1 c.with_card.ensures c.with_card-2.ensures
