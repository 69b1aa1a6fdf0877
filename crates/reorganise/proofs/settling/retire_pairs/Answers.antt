-- Without a table nothing has to move; else the pairs of the newest placement do. Assumes nothing.
use mathlib.Core.Path.{◌∙◌}
use Rattle.promise.proofs.Finish.{given-whole}
use Rattle.reorganise.proofs.Retires.{no_pairs_lem, pairs-retired}
use Rattle.reorganise.proofs.settling.retire_pairs.Goals as goal

pub returns-then-k-eq0 : goal.returns-then-k-eq0
returns-then-k-eq0 c = no_pairs_lem c.args.k c.args.image.now c.requires c.if-k-eq0.true

pub retire-requires : goal.retire-requires
retire-requires c =
    (given-whole c.requires, c.requires.is.counted.some, c.requires.is.counted.few)

pub returns : goal.returns
returns c =
    c.retire.ensures ∙ pairs-retired c.args.k c.args.image.now c.requires
