-- The bits that the other mask lacks are the other cards (`has-others`). Assumes nothing.
use borrow.Author.Rules.{rules}
use Rattle.mask.proofs.Sets.{has-others}
use Rattle.mask.proofs.without.Goals as goal

pub returns : goal.returns
returns c = let a = c.args in has-others a.a a.b (search rules) (search rules)
