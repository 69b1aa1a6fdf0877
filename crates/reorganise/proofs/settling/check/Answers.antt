-- Each return is the row that its test and the tests before it leave. Assumes nothing.
use mathlib.Core.Path.{◌∙◌, sym}
use Rattle.reorganise.proofs.Settles.{settle-rows}
use Rattle.reorganise.proofs.settling.check.Goals as goal

pub returns-then-k : goal.returns-then-k
returns-then-k c = rw c.if-k.true at (settle-rows c.args.k c.args.image.now c.requires)

pub returns-then-not-settled : goal.returns-then-not-settled
returns-then-not-settled c =
    rw (c.if-k.false, sym c.settled.ensures ∙ c.if-not-settled.true) at (settle-rows c.args.k c.args.image.now c.requires)

pub returns : goal.returns
returns c =
    rw (c.if-k.false, sym c.settled.ensures ∙ c.if-not-settled.false) at (settle-rows c.args.k c.args.image.now c.requires)
