-- The placements before i withstand one more failure: a search that stops at the first that does not. Assumes nothing.
use borrow.Author.Rules.{rules}
use mathlib.Core.Path.{sym, ◌∙◌}
use native.Mathlib.Omega.{arith}
use Rattle.method.specs.Protection.{withstands}
use Rattle.control.specs.Meaning.{meaning}
use Rattle.control.proofs.Active.{every-passed, one-fails, one_passes}
use Rattle.cabinet_rules.specs.Cabinet.{cabinet}
use Rattle.survey.proofs.protection.all_withstand.Goals as goal

pub returns-then-not-withstands : goal.returns-then-not-withstands
returns-then-not-withstands c =
    let k = c.args.k in
    one-fails (withstands cabinet tt (meaning k).working (meaning k).failed) k c.requires c.loop-i.i (search rules)
    (unfold meaning in (sym c.withstands.ensures ∙ c.if-not-withstands.true))

pub loop-i-preserved : goal.loop-i-preserved
loop-i-preserved c =
    let k = c.args.k in
    one_passes (withstands cabinet tt (meaning k).working (meaning k).failed) k c.requires c.loop-i.i
    (unfold meaning in (sym c.withstands.ensures ∙ c.if-not-withstands.false)) c.loop-i.invariant

pub returns : goal.returns
returns c =
    let k = c.args.k in
    every-passed (withstands cabinet tt (meaning k).working (meaning k).failed) k c.requires c.loop-i.i (omega arith) c.loop-i.invariant
