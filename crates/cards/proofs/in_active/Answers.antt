-- The placements before i lack the card: a search that stops at the first that has it. Assumes nothing.
use borrow.Author.Rules.{rules}
use mathlib.Core.Path.{sym, ◌∙◌}
use native.Mathlib.Omega.{arith}
use Rattle.cards.proofs.Searches.{found-active, none-active, still-none}
use Rattle.cards.proofs.in_active.Goals as goal

pub returns-then-has : goal.returns-then-has
returns-then-has c =
    let a = c.args in found-active a.k c.requires a.card.0 c.loop-i.i (search rules) (sym c.if-has.true ∙ c.has.ensures)

pub loop-i-preserved : goal.loop-i-preserved
loop-i-preserved c =
    let a = c.args in still-none a.k c.requires a.card.0 c.loop-i.i (sym c.if-has.false ∙ c.has.ensures) c.loop-i.invariant

pub returns : goal.returns
returns c =
    let a = c.args in none-active a.k c.requires a.card.0 c.loop-i.i (omega arith) c.loop-i.invariant
