-- The transactions whose bytes stand before i were not begun at the card: a search that stops at the first that was. Assumes nothing.
use borrow.Author.Rules.{rules}
use mathlib.Core.Path.{sym, ◌∙◌}
use native.Mathlib.Omega.{arith}
use Rattle.cards.proofs.Searches.{found-begun, none-begun, none_yet, still-unbegun}
use Rattle.cards.proofs.begun_here.Goals as goal

pub loop-i-init : goal.loop-i-init
loop-i-init c = none_yet c.args.k c.args.card.0

pub returns-then-is_home : goal.returns-then-is_home
returns-then-is_home c =
    let a = c.args in found-begun a.k a.card.0 c.loop-i.i (search rules) (sym c.if-is_home.true ∙ c.is_home.ensures)

pub loop-i-preserved : goal.loop-i-preserved
loop-i-preserved c =
    let a = c.args in still-unbegun a.k a.card.0 c.loop-i.i (search rules) (sym c.if-is_home.false ∙ c.is_home.ensures) c.loop-i.invariant

pub returns : goal.returns
returns c = let a = c.args in none-begun a.k a.card.0 c.loop-i.i (omega arith) c.loop-i.invariant
