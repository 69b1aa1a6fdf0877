-- Each return is the number that its test and the tests before it give. Assumes nothing.
use borrow.Author.Tests.{le-ltb, lt-ltb}
use mathlib.Core.Bool.{false, true}
use mathlib.Core.Path.{◌∙◌, refl, sym}
use Rattle.image.specs.Layout.{card_count}
use Rattle.cards.proofs.Rows.{fit-by}
use Rattle.cards.proofs.check_fit.Goals as goal

pub returns-then-card-ge-MOST_CARDS : goal.returns-then-card-ge-MOST_CARDS
returns-then-card-ge-MOST_CARDS c =
    let a = c.args in
    fit-by a.k a.card.0 false _ _ _ (le-ltb a.card.0 card_count c.if-card-ge-MOST_CARDS.true) refl refl refl

pub returns-then-k : goal.returns-then-k
returns-then-k c =
    let a = c.args in
    fit-by a.k a.card.0 true true _ _ (lt-ltb a.card.0 card_count c.if-card-ge-MOST_CARDS.false) c.if-k.true refl refl

pub returns-then-has : goal.returns-then-has
returns-then-has c =
    let a = c.args in
    fit-by a.k a.card.0 true false true _ (lt-ltb a.card.0 card_count c.if-card-ge-MOST_CARDS.false) c.if-k.false (sym c.has.ensures ∙ c.if-has.true) refl

pub returns-then-in_active : goal.returns-then-in_active
returns-then-in_active c =
    let a = c.args in
    fit-by a.k a.card.0 true false false true (lt-ltb a.card.0 card_count c.if-card-ge-MOST_CARDS.false) c.if-k.false
    (sym c.has.ensures ∙ c.if-has.false) (sym c.in_active.ensures ∙ c.if-in_active.true)

pub returns : goal.returns
returns c =
    let a = c.args in
    fit-by a.k a.card.0 true false false false (lt-ltb a.card.0 card_count c.if-card-ge-MOST_CARDS.false) c.if-k.false
    (sym c.has.ensures ∙ c.if-has.false) (sym c.in_active.ensures ∙ c.if-in_active.false)
