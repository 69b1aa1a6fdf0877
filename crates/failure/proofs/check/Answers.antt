-- Each return is the row whose test was taken, the rows above it left. Assumes nothing.
use borrow.Author.Tests.{le-ltb, lt-ltb}
use mathlib.Core.Path.{◌∙◌, sym}
use Rattle.image.specs.Layout.{card_count}
use Rattle.control.specs.Meaning.{meaning}
use Rattle.failure.specs.Failing.{fail_rows}
use Rattle.failure.proofs.check.Goals as goal

pub returns-then-card-ge-MOST_CARDS : goal.returns-then-card-ge-MOST_CARDS
unfolding fail_rows
returns-then-card-ge-MOST_CARDS c = rw (le-ltb _ card_count c.if-card-ge-MOST_CARDS.true)

pub returns-then-not-has : goal.returns-then-not-has
unfolding fail_rows meaning
returns-then-not-has c = rw (lt-ltb _ card_count c.if-card-ge-MOST_CARDS.false, sym c.has.ensures ∙ c.if-not-has.true)

pub returns : goal.returns
unfolding fail_rows meaning
returns c = rw (lt-ltb _ card_count c.if-card-ge-MOST_CARDS.false, sym c.has.ensures ∙ c.if-not-has.false)
