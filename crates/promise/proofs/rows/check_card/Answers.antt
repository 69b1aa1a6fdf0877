-- Each return is the row whose test was taken, the rows above it left. Assumes nothing.
use mathlib.Core.Path.{◌∙◌, sym}
use borrow.Author.Tests.{le-ltb, lt-ltb}
use Rattle.image.specs.Layout.{card_count}
use Rattle.control.specs.Meaning.{meaning}
use Rattle.promise.specs.Rows.{card_rows}
use Rattle.promise.proofs.rows.check_card.Goals as goal

pub returns-then-card-ge-MOST_CARDS : goal.returns-then-card-ge-MOST_CARDS
unfolding card_rows
returns-then-card-ge-MOST_CARDS c = rw (le-ltb _ card_count c.if-card-ge-MOST_CARDS.true)

pub returns-then-k : goal.returns-then-k
unfolding card_rows meaning
returns-then-k c = rw (lt-ltb _ card_count c.if-card-ge-MOST_CARDS.false, c.if-k.true)

pub returns-then-not-has : goal.returns-then-not-has
unfolding card_rows meaning
returns-then-not-has c = rw (lt-ltb _ card_count c.if-card-ge-MOST_CARDS.false, c.if-k.false, sym c.has.ensures ∙ c.if-not-has.true)

pub returns : goal.returns
unfolding card_rows meaning
returns c = rw (lt-ltb _ card_count c.if-card-ge-MOST_CARDS.false, c.if-k.false, sym c.has.ensures ∙ c.if-not-has.false)
