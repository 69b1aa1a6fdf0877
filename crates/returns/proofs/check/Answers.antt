-- Each test is that of a row, and the ones before it have been passed. Assumes nothing.
use Rattle.lists.proofs.Bools.{not_is, not-not-is}
use Rattle.promise.proofs.Finish.{given-whole}
use Rattle.returns.proofs.Rows.{failed-card, not-failed, other-stamp, out_of_range_lem, runs, same-stamp}
use Rattle.returns.proofs.check.Goals as goal

pub returns-then-card-ge-MOST_CARDS : goal.returns-then-card-ge-MOST_CARDS
returns-then-card-ge-MOST_CARDS c = out_of_range_lem c.requires c.args.card.0 c.if-card-ge-MOST_CARDS.true

pub returns-then-not-k : goal.returns-then-not-k
returns-then-not-k c =
    runs c.requires c.args.card.0 c.if-card-ge-MOST_CARDS.false (not_is _ c.if-not-k.true)

pub returns-then-not-has : goal.returns-then-not-has
returns-then-not-has c =
    not-failed c.requires c.args.card.0 c.if-card-ge-MOST_CARDS.false (not-not-is _ c.if-not-k.false) c.has.ensures c.if-not-has.true

pub is_current-requires : goal.is_current-requires
is_current-requires c = (given-whole c.requires, c.if-card-ge-MOST_CARDS.false)

pub returns-then-not-is_current : goal.returns-then-not-is_current
returns-then-not-is_current c =
    let failed-at = failed-card c.requires c.args.card.0 c.if-card-ge-MOST_CARDS.false (not-not-is _ c.if-not-k.false) c.has.ensures c.if-not-has.false in
    other-stamp c.requires failed-at c.stamp.ensures c.is_current.ensures c.if-not-is_current.true

pub returns-then-not-has-2 : goal.returns-then-not-has-2
returns-then-not-has-2 c =
    let failed-at = failed-card c.requires c.args.card.0 c.if-card-ge-MOST_CARDS.false (not-not-is _ c.if-not-k.false) c.has.ensures c.if-not-has.false in
    same-stamp c.requires failed-at c.stamp.ensures c.is_current.ensures c.if-not-is_current.false c.newest_mask-newest.ensures c.has-2.ensures c.if-not-has-2.true

pub returns : goal.returns
returns c =
    let failed-at = failed-card c.requires c.args.card.0 c.if-card-ge-MOST_CARDS.false (not-not-is _ c.if-not-k.false) c.has.ensures c.if-not-has.false in
    same-stamp c.requires failed-at c.stamp.ensures c.is_current.ensures c.if-not-is_current.false c.newest_mask-newest.ensures c.has-2.ensures c.if-not-has-2.false
