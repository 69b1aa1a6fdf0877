-- Out of range, behind the last that counts, or the mask with that number. Assumes nothing.
use mir.Syntax.{w8}
use mir.Val.{Fits}
use lib.ListN.{get_or}
use borrow.Author.Rules.{rules}
use borrow.Author.Tests.{le-ltb, lt-ltb}
use Rattle.queries.specs.Queries.{told_of}
use Rattle.queries.proofs.Telling.{mask-told, none_told}
use Rattle.queries.proofs.placement.Goals as goal

pub returns-then-at-ge-MASK_COUNT : goal.returns-then-at-ge-MASK_COUNT
unfolding told_of
returns-then-at-ge-MASK_COUNT c = rw (le-ltb _ _ c.if-at-ge-MASK_COUNT.true)

pub returns-then-i-k : goal.returns-then-i-k
unfolding told_of
returns-then-i-k c =
    rw (lt-ltb _ _ c.if-at-ge-MASK_COUNT.false) (none_told c.args.k c.requires c.args.i c.if-i-k.true)

pub returns : goal.returns
unfolding told_of
returns c =
    let small : Fits w8 (get_or c.args.k.masks c.args.i 0) = search rules in
    rw (lt-ltb _ _ c.if-at-ge-MASK_COUNT.false) (mask-told c.args.k c.requires c.args.i c.if-i-k.false small.fits)
