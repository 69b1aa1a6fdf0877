-- The four constants are the sets of the numbers that lack a bit. Assumes nothing.
use Rattle.slot.proofs.Locks.{shared-off, shared-on, shared-sum}
use Rattle.slot.proofs.block.shared_bits.Goals as goal
use Rattle.slot.proofs.block.shared_bits.Goals.{then-set-eq0, else-set-eq0, then-set-eq0-2, else-set-eq0-2, then-set-eq0-3, else-set-eq0-3, then-set-eq0-4, else-set-eq0-4}

pub returns : goal.returns
returns c =
    let s = c.args.set in
    shared-sum s c.if-set-eq0.a c.if-set-eq0-2.b c.if-set-eq0-3.c c.if-set-eq0-4.d
    (elim c.if-set-eq0.branch [ then-set-eq0 w ↦ shared-on s 1 _ w.if-set-eq0.true w.a-is | else-set-eq0 w ↦ shared-off s 1 _ w.if-set-eq0.false w.a-is ])
    (elim c.if-set-eq0-2.branch [ then-set-eq0-2 w ↦ shared-on s 2 _ w.if-set-eq0-2.true w.b-is | else-set-eq0-2 w ↦ shared-off s 2 _ w.if-set-eq0-2.false w.b-is ])
    (elim c.if-set-eq0-3.branch [ then-set-eq0-3 w ↦ shared-on s 4 _ w.if-set-eq0-3.true w.c-is | else-set-eq0-3 w ↦ shared-off s 4 _ w.if-set-eq0-3.false w.c-is ])
    (elim c.if-set-eq0-4.branch [ then-set-eq0-4 w ↦ shared-on s 8 _ w.if-set-eq0-4.true w.d-is | else-set-eq0-4 w ↦ shared-off s 8 _ w.if-set-eq0-4.false w.d-is ])
