-- Out of range, or by the transaction's byte. Assumes nothing.
use mathlib.Core.Path.{◌∙◌, sym}
use native.Mathlib.Omega.{arith}
use Rattle.control.specs.Meaning.{meaning}
use Rattle.promise.proofs.SharedRows.{tran-range}
use Rattle.queries.specs.Queries.{told_of}
use Rattle.queries.proofs.Telling.{home-told, no-home-told}
use Rattle.queries.proofs.home.Goals as goal

pub returns-then-not-is_tran : goal.returns-then-not-is_tran
unfolding told_of meaning
returns-then-not-is_tran c = rw (sym c.is_tran.ensures ∙ c.if-not-is_tran.true)

pub overflow_sub-at : goal.overflow_sub-at
overflow_sub-at c = (tran-range _ (sym c.is_tran.ensures ∙ c.if-not-is_tran.false)).0

pub bounds-k-at : goal.bounds-k-at
bounds-k-at c =
    let h = tran-range c.args.tran.0 (sym c.is_tran.ensures ∙ c.if-not-is_tran.false) in
    omega (arith, h.0, h.1)

pub returns-then-b-ge-OPEN : goal.returns-then-b-ge-OPEN
unfolding told_of meaning
returns-then-b-ge-OPEN c =
    home-told c.args.tran.0 _ (sym c.is_tran.ensures ∙ c.if-not-is_tran.false) c.if-b-ge-OPEN.true

pub returns : goal.returns
unfolding told_of meaning
returns c =
    no-home-told c.args.tran.0 _ (sym c.is_tran.ensures ∙ c.if-not-is_tran.false) c.if-b-ge-OPEN.false
