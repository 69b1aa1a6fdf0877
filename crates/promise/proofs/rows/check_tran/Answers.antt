-- Each return is the row whose test was taken, the rows above it left. Assumes nothing.
use mathlib.Core.Path.{◌∙◌, sym}
use native.Mathlib.Omega.{arith}
use Rattle.control.specs.Meaning.{meaning}
use Rattle.promise.specs.Rows.{tran_rows}
use Rattle.promise.proofs.SharedRows.{open-given, tran-range}
use Rattle.promise.proofs.Finish.{given-whole}
use Rattle.promise.proofs.rows.check_tran.Goals as goal

pub returns-then-not-is_tran : goal.returns-then-not-is_tran
unfolding tran_rows
returns-then-not-is_tran c = rw (sym c.is_tran.ensures ∙ c.if-not-is_tran.true)

pub returns-then-k : goal.returns-then-k
unfolding tran_rows meaning
returns-then-k c =
    rw (sym c.is_tran.ensures ∙ c.if-not-is_tran.false, c.if-k.true)

pub is_open_at-requires : goal.is_open_at-requires
is_open_at-requires c =
    record { control_size_in_bounds = omega (arith, given-whole c.requires); tran_nonzero = tran-range _ (sym c.is_tran.ensures ∙ c.if-not-is_tran.false) }

pub returns-then-not-is_open_at : goal.returns-then-not-is_open_at
unfolding tran_rows meaning
returns-then-not-is_open_at c =
    rw (
      open-given c.requires _ ∙ sym c.is_open_at.ensures ∙ c.if-not-is_open_at.true,
      sym c.is_tran.ensures ∙ c.if-not-is_tran.false,
      c.if-k.false,
    )

pub returns : goal.returns
unfolding tran_rows meaning
returns c =
    rw (
      open-given c.requires _ ∙ sym c.is_open_at.ensures ∙ c.if-not-is_open_at.false,
      sym c.is_tran.ensures ∙ c.if-not-is_tran.false,
      c.if-k.false,
    )
