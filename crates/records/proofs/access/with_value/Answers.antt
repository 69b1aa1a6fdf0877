-- By whether the value is in range, and whether a row below 3 applies. Assumes nothing.
use Prim.Native.Nat.{◌≤◌}
use mathlib.Core.Path.{◌∙◌, ap, sym}
use native.Mathlib.Omega.{arith}
use Rattle.refusals.specs.Refusals.{row_by}
use Rattle.records.proofs.Values.{in-range, over-accepted, over-high, over-low}
use Rattle.records.proofs.access.with_value.Goals.{else-row-ne-NO_ROW-via-else-row-ne-NO_ROW, else-row-ne-NO_ROW-via-then-row-ne-NO_ROW+else-row-number}
use Rattle.records.proofs.access.with_value.Goals as goal

pub returns-then-value-lt-BROKEN_WIRE-clause-row : goal.returns-then-value-lt-BROKEN_WIRE-clause-row
returns-then-value-lt-BROKEN_WIRE-clause-row g c =
    let a = c.args in in-range a.value (row_by g.E.Numbered.numbered a.found) (omega (arith, c.if-value-lt-BROKEN_WIRE.true))

pub returns-in-Ok-clause-row : goal.returns-in-Ok-clause-row
returns-in-Ok-clause-row g c =
    let a = c.args in
    let e = ap (row_by g.E.Numbered.numbered) c.in-Ok.is in
    c.of.ensures ∙ over-accepted a.value (row_by g.E.Numbered.numbered a.found) (omega (arith, c.if-value-lt-BROKEN_WIRE.false)) e

pub returns-then-row-number-clause-row : goal.returns-then-row-number-clause-row
returns-then-row-number-clause-row g c =
    let a = c.args in
    let e = ap (row_by g.E.Numbered.numbered) c.in-Err.is in
    let n = c.number-row.ensures ∙ sym e in
    sym e ∙ over-low a.value (row_by g.E.Numbered.numbered a.found) (omega (arith, c.if-value-lt-BROKEN_WIRE.false))
    (λ z. c.if-row-ne-NO_ROW.true (n ∙ z)) (omega (arith, n, c.number.ensures, c.if-row-number.true))

-- no row, or one from 3 on
pub returns-else-row-ne-NO_ROW-clause-row : goal.returns-else-row-ne-NO_ROW-clause-row
returns-else-row-ne-NO_ROW-clause-row g c =
    let a = c.args in
    let n = c.number-row.ensures ∙ sym (ap (row_by g.E.Numbered.numbered) c.in-Err.is) in
    let over : 65535 ≤ a.value = omega (arith, c.if-value-lt-BROKEN_WIRE.false) in
    elim c.else-row-ne-NO_ROW.branch [
      | else-row-ne-NO_ROW-via-then-row-ne-NO_ROW+else-row-number w ↦ c.of-in-Err.ensures
          ∙ over-high a.value (row_by g.E.Numbered.numbered a.found) over (λ z. w.if-row-ne-NO_ROW.true (n ∙ z))
          (omega (arith, n, w.number.ensures, w.if-row-number.false))
      | else-row-ne-NO_ROW-via-else-row-ne-NO_ROW w ↦ c.of-in-Err.ensures
          ∙ over-accepted a.value (row_by g.E.Numbered.numbered a.found) over (sym n ∙ w.if-row-ne-NO_ROW.false)
    ]
