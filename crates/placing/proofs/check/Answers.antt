-- Each return is the row that its test and the tests before it give, of the bytes that the lines are. Assumes nothing.
use mathlib.Core.Path.{◌∙◌, sym}
use native.Mathlib.Omega.{arith}
use Rattle.placing.proofs.Rows.{of-bytes, says-0, says-10, says-17, says-18, says-20, says-3, says-4, says-9}
use Rattle.placing.proofs.check.Goals as goal

pub returns-in_default-clause-row : goal.returns-in_default-clause-row
returns-in_default-clause-row c = says-3 c.args.k c.requires c.args.bytes.now c.in_default.ensures

pub returns-then-k-clause-row : goal.returns-then-k-clause-row
returns-then-k-clause-row c =
    let t = c.in-Some.lines in
    of-bytes c.args.k c.in-Some.ensures (says-4 c.args.k c.requires t.bytes.now t.are_lines c.if-k.true)

pub returns-then-not-work-clause-row : goal.returns-then-not-work-clause-row
returns-then-not-work-clause-row c =
    let t = c.in-Some.lines in
    of-bytes c.args.k c.in-Some.ensures
    (says-9 c.args.k c.requires t.bytes.now t.are_lines c.if-k.false (sym c.work.ensures ∙ c.if-not-work.true))

pub returns-then-covered-clause-row : goal.returns-then-covered-clause-row
returns-then-covered-clause-row c =
    let t = c.in-Some.lines in
    let work-at = sym c.work.ensures ∙ c.if-not-work.false in
    of-bytes c.args.k c.in-Some.ensures
    (says-17 c.args.k c.requires t.bytes.now t.are_lines c.if-k.false work-at (sym c.coverage-covered.ensures.0 ∙ c.if-covered.true))

pub returns-then-covered-2-clause-row : goal.returns-then-covered-2-clause-row
returns-then-covered-2-clause-row c =
    let t = c.in-Some.lines in
    let work-at = sym c.work.ensures ∙ c.if-not-work.false in
    let gap_at = sym c.coverage-covered.ensures.0 ∙ c.if-covered.false in
    of-bytes c.args.k c.in-Some.ensures
    (says-18 c.args.k c.requires t.bytes.now t.are_lines c.if-k.false work-at gap_at (sym c.coverage-covered.ensures.1 ∙ c.if-covered-2.true))

pub returns-then-k-ge-MOST_PLACED-clause-row : goal.returns-then-k-ge-MOST_PLACED-clause-row
returns-then-k-ge-MOST_PLACED-clause-row c =
    let t = c.in-Some.lines in
    let work-at = sym c.work.ensures ∙ c.if-not-work.false in
    let gap_at = sym c.coverage-covered.ensures.0 ∙ c.if-covered.false in
    let overlap-at = sym c.coverage-covered.ensures.1 ∙ c.if-covered-2.false in
    of-bytes c.args.k c.in-Some.ensures
    (says-10 c.args.k c.requires t.bytes.now t.are_lines c.if-k.false work-at gap_at overlap-at (omega arith))

pub returns-then-k-ge-LIMIT-clause-row : goal.returns-then-k-ge-LIMIT-clause-row
returns-then-k-ge-LIMIT-clause-row c =
    let t = c.in-Some.lines in
    let work-at = sym c.work.ensures ∙ c.if-not-work.false in
    let gap_at = sym c.coverage-covered.ensures.0 ∙ c.if-covered.false in
    let overlap-at = sym c.coverage-covered.ensures.1 ∙ c.if-covered-2.false in
    of-bytes c.args.k c.in-Some.ensures
    (says-20 c.args.k c.requires t.bytes.now t.are_lines c.if-k.false work-at gap_at overlap-at (omega arith) c.if-k-ge-LIMIT.true)

pub returns-clause-row : goal.returns-clause-row
returns-clause-row c =
    let t = c.in-Some.lines in
    let work-at = sym c.work.ensures ∙ c.if-not-work.false in
    let gap_at = sym c.coverage-covered.ensures.0 ∙ c.if-covered.false in
    let overlap-at = sym c.coverage-covered.ensures.1 ∙ c.if-covered-2.false in
    of-bytes c.args.k c.in-Some.ensures
    (says-0 c.args.k c.requires t.bytes.now t.are_lines c.if-k.false work-at gap_at overlap-at (omega arith) c.if-k-ge-LIMIT.false)
