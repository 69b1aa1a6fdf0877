-- A record out of range is 3; else the rows of an open transaction. Assumes nothing.
use mathlib.Core.Path.{◌∙◌}
use Rattle.control.specs.Meaning.{meaning}
use Rattle.records.proofs.Rows.{early-in, early-over}
use Rattle.records.proofs.access.check.Goals as goal

pub returns-then-rec-ge-RECORD_COUNT : goal.returns-then-rec-ge-RECORD_COUNT
returns-then-rec-ge-RECORD_COUNT c = let a = c.args in early-over (meaning a.k) a.tran.0 a.rec.0 c.if-rec-ge-RECORD_COUNT.true

pub returns : goal.returns
returns c =
    let a = c.args in
    c.check_tran.ensures ∙ early-in (meaning a.k) a.tran.0 a.rec.0 c.if-rec-ge-RECORD_COUNT.false
