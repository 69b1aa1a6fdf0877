-- Refused by the form or by a row; else the placement of the lines is written. Assumes nothing.
use mathlib.Core.List.{List}
use mathlib.Core.Path.{◌∙◌, ap, refl}
use Prim.Native.Nat.{ℕ}
use Rattle.method.specs.Rules.{place}
use Rattle.cabinet_rules.specs.Places.{by_lines}
use Rattle.promise.proofs.Finish.{by_form, given}
use Rattle.placing.specs.Placed.{with_table}
use Rattle.placing.proofs.Plans.{table_done, table-refused}
use Rattle.placing.proofs.Rows.{room}
use Rattle.placing.proofs.place_by_table.Goals as goal

pub returns-in_err-k : goal.returns-in_err-k
returns-in_err-k c = let a = c.args in by_form (place (by_lines a.lines.now)) refl a.image.now _ _ c.in_err-k.ensures c.from_residual.ensures

pub check-requires : goal.check-requires
check-requires c = (given c.in_ok-k.ensures).is.counted

pub returns-in_err-lines : goal.returns-in_err-lines
returns-in_err-lines c = table-refused (given c.in_ok-k.ensures) c.args.lines.now _ _ c.in_err-lines.ensures.row c.from_residual-in_err-lines.ensures

pub add-requires : goal.add-requires
add-requires c =
    let e = given c.in_ok-k.ensures in
    record { given = e; count_lt_most_active = room c.in_ok-k.k e.is.counted c.args.lines.now c.in_ok-lines.ensures.row }

pub returns : goal.returns
returns c =
    let same = ap (λ (l : List ℕ). with_table l c.args.image.now) c.in_ok-lines.ensures.lines in
    table_done (given c.in_ok-k.ensures) c.args.lines.now c.in_ok-lines.ensures.row _ (c.add.ensures ∙ same)
