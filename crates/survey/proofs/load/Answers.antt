-- By the rows that refuse, and else by the sum over the blocks. Assumes nothing.
use mathlib.Core.Path.{◌∙◌, ◌≡◌, refl}
use Rattle.method.specs.Rules.{load}
use Rattle.control.specs.Meaning.{meaning}
use Rattle.cabinet_rules.specs.Images.{control_in}
use Rattle.promise.specs.declared.Answer.TheVariants.{Loaded}
use Rattle.promise.proofs.Finish.{by_form, by-look, by-rules, given, given-whole}
use Rattle.promise.specs.Rows.{card_rows}
use Rattle.promise.proofs.SharedRows.{card-accepted, card-given}
use Rattle.survey.proofs.Loads.{load-plan, load-rows}
use Rattle.survey.proofs.load.Goals as goal

pub returns-in_err-k : goal.returns-in_err-k
returns-in_err-k c = let a = c.args in by_form (load a.card.0) refl a.image.now _ _ c.in_err-k.ensures c.from_residual.ensures

pub returns-in_err-check_card : goal.returns-in_err-check_card
returns-in_err-check_card c =
    let a = c.args in
    let e = given c.in_ok-k.ensures in
    by-rules (load a.card.0) refl a.image.now e.formed _ _ (c.in_err-check_card.ensures ∙ card-given e a.card.0 ∙ load-rows a.image.now a.card.0)
    c.from_residual-in_err-check_card.ensures

pub load_table-requires : goal.load_table-requires
load_table-requires c =
    (given-whole (given c.in_ok-k.ensures), (card-accepted (meaning c.in_ok-k.k) c.args.card.0 c.in_ok-check_card.ensures).0)

pub returns : goal.returns
returns c =
    let a = c.args in
    let g = a.image.now in
    let e = given c.in_ok-k.ensures in
    let rows : 0 ≡ card_rows (control_in g) a.card.0 = c.in_ok-check_card.ensures ∙ card-given e a.card.0 in
    by-look (load a.card.0) refl g e.formed (Loaded c.load_table.result) (rows ∙ load-rows g a.card.0)
    (load-plan g a.card.0 (card-accepted (control_in g) a.card.0 rows).2 c.load_table.result c.load_table.ensures)
