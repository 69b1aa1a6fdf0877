-- What is asked before the tables, and then what is asked behind them, of the part from there to the image's end. Assumes nothing.
use Rattle.std.proofs.Common.{ℕ, ap, arith, refl, ◌∙◌}
use Rattle.lists.specs.Tests.{all_below}
use Rattle.image.specs.Layout.{most_active, tail_size}
use Rattle.control_form.specs.Reading.{kept_ok_at}
use Rattle.control_form.proofs.Kept.{part_end}
use Rattle.cabinet_rules.specs.Converting.{older_size}
use Rattle.cabinet_rules.specs.Images.{tail_by}
use Rattle.cabinet_rules.specs.Retired.{pairs_behind}
use Rattle.converter.proofs.TableForm.{numbered-form}
use Rattle.converter.proofs.form_21216.Goals as goal

pub returns-then-front_ok : goal.returns-then-front_ok
returns-then-front_ok c =
    let l = c.args.older.now in
    let front = c.front_ok.ensures (tail_by pairs_behind l) in
    let behind = c.behind_ok.ensures ∙ ap (λ (t : ℕ → ℕ). all_below most_active (kept_ok_at l t)) (part_end l older_size tail_size tail_size refl c.requires) in
    rw (numbered-form l (tail_by pairs_behind l) (λ n. (c.type_inv.older n).fits)) (grind (arith, front, behind))

pub returns-else-front_ok : goal.returns-else-front_ok
returns-else-front_ok c =
    let l = c.args.older.now in
    let front = c.front_ok.ensures (tail_by pairs_behind l) in
    rw (numbered-form l (tail_by pairs_behind l) (λ n. (c.type_inv.older n).fits)) (grind (arith, front))
