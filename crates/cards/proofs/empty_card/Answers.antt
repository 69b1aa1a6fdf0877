-- A zeroed table is the card's blocks written empty, and the control part is written over that. Assumes nothing.
use mathlib.Core.Path.{◌∙◌, ap}
use Rattle.control.specs.Meaning.{meaning, put_control}
use Rattle.cabinet_rules.specs.Images.{Image}
use Rattle.cards.proofs.Tables.{one_table}
use Rattle.cards.proofs.empty_card.Goals as goal

pub returns : goal.returns
returns c =
    c.write.ensures
    ∙ ap (λ (i : Image). put_control i (meaning c.args.after)) (c.clear_table.ensures ∙ one_table c.args.image.now c.requires.whole.0 c.args.card.0 c.requires.whole.1)
