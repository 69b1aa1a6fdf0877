-- The origins by the cards that hold the block are those by the rules' holders. Assumes nothing.
use Prim.Native.Nat.{ℕ}
use mathlib.Core.Bool.{Bool}
use mathlib.Core.Path.{◌∙◌, ap, fun_ext}
use Rattle.image.specs.Layout.{card_count}
use Rattle.mask.specs.Masks.{byte, members}
use Rattle.method.specs.MoveList.{origin_by}
use Rattle.move_list.proofs.origins.of_block.Goals as goal

pub returns : goal.returns
returns c =
    let a = c.args in
    (λ x. c.origins_of.ensures x ∙ ap (λ (holds : ℕ → Bool). origin_by card_count (members (byte a.sites)) holds x) (fun_ext c.held_by.ensures))
