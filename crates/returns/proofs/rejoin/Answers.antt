-- The locks, the control part with the card, and whether it runs, one after the other. Assumes nothing.
use mathlib.Core.Path.{◌∙◌, refl}
use native.Mathlib.Omega.{arith}
use Rattle.promise.proofs.Finish.{given-whole}
use Rattle.tables.specs.Tables.{set_of}
use Rattle.returns.proofs.Joined.{rejoins, whole-ended}
use Rattle.returns.proofs.rejoin.Goals as goal

pub end_held-requires : goal.end_held-requires
end_held-requires c = given-whole c.requires.given

pub write-requires : goal.write-requires
write-requires c =
    let w = whole-ended c.with_card.result _ _ c.args.image.now c.end_held.ensures in
    record { control_size_in_bounds = omega (arith, w); counted = c.rest.ensures.counted }

pub returns : goal.returns
unfolding set_of
returns c =
    c.write.ensures
    ∙ rejoins c.requires.given c.args.card.0 c.requires.card_lt_card_count c.admit-admitted.ensures c.with_card.result _ c.with_card.ensures refl c.end_held.ensures
    c.can_run.ensures c.rest.ensures
