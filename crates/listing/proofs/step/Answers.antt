-- Nothing is performed before the room is known, so the line of what is performed has room. Assumes nothing.
use mathlib.Core.Path.{◌∙◌, sym}
use Prim.Native.Nat.{zero-le}
use Rattle.listing.proofs.Steps.{no_step, one-step}
use Rattle.listing.proofs.step.Goals as goal

pub returns-then-not-has_room : goal.returns-then-not-has_room
returns-then-not-has_room c = (no_step _ _ _ _ (sym c.if-not-has_room.true ∙ c.has_room.ensures), zero-le)

pub returns : goal.returns
returns c =
    let a = c.args in
    let room = c.has_room.ensures in
    let d = c.perform_command-answer.ensures in
    let p = c.put_line.ensures in
    (one-step _ _ a.out.now _ _ _ _ _ (sym c.if-not-has_room.false ∙ room) d p.0, p.1)
