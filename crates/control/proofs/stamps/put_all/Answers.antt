-- The cards below i have their stamps; a turn is one card more. Assumes nothing.
use Rattle.std.proofs.Common.{cond, sym, ◌∙◌, ◌≡◌}
use Rattle.mask.specs.Masks.{byte, has_card}
use Rattle.control.specs.Stamps.{put_stamp, stamp_by}
use Rattle.control.proofs.StampLaws.{stamps-start, stamps-turn}
use Rattle.control.proofs.stamps.put_all.Goals as goal
use Rattle.control.proofs.stamps.put_all.Goals.{else-has, then-has}

pub loop-i-init : goal.loop-i-init
loop-i-init c = stamps-start _ _ _

pub loop-i-preserved : goal.loop-i-preserved
loop-i-preserved c =
    let turned : c.if-has.image ≡ cond (has_card (byte c.args.working) c.loop-i.i)
    (put_stamp c.loop-i.image c.loop-i.i (stamp_by c.args.stamp)) c.loop-i.image = elim c.if-has.branch [
      | then-has w ↦ w.image-is ∙ w.put.ensures ∙ sym (rw (sym c.has.ensures ∙ w.if-has.true))
      | else-has w ↦ w.image-is ∙ sym (rw (sym c.has.ensures ∙ w.if-has.false))
    ] in
    stamps-turn _ _ _ c.loop-i.i c.loop-i.image c.if-has.image c.loop-i.invariant turned
