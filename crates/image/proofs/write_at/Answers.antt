-- The first i bytes are spliced in; each turn splices in one more. Assumes nothing.
use mathlib.Core.Path.{refl, sym, ap, ◌∙◌}
use native.Mathlib.Omega.{arith}
use lib.Seq.{take_all}
use lib.ListN.{length-set}
use Rattle.lists.specs.Segments.{splice}
use Rattle.lists.proofs.Segments.{splice-none, splice-more}
use Rattle.image.proofs.write_at.Goals as goal

pub loop-i-init : goal.loop-i-init
loop-i-init c = (refl, sym (splice-none _ _ (omega arith)))

pub loop-i-preserved : goal.loop-i-preserved
loop-i-preserved c =
    let l = c.loop-i in
    let a = c.args in
    (simp length-set l.invariant.0, rw l.invariant.1 (splice-more a.s.now a.at a.bytes.now l.i (omega arith) (omega arith)))

pub returns : goal.returns
returns c =
    let l = c.loop-i in
    let a = c.args in
    l.invariant.1 ∙ ap (splice a.s.now a.at) (take_all l.i a.bytes.now (omega arith))
