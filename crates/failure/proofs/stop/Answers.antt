-- The two steps one after the other are what `stopped_on` says. Assumes nothing.
use mathlib.Core.Path.{◌∙◌}
use Rattle.control.specs.Meaning.{meaning}
use Rattle.failure.proofs.Stopping.{stopped_by}
use Rattle.failure.proofs.stop.Goals as goal

pub returns : goal.returns
unfolding meaning
returns c =
    let a = c.args in
    c.write.ensures
    ∙ stopped_by a.marked c.halt.result a.image.now c.end_held.new.image c.all_open.result c.all_open.ensures c.halt.ensures
    c.end_held.ensures
