-- The serial, and then the mask. Assumes nothing.
use Rattle.std.proofs.Common.{ℕ, ◌+◌, ◌∙◌, ap, get_or}
use Rattle.image.specs.Layout.{end_start}
use Rattle.control.specs.ControlBytes.{serial_size}
use Rattle.control.specs.Serials.{serial_in}
use Rattle.control.specs.Stamps.{stamp_by}
use Rattle.control.proofs.StampLaws.{stamp-test}
use Rattle.control.proofs.stamps.is_current.Goals as goal

pub returns : goal.returns
returns c =
    let l = c.args.image.now in
    c.eq.ensures
    ∙ stamp-test (λ j. get_or l (end_start c.args.card.0 + j) 0) c.read.result _ (stamp_by c.args.stamp)
    (c.read.ensures.0 ∙ ap (λ (s : ℕ). serial_in (λ j. get_or l (s + j) 0)) c.end_start-start.ensures)
    (ap (λ (s : ℕ). get_or l (s + serial_size) 0) c.end_start-start.ensures)
