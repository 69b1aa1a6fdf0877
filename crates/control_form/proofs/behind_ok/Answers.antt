-- Placement by placement: those before i pass. Assumes nothing.
use Rattle.std.proofs.Common.{sym, ◌∙◌, get_or}
use Rattle.lists.proofs.Counts.{all-fails, all_more}
use Rattle.image.specs.Layout.{most_active}
use Rattle.control_form.specs.Reading.{kept_ok_at}
use Rattle.control_form.proofs.behind_ok.Goals as goal

pub returns-then-not-kept_ok : goal.returns-then-not-kept_ok
returns-then-not-kept_ok g c =
    sym (all-fails (kept_ok_at c.args.front.now (λ n. get_or c.args.tail.now n 0)) most_active c.loop-i.i c.loop-i-test.true
    (sym c.kept_ok.ensures ∙ c.if-not-kept_ok.true))

pub loop-i-preserved : goal.loop-i-preserved
loop-i-preserved g c =
    all_more (kept_ok_at c.args.front.now (λ n. get_or c.args.tail.now n 0)) c.loop-i.i
    (sym c.kept_ok.ensures ∙ c.if-not-kept_ok.false) c.loop-i.invariant
