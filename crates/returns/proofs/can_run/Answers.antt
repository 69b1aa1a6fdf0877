-- A member is missing, or the test of the placements decides. Assumes nothing.
use Rattle.returns.proofs.Running.{all-members, member-missing}
use Rattle.returns.proofs.can_run.Goals as goal

pub returns-then-not-within : goal.returns-then-not-within
returns-then-not-within c =
    member-missing c.args.k c.newest_mask.ensures c.within.ensures c.if-not-within.true

pub returns : goal.returns
returns c =
    all-members c.args.k c.newest_mask.ensures c.within.ensures c.if-not-within.false c.all_safe.ensures
