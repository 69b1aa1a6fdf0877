-- By whether a member is left. Assumes nothing.
use mathlib.Core.Path.{◌∙◌}
use native.Mathlib.Omega.{arith}
use lib.ListN.{get_or}
use Rattle.lists.proofs.Lists.{any-default}
use Rattle.mask.specs.Masks.{byte, members}
use Rattle.mask.proofs.FirstMember.{no-members, some-members}
use Rattle.mask.proofs.first_or.Goals as goal

pub returns-then-rest-eq0 : goal.returns-then-rest-eq0
returns-then-rest-eq0 c =
    (rw (no-members c.args.rest c.if-rest-eq0.true) c.first_member.ensures.0, c.first_member.ensures.1)

pub first_member-requires-2 : goal.first_member-requires-2
first_member-requires-2 c = some-members c.args.rest (omega arith) c.if-rest-eq0.false

pub returns : goal.returns
returns c =
    let a = c.args in
    (c.first_member-2.ensures.0 ∙ any-default (members (byte a.rest)) 0 0 (get_or (members (byte a.all)) 0 0) (some-members a.rest (omega arith) c.if-rest-eq0.false), c.first_member-2.ensures.1)
