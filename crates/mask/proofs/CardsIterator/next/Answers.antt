-- Where the mask is not 0 some member is left: the first is given, and the others are left. Assumes nothing.
use Prim.Native.Nat.{◌<◌}
use lib.ListN.{length}
use native.Mathlib.Omega.{arith}
use Rattle.mask.specs.Masks.{byte, members}
use Rattle.mask.proofs.FirstMember.{no-members, one_fewer, some-members}
use Rattle.mask.proofs.Steps.{step-is}
use Rattle.mask.proofs.CardsIterator.next.Goals as goal

pub returns-then-self-eq0-clause-steps : goal.returns-then-self-eq0-clause-steps
returns-then-self-eq0-clause-steps c =
    (no-members c.args.self.now.0 c.if-self-eq0.true, no-members c.args.self.now.0 c.if-self-eq0.true)

pub first_member-first-requires : goal.first_member-first-requires
first_member-first-requires c = some-members c.args.self.now.0 (omega arith) c.if-self-eq0.false

pub without_first-self-requires : goal.without_first-self-requires
without_first-self-requires c = some-members c.args.self.now.0 (omega arith) c.if-self-eq0.false

pub returns-clause-steps : goal.returns-clause-steps
returns-clause-steps c =
    let some : 0 < length (members (byte c.args.self.now.0)) = some-members c.args.self.now.0 (omega arith) c.if-self-eq0.false in
    step-is c.args.self.now.0 _ c.without_first-self.result some c.first_member-first.ensures.0 c.without_first-self.ensures.0

pub returns-clause-goes : goal.returns-clause-goes
returns-clause-goes c =
    let fewer = one_fewer c.args.self.now.0 c.without_first-self.result (omega arith) c.if-self-eq0.false c.without_first-self.ensures.0 in
    record { on = λ f. (tt, f, fewer); keeps = tt; rests = λ f. tt }
