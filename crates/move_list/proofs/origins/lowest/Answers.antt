-- The first bit of the mask is its lowest card. Assumes nothing.
use lib.Count.{leading_le}
use native.Mathlib.Omega.{arith}
use Rattle.move_list.proofs.OriginMasks.{lowest-card, lowest-is, lowest-none}
use Rattle.move_list.proofs.origins.lowest.Goals as goal

pub returns-then-held-eq0 : goal.returns-then-held-eq0
returns-then-held-eq0 c = lowest-none c.args.held c.if-held-eq0.true

pub overflow_cast-first : goal.overflow_cast-first
overflow_cast-first c = omega (arith, leading_le 8 c.args.held)

pub with_card-requires : goal.with_card-requires
with_card-requires c = lowest-card c.args.held (omega arith) c.if-held-eq0.false

pub returns : goal.returns
returns c =
    lowest-is c.args.held (omega arith) c.if-held-eq0.false c.with_card.result c.with_card.ensures
