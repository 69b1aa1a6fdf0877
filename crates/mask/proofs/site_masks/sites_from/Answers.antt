-- The first of the members that are left, and the second site that the code finds to it. Assumes nothing.
use Prim.Native.Nat.{◌<◌}
use native.Mathlib.Omega.{arith}
use borrow.Author.Rules.{rules}
use Rattle.mask.specs.Masks.{byte}
use Rattle.mask.proofs.FirstMember.{some-members}
use Rattle.mask.proofs.Masks.{size-members}
use Rattle.mask.proofs.SiteMasks.{entry-across, entry_next}
use Rattle.mask.proofs.site_masks.sites_from.Goals as goal

pub first_member-requires : goal.first_member-requires
first_member-requires c = some-members c.across-across.result (omega arith) c.if-across-ne0.true

pub returns-then-across-ne0 : goal.returns-then-across-ne0
returns-then-across-ne0 c =
    -- The mask is a byte.
    let small : c.args.placement.mask < 256 = search rules in
    let a = c.args in
    λ i from. entry-across a.placement.mask a.placement.rails a.left c.first_member-first.result.0 c.across-across.result small c.requires.enough c.requires.nonzero
    c.first_member-first.ensures.0 c.across-across.ensures c.first_member.result.0 c.pair.result c.pair.ensures i from
    (omega arith) c.if-across-ne0.true c.first_member.ensures.0

pub first_or-requires : goal.first_or-requires
first_or-requires c =
    rw (size-members (byte c.args.placement.mask)) (omega (arith, c.requires.enough))

pub returns : goal.returns
returns c =
    -- The mask is a byte.
    let small : c.args.placement.mask < 256 = search rules in
    let a = c.args in
    λ i from. entry_next a.placement.mask a.placement.rails a.left c.first_member-first.result.0 c.across-across.result small c.requires.enough c.requires.nonzero
    c.first_member-first.ensures.0 c.across-across.ensures c.first_or.result.0 c.pair-2.result c.pair-2.ensures i from
    c.if-across-ne0.false c.without_first-rest.result c.without_first-rest.ensures.0 c.first_or.ensures.0
