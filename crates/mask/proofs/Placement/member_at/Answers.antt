-- The remainder is below the number of members, so there is such a member. Assumes nothing.
use mathlib.Core.Path.{◌≡◌, sym, ap, ◌∙◌}
use Prim.Native.Nat.{ℕ, ◌%◌, ◌<◌}
use native.Mathlib.Nat.{mod-lt}
use native.Mathlib.Omega.{arith}
use lib.Count.{ones}
use lib.ListN.{length, get_or}
use borrow.Author.Rules.{rules}
use Rattle.mask.specs.Masks.{byte, members, size}
use Rattle.mask.specs.Placements.{member_at}
use Rattle.mask.proofs.Masks.{has-card, size-members}
use Rattle.mask.proofs.Sets.{size_is}
use Rattle.mask.proofs.MaskSites.{member-at}
use Rattle.mask.proofs.Placement.member_at.Goals as goal

pub nonzero_rem-i : goal.nonzero_rem-i
nonzero_rem-i c =
    let e : ones c.args.self.mask ≡ size (byte c.args.self.mask) = size_is c.args.self.mask (search rules) in
    omega arith

pub nth_member-requires : goal.nth_member-requires
nth_member-requires c =
    let a = c.args in
    let n : ℕ = ones a.self.mask in
    let e : n ≡ size (byte a.self.mask) = size_is a.self.mask (search rules) in
    let h : 0 < n = omega arith in
    rw (size-members (byte a.self.mask), sym e) (mod-lt a.i h)

pub returns : goal.returns
unfolding member_at
returns c =
    let a = c.args in
    let m = byte a.self.mask in
    let e : ones a.self.mask ≡ length (members m) = size_is a.self.mask (search rules) ∙ sym (size-members m) in
    let some : 0 < length (members m) = rw (size-members m) (omega arith) in
    let at : c.nth_member.result ≡ member_at m a.i =
    c.nth_member.ensures ∙ ap (λ (n : ℕ). get_or (members m) (a.i % n) 0) e in
    (at, rw at (has-card m (member_at m a.i) (member-at m a.i some)))
