-- Once all behind it are taken off, member number i is the last. Assumes nothing.
use mathlib.Core.Path.{◌≡◌, ap, ◌∙◌}
use Prim.Native.Nat.{ℕ, ◌-◌}
use native.Mathlib.Omega.{arith}
use lib.ListN.{get_or, length}
use Rattle.mask.specs.Masks.{byte, members}
use Rattle.mask.proofs.LastMember.{left-last, left-length}
use Rattle.mask.proofs.Masks.{size-members}
use Rattle.mask.proofs.MaskSites.{few-members}
use Rattle.mask.proofs.nth_member.Goals as goal

pub overflow_cast-behind : goal.overflow_cast-behind
overflow_cast-behind c =
    let m = byte c.args.mask in omega (arith, size-members m, few-members m)

pub overflow_sub-behind : goal.overflow_sub-behind
overflow_sub-behind c = omega (arith, size-members (byte c.args.mask))

pub overflow_sub-behind-2 : goal.overflow_sub-behind-2
overflow_sub-behind-2 c = omega (arith, size-members (byte c.args.mask))

pub without_last-left-requires : goal.without_last-left-requires
without_last-left-requires c =
    let l = c.loop in
    let m = byte c.args.mask in
    omega (arith, size-members m, left-length c.args.mask l.left (length (members m) - l.counter) (omega arith) l.invariant)

pub last_member-requires : goal.last_member-requires
last_member-requires c =
    let l = c.loop in
    let m = byte c.args.mask in
    omega (arith, size-members m, left-length c.args.mask l.left (length (members m) - l.counter) (omega arith) l.invariant)

pub returns : goal.returns
returns c =
    let l = c.loop in
    let m = byte c.args.mask in
    let n : ℕ = length (members m) - l.counter in
    let at : n - 1 ≡ c.args.i = omega (arith, size-members m) in
    c.last_member.ensures ∙ left-last c.args.mask l.left n (omega arith) l.invariant (omega (arith, size-members m)) ∙ ap (λ (k : ℕ). get_or (members m) k 0) at
