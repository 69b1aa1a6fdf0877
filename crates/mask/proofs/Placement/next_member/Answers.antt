-- The members behind a card are those below its bit, computed for every mask and
-- member. Assumes nothing.
use mathlib.Core.Path.{◌∙◌, ap}
use Prim.Native.Nat.{ℕ, ◌-◌, ◌<◌}
use native.Mathlib.Omega.{arith}
use lib.Bits.{bit_and}
use lib.ListN.{get_or, length}
use borrow.Author.Rules.{rules}
use Rattle.image.specs.Layout.{card_count}
use Rattle.mask.specs.Masks.{byte, members}
use Rattle.mask.specs.Placements.{member_at}
use Rattle.mask.proofs.Masks.{has-card, size-members}
use Rattle.mask.proofs.MaskSites.{bit-some, member-at, next-found}
use Rattle.mask.proofs.Placement.next_member.Goals as goal

pub bit_of-requires : goal.bit_of-requires
bit_of-requires c =
    -- the placement has members, and the first site is one of them
    let some : 0 < length (members (byte c.args.self.mask)) = rw (size-members (byte c.args.self.mask)) (omega (arith, c.requires.copy_count_bound)) in
    let is-card : c.args.first.0 < card_count = let m = byte c.args.self.mask in
    rw c.requires.first_value (has-card m (member_at m c.args.block.0) (member-at m c.args.block.0 some)) in
    is-card

pub overflow_sub-bit_of : goal.overflow_sub-bit_of
overflow_sub-bit_of c =
    -- the placement has members, and the first site is one of them
    let some : 0 < length (members (byte c.args.self.mask)) = rw (size-members (byte c.args.self.mask)) (omega (arith, c.requires.copy_count_bound)) in
    let is-card : c.args.first.0 < card_count = let m = byte c.args.self.mask in
    rw c.requires.first_value (has-card m (member_at m c.args.block.0) (member-at m c.args.block.0 some)) in
    rw c.bit_of.ensures (bit-some c.args.first.0 is-card)

pub first_or-requires : goal.first_or-requires
first_or-requires c =
    -- the placement has members, and the first site is one of them
    let some : 0 < length (members (byte c.args.self.mask)) = rw (size-members (byte c.args.self.mask)) (omega (arith, c.requires.copy_count_bound)) in
    some

pub returns : goal.returns
returns c =
    -- the placement has members, and the first site is one of them
    let some : 0 < length (members (byte c.args.self.mask)) = rw (size-members (byte c.args.self.mask)) (omega (arith, c.requires.copy_count_bound)) in
    let a = c.args in
    let n : ℕ = a.self.mask in
    c.first_or.ensures.0
    ∙ ap (λ (x : ℕ). get_or (members (byte (bit_and n (x - 1)))) 0 (get_or (members (byte n)) 0 0)) c.bit_of.ensures
    ∙ next-found n a.block.0 a.first.0 (search rules) some c.requires.first_value
