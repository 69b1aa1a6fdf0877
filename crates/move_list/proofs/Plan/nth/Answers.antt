-- The moves of the blocks before b are passed over: what is left of n counts from block b. Assumes nothing.
use Prim.Native.Nat.{ℕ}
use lib.ListN.{get_or}
use mathlib.Core.Path.{◌∙◌, ap}
use native.Mathlib.Omega.{arith}
use Rattle.mask.specs.Masks.{byte}
use Rattle.mask.proofs.Masks.{size-members}
use Rattle.mask.proofs.MaskSites.{size-le}
use Rattle.move_list.specs.declared.Move.{Move}
use Rattle.move_list.proofs.MovePlans.{below_next, move-beyond, move-here, none_below}
use Rattle.move_list.proofs.Plan.nth.Goals as goal

pub loop-b-init : goal.loop-b-init
loop-b-init c = none_below c.args.self.origins c.args.n

pub overflow_cast-left : goal.overflow_cast-left
overflow_cast-left c =
    let h = size-le (byte (get_or c.args.self.origins c.loop-b.b 0)) in
    omega (arith, h, c.members-here.ensures, c.if-left-here.true)

pub nth_member-requires : goal.nth_member-requires
nth_member-requires c =
    let h = size-members (byte (get_or c.args.self.origins c.loop-b.b 0)) in
    omega (arith, h, c.members-here.ensures, c.if-left-here.true)

pub returns-then-left-here : goal.returns-then-left-here
returns-then-left-here c =
    let a = c.args in
    ap (λ (x : ℕ). move-of x c.loop-b.b) c.nth_member.ensures
    ∙ move-here a.self.origins a.n c.loop-b.b c.loop-b.left (omega arith) c.loop-b.invariant (omega (arith, c.members-here.ensures, c.if-left-here.true))
  where
    move-of : ℕ → ℕ → Move
    move-of x b = record { 0 = record { 0 = x }; 1 = record { 0 = b } }

pub loop-b-preserved : goal.loop-b-preserved
loop-b-preserved c =
    let a = c.args in
    below_next a.self.origins a.n c.loop-b.b c.loop-b.left c.members-here.result c.loop-b.invariant c.members-here.ensures c.if-left-here.false

pub returns : goal.returns
returns c =
    let a = c.args in
    move-beyond a.self.origins a.n c.loop-b.b c.loop-b.left (omega arith) c.loop-b.invariant
