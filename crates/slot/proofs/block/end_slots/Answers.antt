-- Before the first turn none has ended, each turn ends one slot, and after the last all have. Assumes nothing.
use mathlib.Core.Path.{◌≡◌, ap, ◌∙◌}
use Prim.Native.Nat.{ℕ}
use native.Mathlib.Omega.{arith}
use Rattle.image.specs.Layout.{slot_count}
use Rattle.slot.specs.Blocks.{BlockBytes, in_set, of_list}
use Rattle.slot.proofs.Ends.{all_done, start, turn, up_to}
use Rattle.slot.proofs.block.end_slots.Goals as goal

pub loop-i-init : goal.loop-i-init
loop-i-init c = let a = c.args in start a.take (in_set a.set) a.block.now (omega arith)

pub loop-i-preserved : goal.loop-i-preserved
loop-i-preserved c =
    let l = c.loop-i in
    let a = c.args in
    c.end_slot.ensures ∙ turn a.take (in_set a.set) (of_list a.block.now) l.i (omega arith) l.block l.invariant

pub returns : goal.returns
returns c =
    let a = c.args in
    let last : c.loop-i.i ≡ slot_count = omega arith in
    c.loop-i.invariant
    ∙ ap (λ (i : ℕ). (up_to a.take (in_set a.set) (of_list a.block.now) i).0) last
    ∙ ap (λ (b : BlockBytes). b.0) (all_done a.take (in_set a.set) (of_list a.block.now))
