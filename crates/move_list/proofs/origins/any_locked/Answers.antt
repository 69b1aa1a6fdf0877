-- No member before c has a locked slot: a search that stops at the first that has one. Assumes nothing.
use Prim.Native.Nat.{ℕ}
use mathlib.Core.Path.{◌∙◌, ◌≡◌, ap, sym}
use native.Mathlib.Omega.{arith}
use Rattle.lists.specs.Tests.{any_below}
use Rattle.lists.proofs.Counts.{any_below_lem, any-more}
use Rattle.image.specs.Layout.{card_count}
use Rattle.move_list.proofs.origins.any_locked.Invariants.{locked_at}
use Rattle.move_list.proofs.origins.any_locked.Goals as goal

pub returns-then-locked_at : goal.returns-then-locked_at
returns-then-locked_at c =
    let a = c.args in
    sym (any_below_lem card_count (locked_at a.image.now a.from a.block.0) c.loop-c.c (omega arith) (sym c.locked_at.ensures ∙ c.if-locked_at.true))

pub loop-c-preserved : goal.loop-c-preserved
loop-c-preserved c =
    let a = c.args in
    any-more (locked_at a.image.now a.from a.block.0) c.loop-c.c (sym c.locked_at.ensures ∙ c.if-locked_at.false) c.loop-c.invariant

pub returns : goal.returns
returns c =
    let a = c.args in
    let e : c.loop-c.c ≡ card_count = omega arith in
    sym (ap (λ (n : ℕ). any_below n (locked_at a.image.now a.from a.block.0)) (sym e) ∙ c.loop-c.invariant)
