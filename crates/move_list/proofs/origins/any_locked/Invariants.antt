-- No member before c has a locked slot: a search that stops at the first that has one. Assumes nothing.
use Prim.Native.Nat.{ℕ}
use mathlib.Core.Bool.{Bool, ◌&&◌, false}
use mathlib.Core.Path.{◌≡◌}
use Rattle.lists.specs.Tests.{any_below}
use Rattle.mask.specs.Masks.{byte, has_card}
use Rattle.slot.specs.Blocks.{some_locked}
use Rattle.cabinet_rules.specs.Images.{Image, block_in}
use Rattle.move_list.proofs.origins.any_locked.Given as goal

-- Whether card c is one of these and has a locked slot in its copy of block b.
abbrev pub locked_at : Image → ℕ → ℕ → ℕ → Bool
locked_at g from b c = has_card (byte from) c && some_locked (block_in g c b)

abbrev pub invariant-loop-c : goal.invariant-loop-c
invariant-loop-c l = any_below l.c (locked_at l.image l.from l.block.0) ≡ false
