-- The bytes that have the locks are joined, and of that the field of the lock is taken. Assumes nothing.
use Prim.Native.Nat.{◌+◌, ◌*◌}
use native.Mathlib.Omega.{arith}
use lib.ListN.{get_or}
use Rattle.image.specs.Layout.{slot_size}
use Rattle.slot.specs.Blocks.{joined, joined_locks, of_list, slot_at}
use Rattle.slot.proofs.Locks.{joined-field}
use Rattle.slot.proofs.Steps.{lock-of-list}
use Rattle.slot.proofs.block.joined_locks.Goals as goal

pub returns : goal.returns
unfolding joined joined_locks
returns c =
    let l = c.args.block.now in
    joined-field 3 (λ i. get_or l (3 + i * slot_size) 0) (λ i. (slot_at (of_list l) i).lock)
    (λ i h. lock-of-list l i h (omega (arith, c.type_inv.block (3 + i * slot_size))))
