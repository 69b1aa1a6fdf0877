-- The blocks below b have ended, each as the part that was lent. Assumes nothing.
use Prim.Native.Nat.{◌*◌, ◌+◌, ◌-◌, ℕ}
use mathlib.Core.List.{List}
use mathlib.Core.Path.{◌∙◌, ◌≡◌, ap, sym}
use native.Mathlib.Omega.{arith}
use Rattle.lists.specs.Segments.{each, within}
use Rattle.lists.proofs.Each.{each_more, each_none}
use Rattle.image.specs.Layout.{block_count, block_size}
use Rattle.image.proofs.Parts.{part-within}
use Rattle.slot.specs.Blocks.{ended_block, in_set}
use Rattle.slot.proofs.Ends.{length-ended}
use Rattle.tables.specs.Tables.{ended_table}
use Rattle.tables.proofs.Ends.{block_wise}
use Rattle.tables.proofs.end_table.Goals as goal

pub loop-b-init : goal.loop-b-init
loop-b-init c = sym (each_none (block_wise c.args.take (in_set c.args.set)) 0 block_size c.args.table.now)

pub loop-b-preserved : goal.loop-b-preserved
loop-b-preserved c =
    let l = c.loop-b in
    let a = c.args in
    let f = ended_block a.take (in_set a.set) in
    let t : ℕ = l.b * block_size in
    let at : t ≡ 0 + l.b * block_size = omega arith in
    part-within f block_size (length-ended a.take (in_set a.set)) t (t + block_size - t) l.table c.end_held.new.block c.end_held.ensures (omega arith) (omega arith)
    ∙ ap (λ (y : List ℕ). within y t block_size f) l.invariant
    ∙ ap (λ (i : ℕ). within (each (block_wise a.take (in_set a.set)) 0 block_size l.b a.table.now) i block_size f) at
    ∙ each_more (block_wise a.take (in_set a.set)) 0 block_size l.b a.table.now

pub returns : goal.returns
unfolding ended_table
returns c =
    let a = c.args in
    let e : c.loop-b.b ≡ block_count = omega arith in
    c.loop-b.invariant ∙ ap (λ (n : ℕ). each (block_wise a.take (in_set a.set)) 0 block_size n a.table.now) e
