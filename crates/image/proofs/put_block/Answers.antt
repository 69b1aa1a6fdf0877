-- The part of the table's blocks is lent on: a splice in a part is one in the image. Assumes nothing.
use mathlib.Core.Path.{◌≡◌, ap, ◌∙◌}
use Prim.Native.Nat.{ℕ, ◌+◌, ◌-◌}
use native.Mathlib.Omega.{arith}
use lib.ListN.{length}
use borrow.Author.Rules.{rules}
use Rattle.lists.specs.Segments.{splice}
use Rattle.image.specs.Layout.{block_size, block_start, blocks_size, table_start}
use Rattle.image.specs.Parts.{put_block}
use Rattle.image.proofs.Parts.{part-put}
use Rattle.image.proofs.put_block.Goals as goal

pub returns : goal.returns
unfolding put_block
returns c =
    let a = c.args in
    let n : length a.bytes ≡ block_size = search rules in
    let t = c.table_start-start.result in
    let e : t ≡ table_start a.card.0 = c.table_start-start.ensures in
    part-put t (t + blocks_size - t) a.image.now blocks_size _ _ _ c.write_block.ensures (omega arith) (omega arith) (omega arith)
    ∙ ap (λ (m : ℕ). splice a.image.now (m + block_start a.block.0) a.bytes) e
