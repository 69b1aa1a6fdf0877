-- The table's part is lent on, and zeroed as a whole. Assumes nothing.
use mathlib.Core.Path.{◌≡◌, ◌∙◌, ap}
use Prim.Native.Nat.{ℕ, ◌+◌, ◌-◌}
use native.Mathlib.Omega.{arith}
use Rattle.lists.specs.Segments.{splice}
use Rattle.image.specs.Layout.{table_size, table_start}
use Rattle.image.specs.Parts.{put_table, zeros}
use Rattle.image.proofs.Parts.{length_part, part_left}
use Rattle.image.proofs.Zeros.{length-zeros}
use Rattle.image.proofs.clear_table.Goals as goal

pub returns : goal.returns
unfolding put_table
returns c =
    let a = c.args in
    let t = c.table_start-start.result in
    let e : t ≡ table_start a.card.0 = c.table_start-start.ensures in
    let k = t + table_size - t in
    let z = length-zeros table_size in
    part_left t k a.image.now (zeros table_size) _
    (c.clear.ensures ∙ ap zeros (length_part t k a.image.now table_size (omega arith) (omega arith))) (omega arith)
    ∙ ap (λ (m : ℕ). splice a.image.now m (zeros table_size)) e
