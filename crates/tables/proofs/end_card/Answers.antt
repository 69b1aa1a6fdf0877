-- The lent part is the card's table. Assumes nothing.
use Prim.Native.Nat.{◌+◌, ◌-◌, ℕ}
use mathlib.Core.Path.{◌∙◌, ◌≡◌, ap}
use native.Mathlib.Omega.{arith}
use Rattle.lists.specs.Segments.{within}
use Rattle.image.specs.Layout.{table_size, table_start}
use Rattle.image.proofs.Parts.{part-within}
use Rattle.slot.specs.Blocks.{in_set}
use Rattle.tables.specs.Tables.{ended_table}
use Rattle.tables.proofs.Ends.{keeps-table}
use Rattle.tables.proofs.end_card.Goals as goal

pub returns : goal.returns
returns c =
    let a = c.args in
    let t = c.block_address-start.result in
    let at : t ≡ table_start a.card.0 = omega (arith, c.block_address-start.ensures) in
    part-within (ended_table a.take (in_set a.set)) table_size (keeps-table a.take (in_set a.set)) t (t + table_size - t)
    a.image.now c.end_table.new.table c.end_table.ensures (omega arith) (omega arith)
    ∙ ap (λ (m : ℕ). within a.image.now m table_size (ended_table a.take (in_set a.set))) at
