-- The bit of the mark for a table. Assumes nothing.
use mathlib.Core.Bool.{not}
use mathlib.Core.Path.{◌∙◌, ap}
use Prim.Native.Nat.{ℕ, ◌+◌}
use native.Mathlib.Omega.{arith}
use lib.Bits.{bit_and}
use lib.Dec.{eqb}
use lib.ListN.{get_or}
use Rattle.image.specs.Layout.{most_active}
use Rattle.control.specs.ControlBytes.{marks_at}
use Rattle.control.proofs.Marks.{mark-is, table-bit}
use Rattle.control.proofs.sites.by_table.Goals as goal

pub returns : goal.returns
returns c =
    let a = c.args in
    let m : ℕ = get_or a.image.now marks_at 0 in
    let h = c.requires.1 in
    ap (λ (b : ℕ). not (eqb (bit_and m b) 0)) (table-bit a.i h) ∙ mark-is m (most_active + a.i) (c.type_inv.image marks_at).fits (omega (arith, h))
