-- The bit of the newest placement's mark for a table. Assumes nothing.
use mathlib.Core.Bool.{not}
use mathlib.Core.Path.{◌∙◌, ap}
use Prim.Native.Nat.{ℕ, ◌+◌, ◌-◌}
use native.Mathlib.Omega.{arith}
use lib.Bits.{bit_and}
use lib.Dec.{eqb}
use borrow.Author.Rules.{rules}
use Rattle.image.specs.Layout.{most_active}
use Rattle.control.proofs.Marks.{mark-is, table-bit}
use Rattle.control.proofs.Control.newest_by_table.Goals as goal

pub returns : goal.returns
returns c =
    let k = c.args.self in
    let few = c.requires.few in
    ap (λ (b : ℕ). not (eqb (bit_and k.marks b) 0)) (table-bit (k.count - 1) (omega (arith, few, c.requires.some)))
    ∙ mark-is k.marks (most_active + (k.count - 1)) (search rules) (omega (arith, few, c.requires.some))
