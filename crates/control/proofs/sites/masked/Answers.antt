-- The mask is read at its offset, and the mark for rails is the bit of the placement. Assumes nothing.
use mathlib.Core.Bool.{Bool}
use mathlib.Core.Path.{ap}
use Prim.Native.Nat.{ℕ, ◌+◌}
use native.Mathlib.Omega.{arith}
use lib.ListN.{get_or}
use Rattle.mask.specs.Masks.{byte}
use Rattle.control.specs.ControlBytes.{marks_at, masks_at}
use Rattle.control.proofs.Marks.{mark-is}
use Rattle.control.proofs.sites.masked.Goals as goal

pub returns : goal.returns
returns c =
    let l = c.args.image.now in
    let i : ℕ = c.args.i in
    ap (λ (r : Bool). record { mask = byte (get_or l (masks_at + i) 0); by_rails = r }) (mark-is (get_or l marks_at 0) i (c.type_inv.image marks_at).fits (omega (arith, c.requires.1)))
