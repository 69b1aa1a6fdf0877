-- The marks for rails beside one for a table are taken off, and those of placements that are not there. Assumes nothing.
use mathlib.Core.Path.{ap}
use Prim.Native.Nat.{ℕ, ◌*◌, ◌-◌, ◌%◌}
use lib.Bits.{bit_and}
use Rattle.control.specs.Meaning.{clean_marks}
use Rattle.control.proofs.codec.clean_marks.Goals as goal

pub returns : goal.returns
unfolding clean_marks
returns c =
    let m : ℕ = c.args.marks in
    ap (λ (n : ℕ). bit_and (bit_and m (255 - m % 16 * 16)) (255 - n)) c.free_marks.ensures
