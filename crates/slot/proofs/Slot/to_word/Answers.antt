-- The number is the sum of the fields by their weights, and it has 40 bits. Assumes nothing.
use mathlib.Core.Bool.{Bool, false, true}
use Prim.Native.Nat.{◌<◌}
use native.Mathlib.Omega.{arith}
use Rattle.slot.specs.Words.{bit_number, word_of}
use Rattle.slot.proofs.Slot.to_word.Goals as goal

bit-lt : (b : Bool) → bit_number b < 2
bit-lt true = omega arith
bit-lt false = omega arith

pub returns : goal.returns
unfolding word_of
returns c =
    let s = c.args.self in (cc, omega (arith, bit-lt s.committed.present, bit-lt s.pending.present))
