-- The test of the number is one of its bytes. Assumes nothing.
use mathlib.Core.Path.{◌∙◌, ap}
use Prim.Native.Nat.{ℕ, ◌+◌, ◌*◌, ◌/◌}
use native.Mathlib.Omega.{arith}
use lib.Bits.{bit_and, bit_xor, xor_lt}
use lib.Dec.{eqb}
use Rattle.control_form.proofs.Homes.{carries, lack-at, nibbles, ones}
use Rattle.control.specs.ControlBytes.{field}
use Rattle.control_form.proofs.words.lack_home.Goals as goal

pub overflow_add-result : goal.overflow_add-result
overflow_add-result c =
    let w = c.word-w.result in
    omega (arith, xor_lt 60 (w / field) (c.from.result * ones) (omega arith) (omega (arith, c.from.ensures)))

pub returns : goal.returns
returns c =
    let w = c.word-w.result in
    ap (λ (n : ℕ). eqb (bit_and (bit_xor (w / field) (n * ones) + nibbles) carries) carries) c.from.ensures
    ∙ lack-at c.args.s.now (λ n. (c.type_inv.s n).fits) c.args.at w c.args.home.0 c.word-w.ensures c.requires.home_lt_card_count c.requires.s_value
