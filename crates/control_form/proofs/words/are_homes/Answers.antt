-- The test of the number is one of its bytes. Assumes nothing.
use native.Mathlib.Omega.{arith}
use lib.Bits.{and_le_r}
use Rattle.control_form.proofs.Homes.{homes_at_lem, opens}
use Rattle.control_form.proofs.words.are_homes.Goals as goal

pub overflow_mul-result : goal.overflow_mul-result
overflow_mul-result c = omega (arith, and_le_r c.word-w.result opens)

pub returns : goal.returns
returns c =
    homes_at_lem c.args.s.now (λ n. (c.type_inv.s n).fits) c.args.at c.word-w.result c.word-w.ensures
