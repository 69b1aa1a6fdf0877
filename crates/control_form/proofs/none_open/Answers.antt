-- The bytes are zero, eight at a time. Assumes nothing.
use Rattle.std.proofs.Common.{arith, refl, sym}
use Rattle.control_form.proofs.Zeros.{open_by}
use Rattle.control_form.proofs.none_open.Goals as goal

pub returns-then-word-eq0 : goal.returns-then-word-eq0
returns-then-word-eq0 c =
    let e = open_by c.args.s.now (λ n. (c.type_inv.s n).fits) _ _ c.requires.s_value c.word.ensures c.word-then-word-eq0.ensures in
    rw (sym e) (grind arith)

pub returns-else-word-eq0 : goal.returns-else-word-eq0
returns-else-word-eq0 c =
    let e = open_by c.args.s.now (λ n. (c.type_inv.s n).fits) _ _ c.requires.s_value c.word.ensures refl in
    rw (sym e) (grind arith)
