-- The last word, but for its first two bytes, as a number. Assumes nothing.
use Rattle.control_form.proofs.Zeros.{tail-by}
use Rattle.control_form.proofs.tail_ok.Goals as goal

pub returns : goal.returns
returns c =
    tail-by c.args.s.now (λ n. (c.type_inv.s n).fits) c.word.result c.word.ensures
