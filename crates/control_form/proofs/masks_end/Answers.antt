-- The bytes of the number from the count on. Assumes nothing.
use Rattle.control_form.proofs.Zeros.{masks-by}
use Rattle.control_form.proofs.masks_end.Goals as goal

pub returns : goal.returns
returns c =
    masks-by c.args.s.now (λ n. (c.type_inv.s n).fits) c.args.count c.half.result c.requires.le_count.0 c.requires.le_count.1 c.half.ensures.0
