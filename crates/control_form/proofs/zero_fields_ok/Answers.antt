-- The count is that of some placements, and of few. Assumes nothing.
use Rattle.control_form.proofs.ZeroFields.{count-few, count-some}
use Rattle.control_form.proofs.zero_fields_ok.Goals as goal

pub masks_end-requires-clause-le_count : goal.masks_end-requires-clause-le_count
masks_end-requires-clause-le_count c = (count-some c.args.s.now c.requires.n_value, count-few c.args.s.now c.requires.n_value)

pub marks_ok-requires : goal.marks_ok-requires
marks_ok-requires c = count-few c.args.s.now c.requires.n_value
