-- A shift by the count is a division by its power of two. Assumes nothing.
use mathlib.Core.Path.{refl}
use native.Mathlib.Omega.{arith}
use Rattle.control.specs.Meaning.{free_marks}
use Rattle.control.proofs.Marks.{free-small}
use Rattle.control.proofs.codec.free_marks.Goals as goal

pub overflow_mul-result : goal.overflow_mul-result
overflow_mul-result c = let h = free-small c.args.count c.requires in omega (arith, h)

pub returns : goal.returns
unfolding free_marks
returns c = refl
