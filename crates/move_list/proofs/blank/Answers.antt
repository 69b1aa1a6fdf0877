-- The array is the blank list, entry by entry. Assumes nothing.
use mathlib.Core.Path.{refl}
use Rattle.move_list.specs.Promise.{blank_list}
use Rattle.move_list.proofs.blank.Goals as goal

pub returns : goal.returns
unfolding blank_list
returns c = refl
