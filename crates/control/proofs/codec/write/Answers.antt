-- The bytes of the struct are spliced in at the front. Assumes nothing.
use Rattle.control.specs.Meaning.{put_control}
use Rattle.control.proofs.codec.write.Goals as goal

pub returns : goal.returns
unfolding put_control
returns c = cc
