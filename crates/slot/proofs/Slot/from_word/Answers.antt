-- The fields are quotients and remainders of the number. Assumes nothing.
use Rattle.slot.specs.Words.{slot_of}
use Rattle.slot.proofs.Slot.from_word.Goals as goal

pub returns : goal.returns
unfolding slot_of
returns c = cc
