-- What an iterator over the members of a mask has left. Assumes nothing.
use Rattle.std.specs.Prelude.{List, ℕ}
use Rattle.mask.specs.Masks.{byte, members}
use Rattle.mask.specs.declared.Cards.{Cards}

-- The members that are still to come, rising.
abbrev pub cards_left : Cards → List ℕ
cards_left s = members (byte s.0)
