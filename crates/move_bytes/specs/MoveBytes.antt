-- The move list as bytes in a lent buffer. Assumes nothing.
use Rattle.std.specs.Prelude.{◌*◌, ◌/◌, ℕ, drop, length, take, List, [], ◌++◌, ◌∷◌, map, ◌≡◌}
use Rattle.lists.specs.Tests.{concat_map}
use Rattle.method.specs.MoveList.{ListAnswer, listed, no_list, not_listed}
use Rattle.cabinet_rules.specs.Images.{Image}
use Rattle.cabinet_rules.specs.MoveLists.{list_answer_on, moves_on}
use Rattle.move_list.specs.Plans.{move_for}
use Rattle.move_list.specs.Promise.{Listed, shown_list}
use Rattle.move_list.specs.declared.Move.{Move}

-- An entry is two bytes: its card, then its block.
abbrev pub entry_size : ℕ
entry_size = 2

abbrev pub bytes_of : Move → List ℕ
bytes_of m = m.0.0 ∷ m.1.0 ∷ []

-- The bytes of the first n entries of a list.
abbrev pub first_bytes : List Move → ℕ → List ℕ
first_bytes l n = concat_map bytes_of (take n l)

-- The buffer after the call: the moves from its beginning, the bytes beyond them as lent; the whole buffer as lent where
-- the answer is 'none' or a refusal.
abbrev pub filled_bytes : ListAnswer → List Move → List ℕ → List ℕ
filled_bytes (listed n) moves lent = concat_map bytes_of moves ++ drop (n * entry_size) lent
filled_bytes no_list moves lent = lent
filled_bytes (not_listed n) moves lent = lent

-- The room of a buffer: so many entries fit into it.
abbrev pub room_of : List ℕ → ℕ
room_of lent = length lent / entry_size

unfoldable pub bytes_after : Image → List ℕ → List ℕ
bytes_after g lent = filled_bytes (list_answer_on (room_of lent) g) (map move_for (moves_on g)) lent

-- The call on an image with a lent buffer answered a and left the buffer filled.
pub record BytesDone (g : Image) (lent : List ℕ) (a : Listed) (filled : List ℕ) : Type 0 where
  pub answers : shown_list a ≡ list_answer_on (room_of lent) g
  pub fills : filled ≡ bytes_after g lent
