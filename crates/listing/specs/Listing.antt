-- The listing of an input: RULES, "Commands and the listing". Assumes nothing.
use Rattle.std.specs.Prelude.{◌*◌, ◌+◌, ◌-◌, ◌/◌, ◌^◌, ℕ, suc, zero, leb, length, Bool, ◌&&◌, cond, List, ◌++◌, [], ◌≡◌}
use Rattle.lists.specs.Segments.{segment}
use Rattle.cabinet_rules.specs.Images.{Image}
use Rattle.command.specs.Commands.{command_size}
use Rattle.command.specs.Meaning.{command_answer, command_next}
use Rattle.lines.specs.Lines.{has_room, line, longest_line}
use Rattle.lines.specs.Text.{Puts}

-- The line of one command on an image.
abbrev pub line_on : ℕ → List ℕ → Image → List ℕ
line_on n command g = line n command (command_answer command g)

-- One command was performed and its line put at the start of a buffer, which leaves it so; with no room for the longest
-- line nothing was.
pub record Stepped (n : ℕ) (command out : List ℕ) (g : Image) (end : ℕ) (left : List ℕ) (after : Image) : Type 0 where
  pub prints : Puts (cond (has_room out command) (line_on n command g) []) out 0 end left
  pub leaves : after ≡ cond (has_room out command) (command_next command g) g

-- An input is one command after the other, five bytes each; the last may have fewer. Command i counts from 0.
abbrev pub command_count : List ℕ → ℕ
command_count input = (length input + (command_size - 1)) / command_size

abbrev pub command_bytes : List ℕ → ℕ → List ℕ
command_bytes input i = segment input (i * command_size) command_size

-- The image after the first i commands.
unfoldable pub image_behind : List ℕ → Image → ℕ → Image
image_behind input g zero = g
image_behind input g (suc i) = command_next (command_bytes input i) (image_behind input g i)

-- The lines of the first i commands, the first of them with number n.
unfoldable pub listing : ℕ → List ℕ → Image → ℕ → List ℕ
listing n input g zero = []
listing n input g (suc i) = listing n input g i ++ line_on (n + i) (command_bytes input i) (image_behind input g i)

-- A buffer has room for the longest lines of all commands, and their numbers have 64 bits.
unfoldable pub has_room_for_all : ℕ → List ℕ → List ℕ → Bool
has_room_for_all n input out =
    leb (command_count input * longest_line command_size) (length out) && leb (n + command_count input) (2 ^ 64)

-- All commands of an input were performed and their lines put at the start of a buffer; where they do not fit, none.
pub record Listed (n : ℕ) (input out : List ℕ) (g : Image) (end : ℕ) (left : List ℕ) (after : Image) : Type 0 where
  pub prints : Puts (cond (has_room_for_all n input out) (listing n input g (command_count input)) []) out 0 end left
  pub leaves : after ≡ cond (has_room_for_all n input out) (image_behind input g (command_count input)) g

-- An input may be read in parts, if each but the last has whole commands: its listing is the parts' listings, one after
-- the other, each on the image that the part before it left.
pub record InParts (n k : ℕ) (first rest : List ℕ) (g : Image) : Type 0 where
  pub counts : command_count (first ++ rest) ≡ k + command_count rest
  pub prints : (j : ℕ) → listing n (first ++ rest) g (k + j)
      ≡ listing n first g k ++ listing (n + k) rest (image_behind first g k) j
  pub leaves : (j : ℕ) → image_behind (first ++ rest) g (k + j) ≡ image_behind rest (image_behind first g k) j
