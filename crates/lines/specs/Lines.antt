-- A line of the listing: RULES, "Commands and the listing". Assumes nothing.
use Rattle.std.specs.Prelude.{◌*◌, ◌+◌, ℕ, leb, length, Bool, cond, List, ◌++◌, []}
use Rattle.method.specs.Rules.{Answer, absent, copied, loaded, ok, placed, protected, refused, retired, stops}
use Rattle.method.specs.Rules.{unplaced, unprotected, value}
use Rattle.cabinet_rules.specs.Cabinet.{cabinet}
use Rattle.lines.specs.Text.{decimal, hex_byte, hex_bytes, text}

-- The words of an answer. Its number is decimal; a mask has two hexadecimal digits.
unfoldable pub words : Answer cabinet → List ℕ
words ok = text "ok"
words (value n) = text "value " ++ decimal n
words absent = text "absent"
words (placed m) = text "placed " ++ hex_byte m.0
words unplaced = text "unplaced"
words stops = text "stopped"
words (copied n) = text "copies " ++ decimal n
words (retired n) = text "retired " ++ decimal n
words protected = text "protected"
words unprotected = text "unprotected"
words (loaded n) = text "load " ++ decimal n
words (refused n) = text "refused " ++ decimal n

-- A line: the number of the command, its bytes in hexadecimal, the words of its answer, a newline.
abbrev pub line_head : ℕ → List ℕ → List ℕ
line_head n command = decimal n ++ text " " ++ hex_bytes command ++ text " "

unfoldable pub line : ℕ → List ℕ → Answer cabinet → List ℕ
line n command a = line_head n command ++ words a ++ text "\n"

-- The longest answer has 11 letters. The words of an answer in a buffer: none where that one has no room.
abbrev pub longest_answer : ℕ
longest_answer = 11

unfoldable pub words_in : List ℕ → Answer cabinet → List ℕ
words_in out a = cond (leb longest_answer (length out)) (words a) []

-- The longest line has a number of 20 digits, two digits for each byte, the longest answer, two spaces and a newline.
abbrev pub longest_line : ℕ → ℕ
longest_line bytes = 20 + 1 + 2 * bytes + 1 + longest_answer + 1

-- A buffer has room for any line of this command.
unfoldable pub has_room : List ℕ → List ℕ → Bool
has_room out command = leb (longest_line (length command)) (length out)

-- The line of a command in a buffer: none where it has no room for any line of this command.
unfoldable pub line_in : List ℕ → ℕ → List ℕ → Answer cabinet → List ℕ
line_in out n command a = cond (has_room out command) (line n command a) []
