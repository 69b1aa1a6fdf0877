-- Laws of a line: the room for it, and how long its pieces are. Assumes nothing.
use mathlib.Core.Path.{◌≡◌, ap, sym}
use mathlib.Core.Bool.{Bool, cond, true}
use mathlib.Core.List.{List, ◌++◌, []}
use Prim.Native.Nat.{◌%◌, ◌*◌, ◌+◌, ◌<◌, ◌≤◌, ℕ}
use native.Mathlib.Omega.{arith}
use lib.ListN.{length, length-append}
use Rattle.method.specs.Rules.{Answer}
use Rattle.cabinet_rules.specs.Cabinet.{cabinet}
use Rattle.promise.specs.Promise.{said}
use Rattle.promise.specs.declared.Answer.TheVariants.{Placed}
use Rattle.lines.specs.Lines.{has_room, line, line_head, line_in, words}
use Rattle.lines.specs.Text.{decimal, hex_byte, hex_bytes, text}
use Rattle.lines.proofs.Digits.{hex_length, length_64}

-- ---- room
pub line-there : (out command : List ℕ) (n : ℕ) (a : Answer cabinet) → has_room out command ≡ true → line n command a ≡ line_in out n command a
unfolding line_in
line-there out command n a h = sym (ap (λ (t : Bool). cond t (line n command a) []) h)

-- ---- lengths
pub head_length : (n : ℕ) (command : List ℕ) → n < 18446744073709551616 → length (line_head n command) ≤ 22 + 2 * length command
head_length n command h =
    let d : length (decimal n) ≤ 20 = length_64 n h in
    let x : length (hex_bytes command) ≡ 2 * length command = hex_length command in
    let e : length (decimal n ++ text " ") ≡ length (decimal n) + 1 = length-append (decimal n) (text " ") in
    let f : length (decimal n ++ text " " ++ hex_bytes command) ≡ length (decimal n ++ text " ") + length (hex_bytes command) = length-append (decimal n ++ text " ") (hex_bytes command) in
    let g : length (line_head n command) ≡ length (decimal n ++ text " " ++ hex_bytes command) + 1 = length-append (decimal n ++ text " " ++ hex_bytes command) (text " ") in
    omega arith

-- ---- answers
pub placed_words : (m : ℕ) → m < 256 → text "placed " ++ hex_byte m ≡ words (said (Placed m))
unfolding words
placed_words m h =
    let e : m ≡ m % 256 = omega arith in
    ap (λ (n : ℕ). text "placed " ++ hex_byte n) e
