-- Text as bytes in ASCII: words, hexadecimal and decimal numbers. Assumes nothing.
use Prim.Native.Char.{code}
use Rattle.std.specs.Prelude.{◌%◌, ◌+◌, ◌/◌, ℕ, suc, zero, ltb, length, cond, List, ◌++◌, ◌∷◌, [], ◌≡◌}
use Prim.Native.String.{String}
use Prim.Native.String as Text
use Rattle.lists.specs.Segments.{splice}

-- The bytes of a text.
abbrev pub text : String → List ℕ
text Text.[] = []
text (Text.◌∷◌ c s) = code c ∷ text s

-- The digit for a number below 16: `0` to `9`, then the capitals `A` to `F`.
abbrev pub glyph : ℕ → ℕ
glyph d = cond (ltb d 10) (48 + d) (55 + d)

-- A byte as two hexadecimal digits, and bytes one after the other.
abbrev pub hex_byte : ℕ → List ℕ
hex_byte b = glyph (b / 16) ∷ glyph (b % 16) ∷ []

unfoldable pub hex_bytes : List ℕ → List ℕ
hex_bytes [] = []
hex_bytes (b ∷ l) = hex_byte b ++ hex_bytes l

-- The decimal digits of n, with no zero in front: those of n / 10, then the last. The first argument only bounds the
-- recursion; n is enough of it, since n / 10 is below n.
unfoldable pub decimal_within : ℕ → ℕ → List ℕ
decimal_within zero n = glyph n ∷ []
decimal_within (suc k) n = cond (ltb n 10) (glyph n ∷ []) (decimal_within k (n / 10) ++ (glyph (n % 10) ∷ []))

unfoldable pub decimal : ℕ → List ℕ
decimal n = decimal_within n n

-- A text is put into a lent buffer at an index, and the answer is the index behind it: at index 0 the number of bytes
-- that were put. The other bytes stay.
pub record Puts (t before : List ℕ) (at end : ℕ) (behind : List ℕ) : Type 0 where
  pub ends : end ≡ at + length t
  pub leaves : behind ≡ splice before at t
