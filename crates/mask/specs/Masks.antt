-- A mask: a set of cards in eight bits, card 0 the highest (80 hex). Assumes nothing.
use Rattle.std.specs.Prelude.{◌≡◌, Bool, not, ◌&&◌, ◌||◌, List, [], ◌∷◌, ℕ, ◌-◌, ◌/◌, ◌%◌, ◌^◌, ◌<◌, ltb, eqb}
use Rattle.std.proofs.Common.{arith}
use Rattle.std.specs.Int.Bits.{bit_and, bit_or}
use Rattle.lists.specs.Tests.{keep_if, count_below, all_below, any_below}
use Rattle.image.specs.Layout.{card_count}

-- A number of eight bits, and the low eight bits of a number.
abbrev pub Byte : Type 0
Byte = (n : ℕ) × (n < 256)

abbrev pub byte : ℕ → Byte
byte n = (n % 256, omega arith)

-- The bit of a card.
abbrev pub bit_of : ℕ → ℕ
bit_of c = 128 / 2 ^ c

-- The mask has card c.
unfoldable pub has_card : Byte → ℕ → Bool
has_card m c = ltb c card_count && eqb (m.0 / bit_of c % 2) 1

-- No card; the mask with card c, and without it.
abbrev pub no_cards : Byte
no_cards = byte 0

unfoldable pub with_card : Byte → ℕ → Byte
with_card m c = byte (bit_or m.0 (bit_of c))

unfoldable pub without_card : Byte → ℕ → Byte
without_card m c = byte (bit_and m.0 (255 - bit_of c))

-- The members, rising, and their number.
unfoldable pub members : Byte → List ℕ
members m = keep_if (has_card m) (0 ∷ 1 ∷ 2 ∷ 3 ∷ 4 ∷ 5 ∷ 6 ∷ 7 ∷ [])

unfoldable pub size : Byte → ℕ
size m = count_below card_count (has_card m)

-- The members of the mask are the cards that f picks.
abbrev pub AreMembers : ℕ → (ℕ → Bool) → Type 0
AreMembers m f = (c : ℕ) → has_card (byte m) c ≡ f c

-- How many cards are in both.
unfoldable pub common : Byte → Byte → ℕ
common a b = count_below card_count (λ c. has_card a c && has_card b c)

-- Every member of a is in b; no card is in both.
unfoldable pub is_within : Byte → Byte → Bool
is_within a b = all_below card_count (λ c. not (has_card a c) || has_card b c)

unfoldable pub are_apart : Byte → Byte → Bool
are_apart a b = all_below card_count (λ c. not (has_card a c && has_card b c))

-- Every member of a is in b or in c.
unfoldable pub is_within_either : Byte → Byte → Byte → Bool
is_within_either a b c = all_below card_count (λ x. not (has_card a x) || (has_card b x || has_card c x))

-- a is b plus exactly one card, which d has.
unfoldable pub is_one_more : Byte → Byte → Byte → Bool
is_one_more d b a = any_below card_count (λ c. has_card d c && (not (has_card b c) && eqb a.0 (with_card b c).0))
