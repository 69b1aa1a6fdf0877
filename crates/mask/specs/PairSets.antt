-- Sets of pairs as numbers of 64 bits, pair 0 the highest bit. Assumes nothing.
use Rattle.std.specs.Prelude.{◌≡◌, Bool, ℕ, ◌*◌, ◌/◌, ◌%◌, ◌^◌, ◌<◌, eqb}
use Rattle.mask.specs.Masks.{Byte}
use Rattle.mask.specs.Pairs.{is_pair_of, pair_bound}

-- The highest bit of 64.
abbrev pub top_bit : ℕ → ℕ
top_bit n = n / 2 ^ 63

-- The set has the pair: its bit, once all above it are shifted out.
unfoldable pub has_pair : ℕ → ℕ → Bool
has_pair pairs pair = eqb (top_bit (pairs * 2 ^ pair % 2 ^ 64)) 1

-- The set has the pairs of two different members of the mask.
abbrev pub AreGoodPairs : ℕ → Byte → Type 0
AreGoodPairs pairs m = (pair : ℕ) → pair < pair_bound → has_pair pairs pair ≡ is_pair_of m pair
