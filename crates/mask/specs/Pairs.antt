-- The pairs of a placement by table: of each block its two cards, as bytes keep them (RULES, "The image"). Assumes nothing.
use Rattle.std.specs.Prelude.{◌≡◌, Bool, not, ◌&&◌, List, [], ◌∷◌, ℕ, ◌+◌, ◌-◌, ◌*◌, ◌/◌, ◌%◌, ◌^◌, eqb, length, get_or}
use Rattle.lists.specs.Tests.{all_below}
use Rattle.lists.specs.Tabulate.{tabulate}
use Rattle.lists.proofs.Tabulate.{length-tabulate}
use Rattle.image.specs.Layout.{block_count, card_count, pairs_size}
use Rattle.mask.specs.Masks.{Byte, has_card}

-- The bytes; those that f gives; none.
abbrev pub Pairs : Type 0
Pairs = (l : List ℕ) × (length l ≡ pairs_size)

abbrev pub pairs_of : (ℕ → ℕ) → Pairs
pairs_of f = (tabulate pairs_size f, length-tabulate pairs_size f)

abbrev pub no_pairs : Pairs
no_pairs = pairs_of (λ j. 0)

abbrev pub pairs_byte : Pairs → ℕ → ℕ
pairs_byte x j = get_or x.0 j 0

-- ---- six bits a block, block 0 first and the most significant bit first: four blocks in three bytes
abbrev pub blocks_in_group : ℕ
blocks_in_group = 4

abbrev pub group_size : ℕ
group_size = 3

abbrev pub pair_bound : ℕ
pair_bound = card_count * card_count

-- The 24 bits of group q, and pair r in such bits.
abbrev pub group_at : (ℕ → ℕ) → ℕ → ℕ
group_at f q = (f (q * group_size) * 256 + f (q * group_size + 1)) * 256 + f (q * group_size + 2)

abbrev pub pair_in_group : ℕ → ℕ → ℕ
pair_in_group n r = n / pair_bound ^ (blocks_in_group - 1 - r) % pair_bound

-- The pair of block b, as one number.
unfoldable pub pair_at : (ℕ → ℕ) → ℕ → ℕ
pair_at f b = pair_in_group (group_at f (b / blocks_in_group)) (b % blocks_in_group)

-- Its first card, in the upper three bits, and its second.
abbrev pub first_card : ℕ → ℕ
first_card pair = pair / card_count

abbrev pub second_card : ℕ → ℕ
second_card pair = pair % card_count

-- The sites of block b.
unfoldable pub table_sites : Pairs → ℕ → List ℕ
table_sites x b = first_card (pair_at (pairs_byte x) b) ∷ second_card (pair_at (pairs_byte x) b) ∷ []

-- The pair is two different members of the mask.
unfoldable pub is_pair_of : Byte → ℕ → Bool
is_pair_of m pair =
    has_card m (first_card pair) && (has_card m (second_card pair) && not (eqb (first_card pair) (second_card pair)))

-- So is that of every block.
unfoldable pub are_pairs_of : Byte → Pairs → Bool
are_pairs_of m x = all_below block_count (λ b. is_pair_of m (pair_at (pairs_byte x) b))

-- ---- written
-- The 24 bits of the four pairs of group q, and byte r of such bits.
abbrev pub group_of : (ℕ → ℕ) → ℕ → ℕ
group_of f q =
    ((f (q * blocks_in_group) * pair_bound + f (q * blocks_in_group + 1)) * pair_bound + f (q * blocks_in_group + 2)) * pair_bound
    + f (q * blocks_in_group + 3)

abbrev pub byte_in_group : ℕ → ℕ → ℕ
byte_in_group n r = n / 256 ^ (group_size - 1 - r) % 256

-- The bytes that keep the pairs that f gives the blocks.
unfoldable pub pairs_from : (ℕ → ℕ) → Pairs
pairs_from f = pairs_of (λ j. byte_in_group (group_of f (j / group_size)) (j % group_size))
