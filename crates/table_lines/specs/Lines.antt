-- The lines of a table by which a plant chooses the cards of blocks: RULES, "Placing by table". Assumes nothing.
use Rattle.std.specs.Prelude.{Bool, not, ◌&&◌, cond, List, ℕ, zero, suc, ◌+◌, ◌*◌, ◌/◌, ◌%◌, eqb, leb, ltb, length, get_or}
use Rattle.lists.specs.Tests.{all_below, any_below, count_below}
use Rattle.image.specs.Layout.{block_count, card_count}
use Rattle.mask.specs.Masks.{Byte, has_card, no_cards, with_card}
use Rattle.mask.specs.Pairs.{pairs_from}
use Rattle.mask.specs.Placements.{Placement, by_table}

-- A line has four bytes, and a table as many lines as there are blocks at most.
abbrev pub line_size : ℕ
line_size = 4

abbrev pub most_lines : ℕ
most_lines = block_count

-- A line: its first and its last block, and the cards of their first and their second site.
pub record Line : Type 0 where
  pub first : ℕ
  pub last : ℕ
  pub one : ℕ
  pub two : ℕ

-- Line i of lent bytes, and how many there are.
abbrev pub line_at : List ℕ → ℕ → Line
line_at l i = record {
  first = get_or l (i * line_size) 0;
  last = get_or l (i * line_size + 1) 0;
  one = get_or l (i * line_size + 2) 0;
  two = get_or l (i * line_size + 3) 0;
}

abbrev pub line_count : List ℕ → ℕ
line_count l = length l / line_size

-- ---- row 3
-- Its numbers are in their ranges, and its first block is not above its last.
unfoldable pub line_in_range : Line → Bool
line_in_range n =
    ltb n.last block_count && (leb n.first n.last && (ltb n.one card_count && ltb n.two card_count))

-- The bytes are whole lines, not too many, and each line is so.
unfoldable pub are_lines : List ℕ → Bool
are_lines l =
    eqb (length l % line_size) 0
    && (leb (line_count l) most_lines && all_below (line_count l) (λ i. line_in_range (line_at l i)))

-- ---- row 9
-- Its cards are different and work.
unfoldable pub line_works : Byte → Line → Bool
line_works working n =
    not (eqb n.one n.two) && (has_card working n.one && has_card working n.two)

-- So are those of every line.
unfoldable pub lines_work : Byte → List ℕ → Bool
lines_work working l = all_below (line_count l) (λ i. line_works working (line_at l i))

-- ---- rows 17 and 18
-- The line has block b; how many lines do.
unfoldable pub has_block : Line → ℕ → Bool
has_block n b = leb n.first b && leb b n.last

unfoldable pub lines_with : List ℕ → ℕ → ℕ
lines_with l b = count_below (line_count l) (λ i. has_block (line_at l i) b)

-- Some block is in no line; some block is in two.
unfoldable pub has_gap : List ℕ → Bool
has_gap l = any_below block_count (λ b. eqb (lines_with l b) 0)

unfoldable pub has_overlap : List ℕ → Bool
has_overlap l = any_below block_count (λ b. ltb 1 (lines_with l b))

-- ---- the placement
-- The cards that the first n lines name.
abbrev pub named_by : List ℕ → ℕ → Byte
named_by l zero = no_cards
named_by l (suc n) = with_card (with_card (named_by l n) (line_at l n).one) (line_at l n).two

-- The pair of block b by the first n lines: that of the last of them that has it.
abbrev pub pair_by : List ℕ → ℕ → ℕ → ℕ
pair_by l b zero = 0
pair_by l b (suc n) = cond (has_block (line_at l n) b) ((line_at l n).one * card_count + (line_at l n).two) (pair_by l b n)

-- The cards named are its mask, and the pairs are those of the lines.
unfoldable pub table_placement : List ℕ → Placement
table_placement l =
    record { mask = named_by l (line_count l); choice = by_table (pairs_from (λ b. pair_by l b (line_count l))) }
