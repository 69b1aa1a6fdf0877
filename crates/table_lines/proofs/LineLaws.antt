-- Bytes that are lines, line by line: each line's cards are cards, and every definition that goes over the first n lines takes one line
-- more by one step of it. Assumes nothing.
use mathlib.Core.Bool.{Bool, true, ◌&&◌, cond}
use mathlib.Core.List.{List}
use mathlib.Core.Path.{◌≡◌, ap, ◌∙◌}
use Prim.Native.Nat.{ℕ, ◌+◌, ◌*◌, ◌%◌, ◌<◌}
use native.Mathlib.Numerals.{add-one}
use lib.Dec.{eqb, leb, ltb}
use lib.ListN.{length}
use borrow.Author.Tests.{ltb-true}
use Rattle.lists.specs.Tests.{any_below}
use Rattle.lists.proofs.Bools.{and_l, and_r}
use Rattle.lists.proofs.Counts.{below_all}
use Rattle.image.specs.Layout.{block_count, card_count}
use Rattle.table_lines.specs.Lines.{Line, are_lines, has_block, has_gap, has_overlap, line_at, line_count, line_in_range, line_size, lines_with, most_lines, pair_by}

-- The cards of a line in range.
pub cards-of : (n : Line) → line_in_range n ≡ true → (n.one < card_count) × (n.two < card_count)
unfolding line_in_range
cards-of n e =
    let cards = and_r (leb n.first n.last) (ltb n.one card_count && ltb n.two card_count) (and_r (ltb n.last block_count) _ e) in (
      ltb-true n.one card_count (and_l (ltb n.one card_count) (ltb n.two card_count) cards),
      ltb-true n.two card_count (and_r (ltb n.one card_count) (ltb n.two card_count) cards),
    )

module _ (l : List ℕ) (are : are_lines l ≡ true) where
  pub is_in_range : (i : ℕ) → i < line_count l → line_in_range (line_at l i) ≡ true
  unfolding are_lines
  is_in_range i h = below_all (line_count l) (λ i. line_in_range (line_at l i)) i
      (and_r (leb (line_count l) most_lines) _ (and_r (eqb (length l % line_size) 0) _ are)) h

  pub line-cards : (n : Line) (i : ℕ) → n ≡ line_at l i → i < line_count l → (n.one < card_count) × (n.two < card_count)
  line-cards n i e h = cards-of n (ap line_in_range e ∙ is_in_range i h)

-- The blocks below b; once b is past the last block they are all.
abbrev pub gap_below : List ℕ → ℕ → Bool
gap_below l b = any_below b (λ b. eqb (lines_with l b) 0)

abbrev pub overlap_below : List ℕ → ℕ → Bool
overlap_below l b = any_below b (λ b. ltb 1 (lines_with l b))

module _ (l : List ℕ) (b : ℕ) where
  pub gap_is : b ≡ block_count → gap_below l b ≡ has_gap l
  unfolding has_gap
  gap_is e = ap (gap_below l) e

  pub overlap-is : b ≡ block_count → overlap_below l b ≡ has_overlap l
  unfolding has_overlap
  overlap-is e = ap (overlap_below l) e

-- One line more.
pub pair-more : (l : List ℕ) (b i : ℕ)
    → pair_by l b (i + 1) ≡ cond (has_block (line_at l i) b) ((line_at l i).one * card_count + (line_at l i).two) (pair_by l b i)
pair-more l b i = rw (add-one i)
