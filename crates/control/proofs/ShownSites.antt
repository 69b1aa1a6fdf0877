-- The sites that an image shows: the mark for a table decides between the pairs behind the tables, of which a part of the image is lent, and what the
-- mask gives. Each of the two is one equation of the placement, and the laws of sites do the rest. Assumes nothing.
use mathlib.Core.Path.{◌≡◌, refl, sym, ap, subst, ◌∙◌}
use mathlib.Core.Bool.{Bool, true, false}
use mathlib.Core.List.{List, [], ◌∷◌}
use Prim.Native.Nat.{ℕ, ◌+◌, ◌*◌, ◌%◌, ◌<◌}
use native.Mathlib.Nat.{mod-eq_of_lt}
use native.Mathlib.Omega.{arith}
use lib.ListN.{get_or}
use borrow.Rule.Slice.PartMut.{mid_of}
use Rattle.lists.specs.Tests.{elem}
use Rattle.lists.proofs.Segments.{get_or-segment}
use Rattle.image.specs.Layout.{block_count, pairs_size, tail_start}
use Rattle.image.specs.declared.Card.{Card}
use Rattle.image.proofs.Parts.{part-is}
use Rattle.mask.specs.Masks.{AreMembers, byte}
use Rattle.mask.specs.Pairs.{Pairs, first_card, pair_at, pairs_byte, second_card, table_sites}
use Rattle.mask.specs.Placements.{AreSites, Choice, Enough, Masked, Placement, Usable, by_table, choice_of, is_site, placed, site_list, sites_of}
use Rattle.mask.specs.SiteMasks.{MasksBelow, SitesIn}
use Rattle.mask.proofs.PairLaws.{is_card_of, pair_same}
use Rattle.mask.proofs.SiteLaws.{are-sites}
use Rattle.control.specs.ControlBytes.{chosen_by, mark_in, marks_at, masks_at, pairs_in, placement_at, table_mark_in, tail_at}
use Rattle.control.proofs.Tail.{pairs_of_lem}

-- ---- the pairs of placement i, as the part of the image that is lent
pub lent-byte : (l : List ℕ) (i a k : ℕ) → a ≡ tail_start + i * pairs_size → k ≡ pairs_size → (j : ℕ) → j < pairs_size
    → get_or (mid_of a k l) j 0 ≡ pairs_byte (pairs_in (tail_at l) i) j
lent-byte l i a k ea ek j h = ap (λ (m : List ℕ). get_or m j 0) (part-is a k l pairs_size ek) ∙ get_or-segment l a pairs_size j h ∙ ap (λ (n : ℕ). get_or l n 0) e
    ∙ sym (pairs_of_lem (λ j. tail_at l (i * pairs_size + j)) j h)
  where
    e : a + j ≡ tail_start + (i * pairs_size + j)
    e = omega arith

pub lent-pair : (l : List ℕ) (i a k : ℕ) → a ≡ tail_start + i * pairs_size → k ≡ pairs_size → (b : ℕ) → b < block_count
    → pair_at (λ j. get_or (mid_of a k l) j 0) b ≡ pair_at (pairs_byte (pairs_in (tail_at l) i)) b
lent-pair l i a k ea ek b h = pair_same (λ j. get_or (mid_of a k l) j 0) (pairs_byte (pairs_in (tail_at l) i)) (lent-byte l i a k ea ek) b h

-- ---- the choice that marks stand for, by the mark for a table
pub chosen-table : (t r : Bool) (x : Pairs) → t ≡ true → chosen_by t r x ≡ by_table x
chosen-table t r x e = ap (λ (b : Bool). chosen_by b r x) e

pub chosen-masked : (t r : Bool) (x : Pairs) → t ≡ false → chosen_by t r x ≡ choice_of r
chosen-masked t r x e = ap (λ (b : Bool). chosen_by b r x) e ∙ go r
  where
    go : (r : Bool) → chosen_by false r x ≡ choice_of r
    go true = refl
    go false = refl

module _ (g t : ℕ → ℕ) (i : ℕ) where
  abbrev shown : Placement
  shown = placement_at g t i

  -- the pair that is kept for block b
  abbrev pair_of : ℕ → ℕ
  pair_of b = pair_at (pairs_byte (pairs_in t i)) b

  -- what mask and mark for rails give
  abbrev pub masked_at : Masked
  masked_at = record { mask = byte (g (masks_at + i)); by_rails = mark_in (g marks_at) i }

  -- ---- by table
  pub shown-table : table_mark_in (g marks_at) i ≡ true → shown ≡ record { mask = byte (g (masks_at + i)); choice = by_table (pairs_in t i) }
  shown-table e = ap (λ (c : Choice). record { mask = byte (g (masks_at + i)); choice = c }) (chosen-table (table_mark_in (g marks_at) i) (mark_in (g marks_at) i) (pairs_in t i) e)

  pub table-listed : table_mark_in (g marks_at) i ≡ true → (b : ℕ) → sites_of shown b ≡ first_card (pair_of b) ∷ second_card (pair_of b) ∷ []
  unfolding sites_of table_sites
  table-listed e b = ap (λ (p : Placement). sites_of p b) (shown-table e)

  pub table-sites-are : (s : List Card) (b pair : ℕ) → Usable shown → b < block_count → table_mark_in (g marks_at) i ≡ true → pair ≡ pair_of b
      → site_list s ≡ first_card pair ∷ second_card pair ∷ [] → AreSites s shown b
  table-sites-are s b pair u h e q l = are-sites s shown b u h (table-listed e b ∙ ap (λ (x : ℕ). first_card x ∷ second_card x ∷ []) (sym q) ∙ sym l)

  pub table-mask-is : (r b pair : ℕ) → table_mark_in (g marks_at) i ≡ true → pair ≡ pair_of b → AreMembers r (is_card_of pair) → AreMembers r (is_site shown b)
  table-mask-is r b pair e q are c = are c ∙ ap (elem c) (ap (λ (x : ℕ). first_card x ∷ second_card x ∷ []) q ∙ sym (table-listed e b))

  -- the masks of all blocks
  pub table-masks : (masks : List ℕ) (f : ℕ → ℕ) → table_mark_in (g marks_at) i ≡ true → ((b : ℕ) → b < block_count → pair_at f b ≡ pair_of b)
      → MasksBelow (λ b. is_card_of (pair_at f b)) masks block_count → SitesIn masks block_count shown
  table-masks masks f e same below = record {
    some = omega arith;
    few = omega arith;
    sites-are = λ b h. table-mask-is (get_or masks (b % block_count) 0) b (pair_at f b) e (same b h)
        (rw (mod-eq_of_lt h) (below b h));
  }

  -- ---- by what its mask gives
  pub shown-masked : table_mark_in (g marks_at) i ≡ false → shown ≡ placed masked_at
  shown-masked e = ap (λ (c : Choice). record { mask = byte (g (masks_at + i)); choice = c }) (chosen-masked (table_mark_in (g marks_at) i) (mark_in (g marks_at) i) (pairs_in t i) e)

  pub masked-enough : Usable shown → (q : Masked) → q ≡ masked_at → Enough q.mask
  masked-enough u q e = subst (λ (q : Masked). Enough q.mask) (sym e) u.enough

  -- what holds of the one holds of the other
  pub of-masked : (Q : Placement → Type 0) → table_mark_in (g marks_at) i ≡ false → (q : Masked) → q ≡ masked_at → Q (placed q) → Q shown
  of-masked Q e q same = subst Q (ap placed same ∙ sym (shown-masked e))
