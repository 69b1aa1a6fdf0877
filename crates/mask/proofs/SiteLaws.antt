-- The sites of a block by any choice: two different members. Where the mask gives them this is a fact of the choice (MaskSites), where a table does
-- it is what is asked of its pairs. Assumes nothing.
use mathlib.Core.Path.{◌≡◌, refl, sym, ap, ◌∙◌}
use mathlib.Core.Logic.{◌⊎◌, inl, inr}
use mathlib.Core.Bool.{Bool, true, false, not, ◌&&◌, ◌||◌}
use mathlib.Core.List.{List, [], ◌∷◌}
use Prim.Native.Nat.{ℕ, suc, zero, ◌<◌}
use native.Mathlib.Omega.{arith}
use lib.Dec.{eqb}
use lib.ListN.{get_or, get_or-map, length}
use borrow.Author.Tests.{eqb-true}
use Rattle.lists.specs.Tests.{elem, distinct}
use Rattle.lists.specs.Tabulate.{tabulate}
use Rattle.lists.proofs.Bools.{tf, or_cases, or_l, or_r, and_l, and_r, eqb-self, not_is}
use Rattle.lists.proofs.Counts.{below_all}
use Rattle.image.specs.Layout.{block_count, card_count, copy_count}
use Rattle.image.specs.declared.Card.{Card}
use Rattle.mask.specs.Masks.{Byte, byte, has_card, members}
use Rattle.mask.specs.Pairs.{Pairs, are_pairs_of, first_card, is_pair_of, pair_at, pairs_byte, second_card, table_sites}
use Rattle.mask.specs.Placements.{AreSites, Choice, Enough, Masked, Placement, Usable, across_rails, by_rails, by_table, chained, chained_sites}
use Rattle.mask.specs.Placements.{choice_of, from_mask, is_by_rails, mask_sites, member_at, members_after, older_from_mask, on_both_rails, on_one_rail}
use Rattle.mask.specs.Placements.{on_two_rails, pairs_ok, placed, rail_sites, site_list, sites_of}
use Rattle.mask.proofs.Masks.{has-card}
use Rattle.mask.proofs.MaskSites.{pair_of}

-- ---- two sites, as the placement's own choice gives them
pub record TwoSites (p : Placement) (b : ℕ) : Type 0 where
  pub first : ℕ
  pub second : ℕ
  pub listed : sites_of p b ≡ first ∷ second ∷ []
  pub first_member : has_card p.mask first ≡ true
  pub second-member : has_card p.mask second ≡ true
  pub differ : eqb first second ≡ false
  pub two-rails : is_by_rails p.choice ≡ true → on_both_rails p.mask ≡ true → on_one_rail first second ≡ false

-- what a mask gives
pub placed-sites : (q : Masked) (b : ℕ) → sites_of (placed q) b ≡ mask_sites q b
unfolding sites_of mask_sites
placed-sites q b = go q.by_rails
  where
    go : (r : Bool) → sites_of (placed (record { mask = q.mask; by_rails = r })) b ≡ mask_sites (record { mask = q.mask; by_rails = r }) b
    go true = refl
    go false = refl

pub placed-usable : (q : Masked) → Enough q.mask → Usable (placed q)
placed-usable q u = record { enough = u; pairs = go q.by_rails }
  where
    go : (r : Bool) → pairs_ok q.mask (choice_of r) ≡ true
    go true = refl
    go false = refl

masked-sites : (q : Masked) (b : ℕ) → Enough q.mask → TwoSites (placed q) b
masked-sites q b u =
    let two = pair_of q b u in
    record {
      first = _;
      second = _;
      listed = placed-sites q b ∙ two.listed;
      first_member = two.first_member;
      second-member = two.second-member;
      differ = two.differ;
      two-rails = λ e both. two.two-rails (rails q.by_rails e) both;
    }
  where
    rails : (r : Bool) → is_by_rails (choice_of r) ≡ true → r ≡ true
    rails true e = refl
    rails false e = e

-- what a table gives
module _ (m : Byte) (x : Pairs) (b : ℕ) (pairs : are_pairs_of m x ≡ true) (h : b < block_count) where
  abbrev pair : ℕ
  pair = pair_at (pairs_byte x) b

  pub pair_ok : is_pair_of m pair ≡ true
  unfolding are_pairs_of
  pair_ok = below_all block_count (λ b. is_pair_of m (pair_at (pairs_byte x) b)) b pairs h

  pair-rest : (has_card m (second_card pair) && not (eqb (first_card pair) (second_card pair))) ≡ true
  unfolding is_pair_of
  pair-rest = and_r (has_card m (first_card pair)) _ pair_ok

  pub table-sites : TwoSites (record { mask = m; choice = by_table x }) b
  unfolding sites_of table_sites is_pair_of
  table-sites = record {
    first = first_card pair;
    second = second_card pair;
    listed = refl;
    first_member = and_l (has_card m (first_card pair)) _ pair_ok;
    second-member = and_l (has_card m (second_card pair)) _ pair-rest;
    differ = not_is (eqb (first_card pair) (second_card pair)) (and_r (has_card m (second_card pair)) _ pair-rest);
    two-rails = λ e both. tf false e refl;
  }

-- by any choice
pub two-sites : (p : Placement) (b : ℕ) → Usable p → b < block_count → TwoSites p b
two-sites p b u h = go p.choice u.pairs
  where
    go : (c : Choice) → pairs_ok p.mask c ≡ true → TwoSites (record { mask = p.mask; choice = c }) b
    go chained e = masked-sites (record { mask = p.mask; by_rails = false }) b u.enough
    go by_rails e = masked-sites (record { mask = p.mask; by_rails = true }) b u.enough
    go (by_table x) e = table-sites p.mask x b e h

-- ---- the laws of sites
pub site-count : (p : Placement) (b : ℕ) → length (sites_of p b) ≡ copy_count
unfolding sites_of rail_sites chained_sites table_sites
site-count p b = go p.choice
  where
    go : (c : Choice) → length (sites_of (record { mask = p.mask; choice = c }) b) ≡ copy_count
    go chained = refl
    go by_rails = refl
    go (by_table x) = refl

pub site-member : (p : Placement) (b c : ℕ) → Usable p → b < block_count → elem c (sites_of p b) ≡ true → has_card p.mask c ≡ true
site-member p b c u h e = go (or_cases (eqb c two.first) _ (rw two.listed at e))
  where
    two : TwoSites p b
    two = two-sites p b u h

    next : (eqb c two.second ≡ true) ⊎ (false ≡ true) → has_card p.mask c ≡ true
    next (inl q) = rw (eqb-true c two.second q) two.second-member
    next (inr q) = tf false q refl

    go : (eqb c two.first ≡ true) ⊎ ((eqb c two.second || false) ≡ true) → has_card p.mask c ≡ true
    go (inl q) = rw (eqb-true c two.first q) two.first_member
    go (inr q) = next (or_cases (eqb c two.second) false q)

pub site-distinct : (p : Placement) (b : ℕ) → Usable p → b < block_count → distinct (sites_of p b) ≡ true
site-distinct p b u h = let two = two-sites p b u h in rw (two.listed, two.differ)

-- ---- what is relied on: the list is all that must be shown
pub are-sites : (s : List Card) (p : Placement) (b : ℕ) → Usable p → b < block_count → sites_of p b ≡ site_list s → AreSites s p b
are-sites s p b u h is = record {
  listed = sym is;
  are-members = λ c e. site-member p b c u h (ap (elem c) is ∙ e);
  differ = ap distinct (sym is) ∙ site-distinct p b u h;
  two-rails = λ rails both. ap on_two_rails (sym is ∙ two.listed) ∙ crossing two.first two.second (two.two-rails rails both);
}
  where
    two : TwoSites p b
    two = two-sites p b u h

    crossing : (x y : ℕ) → on_one_rail x y ≡ false → on_two_rails (x ∷ y ∷ []) ≡ true
    crossing x y e = or_l _ _ (or_r (not (on_one_rail x x)) _ (or_l (not (on_one_rail x y)) false (ap not e)))

-- a site is a card
pub site-card : (p : Placement) (b c : ℕ) → Usable p → b < block_count → elem c (sites_of p b) ≡ true → c < card_count
site-card p b c u h e = has-card p.mask c (site-member p b c u h e)

-- a card of any list, and its number
pub site-number : (s : List Card) (i : ℕ) (d : Card) → (get_or s i d).0 ≡ get_or (site_list s) i d.0
site-number s i d = sym (get_or-map (λ (c : Card). c.0) s i d)

-- the cards of the list, one by one
module _ {s : List Card} {p : Placement} {b : ℕ} (at : AreSites s p b) where
  pub listed-long : length (site_list s) ≡ copy_count
  listed-long = ap length at.listed ∙ site-count p b

  pub listed_at : (i : ℕ) (d : Card) → (get_or s i d).0 ≡ get_or (sites_of p b) i d.0
  listed_at i d = site-number s i d ∙ ap (λ (l : List ℕ). get_or l i d.0) at.listed

  pub listed-card : (i : ℕ) (d : Card) → i < copy_count → (get_or s i d).0 < card_count
  listed-card i d h = has-card p.mask _ (at.are-members _ (rw (site-number s i d) (elem_at (site_list s) i d.0 (omega (arith, h, listed-long)))))
    where
      elem_at : (l : List ℕ) (i d : ℕ) → i < length l → elem (get_or l i d) l ≡ true
      elem_at [] i d h = absurd (omega arith)
      elem_at (x ∷ l) zero d h = or_l (eqb x x) (elem x l) (eqb-self x)
      elem_at (x ∷ l) (suc i) d h = or_r (eqb (get_or l i d) x) (elem (get_or l i d) l) (elem_at l i d (omega arith))

-- The marked examples M1 and M2, by both choices: under E0 hex block 1 lies at 1 and 2, block 2 at 2 and 0; under 81
-- hex block 63 lies at 7 and 0.
pub vector-m1 : (rails : Bool) → let p : Placement = placed (record { mask = byte 0xE0; by_rails = rails }) in (sites_of p 1 ≡ 1 ∷ 2 ∷ []) × (sites_of p 2 ≡ 2 ∷ 0 ∷ [])
unfolding sites_of rail_sites chained_sites across_rails members_after tabulate member_at members has_card
vector-m1 true = (refl, refl)
vector-m1 false = (refl, refl)

pub vector-m2 : (rails : Bool) → sites_of (placed (record { mask = byte 0x81; by_rails = rails })) 63 ≡ 7 ∷ 0 ∷ []
unfolding sites_of rail_sites chained_sites across_rails members_after tabulate member_at members has_card
vector-m2 true = refl
vector-m2 false = refl

-- Request A.1: under F0 hex, one rail, and under CC hex, both, block 0 lies at 0 and 1, and by rails at 0 and 4.
pub vector-rails : (sites_of (from_mask (byte 0xF0)) 0 ≡ 0 ∷ 1 ∷ [])
    × (sites_of (placed (older_from_mask (byte 0xCC))) 0 ≡ 0 ∷ 1 ∷ []) × (sites_of (from_mask (byte 0xCC)) 0 ≡ 0 ∷ 4 ∷ [])
unfolding sites_of rail_sites chained_sites across_rails members_after tabulate member_at members has_card
vector-rails = (refl, refl, refl)
