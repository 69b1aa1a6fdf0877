-- Placements and the sites of a block: RULES, "Sites, trail, holders". Assumes nothing.
use Rattle.std.specs.Prelude.{◌≡◌, Bool, true, false, not, ◌&&◌, cond, List, [], ◌∷◌, map, ℕ, ◌+◌, ◌-◌, ◌/◌, ◌%◌, ◌≤◌, eqb, ltb, length, get_or}
use Rattle.lists.specs.Tests.{any_in, any_below, distinct, elem, keep_if}
use Rattle.lists.specs.Tabulate.{tabulate}
use Rattle.image.specs.Layout.{card_count, least_members, rail_size}
use Rattle.image.specs.declared.Card.{Card}
use Rattle.mask.specs.declared.Placement.{Placement as Struct}
use Rattle.mask.specs.Masks.{Byte, byte, has_card, members, size}
use Rattle.mask.specs.Pairs.{Pairs, are_pairs_of, no_pairs, table_sites}

-- Member number i, in rising order and going round.
unfoldable pub member_at : Byte → ℕ → ℕ
member_at m i = get_or (members m) (i % length (members m)) 0

-- ---- the base's choice of sites
-- The members with the block's number and the next, going round.
unfoldable pub chained_sites : Byte → ℕ → List ℕ
chained_sites m b = member_at m b ∷ member_at m (b + 1) ∷ []

-- ---- the choice by rails
-- Cards 0 to 3 hang on one supply rail and 4 to 7 on the other.
abbrev pub rail_of : ℕ → ℕ
rail_of c = c / rail_size

abbrev pub on_one_rail : ℕ → ℕ → Bool
on_one_rail a c = eqb (rail_of a) (rail_of c)

-- The cards that are not on the rail of card c, as a mask.
unfoldable pub other_rail : ℕ → ℕ
other_rail c = cond (ltb c rail_size) 0x0F 0xF0

-- The rail has a member; both rails have.
abbrev pub has_on_rail : Byte → ℕ → Bool
has_on_rail m rail = any_below card_count (λ c. has_card m c && eqb (rail_of c) rail)

unfoldable pub on_both_rails : Byte → Bool
on_both_rails m = has_on_rail m 0 && has_on_rail m 1

-- The members after member number i, going round.
unfoldable pub members_after : Byte → ℕ → List ℕ
members_after m i = tabulate (length (members m) - 1) (λ j. member_at m (i + 1 + j))

-- The second site: going round from the first, the nearest member on the other rail; the next member where that rail
-- has none.
unfoldable pub across_rails : Byte → ℕ → ℕ
across_rails m b = get_or (keep_if (λ c. not (on_one_rail (member_at m b) c)) (members_after m b)) 0 (member_at m (b + 1))

unfoldable pub rail_sites : Byte → ℕ → List ℕ
rail_sites m b = member_at m b ∷ across_rails m b ∷ []

-- ---- what its mask gives
-- A mask, and whether sites are chosen by rails or as the base does.
pub record Masked : Type 0 where
  pub mask : Byte
  pub by_rails : Bool

-- Its sites of a block.
unfoldable pub mask_sites : Masked → ℕ → List ℕ
mask_sites q b = cond q.by_rails (rail_sites q.mask b) (chained_sites q.mask b)

-- As many members as copies.
abbrev pub Enough : Byte → Type 0
Enough m = least_members ≤ size m

-- What the code's struct means.
abbrev pub meant : Struct → Masked
meant s = record { mask = byte s.mask; by_rails = s.rails }

-- ---- placements
-- How the sites are chosen: as the base does, by rails, or by table with its pairs.
pub data Choice : Type 0 where
  chained : Choice
  by_rails : Choice
  by_table : Pairs → Choice

-- A mask, and the choice.
pub record Placement : Type 0 where
  pub mask : Byte
  pub choice : Choice

-- What a mask gives is a placement of one of the first two kinds.
abbrev pub choice_of : Bool → Choice
choice_of true = by_rails
choice_of false = chained

abbrev pub placed : Masked → Placement
placed q = record { mask = q.mask; choice = choice_of q.by_rails }

-- What start, place and fail make of a mask is by rails.
abbrev pub from_mask : Byte → Placement
from_mask m = record { mask = m; choice = by_rails }

-- The base's placement of a mask.
abbrev pub older_from_mask : Byte → Masked
older_from_mask m = record { mask = m; by_rails = false }

-- Its marks in the control part: by rails; by table.
abbrev pub is_by_rails : Choice → Bool
is_by_rails chained = false
is_by_rails by_rails = true
is_by_rails (by_table x) = false

abbrev pub is_by_table : Choice → Bool
is_by_table chained = false
is_by_table by_rails = false
is_by_table (by_table x) = true

-- The sites of a block, by the placement's own choice.
abbrev pub chosen_sites : Choice → Byte → ℕ → List ℕ
chosen_sites chained m b = chained_sites m b
chosen_sites by_rails m b = rail_sites m b
chosen_sites (by_table x) m b = table_sites x b

unfoldable pub sites_of : Placement → ℕ → List ℕ
sites_of p b = chosen_sites p.choice p.mask b

-- Card c is a site of block b.
abbrev pub is_site : Placement → ℕ → ℕ → Bool
is_site p b c = elem c (sites_of p b)

-- The pair of every block is two different members, where sites are by table.
abbrev pub pairs_ok : Byte → Choice → Bool
pairs_ok m chained = true
pairs_ok m by_rails = true
pairs_ok m (by_table x) = are_pairs_of m x

-- As many members as copies, and such pairs.
pub record Usable (p : Placement) : Type 0 where
  pub enough : Enough p.mask
  pub pairs : pairs_ok p.mask p.choice ≡ true

-- ---- the placement without its pairs: what the bytes before the tables tell of it
abbrev pub pairless_choice : Choice → Choice
pairless_choice chained = chained
pairless_choice by_rails = by_rails
pairless_choice (by_table x) = by_table no_pairs

abbrev pub pairless : Placement → Placement
pairless p = record { mask = p.mask; choice = pairless_choice p.choice }

-- ---- what whoever asks for the sites of a block may rely on
-- The numbers of the code's cards.
abbrev pub site_list : List Card → List ℕ
site_list s = map (λ c. c.0) s

-- Two of the cards are on different rails.
abbrev pub on_two_rails : List ℕ → Bool
on_two_rails l = any_in (λ c. any_in (λ d. not (on_one_rail c d)) l) l

-- The listed cards are the sites of the block, in the rules' order: different members, and for a placement by rails on
-- two rails whenever both have members.
pub record AreSites (s : List Card) (p : Placement) (b : ℕ) : Type 0 where
  pub listed : site_list s ≡ sites_of p b
  pub are-members : (c : ℕ) → elem c (site_list s) ≡ true → has_card p.mask c ≡ true
  pub differ : distinct (site_list s) ≡ true
  pub two-rails : is_by_rails p.choice ≡ true → on_both_rails p.mask ≡ true → on_two_rails (site_list s) ≡ true
