-- The sites of the blocks of a placement, as masks. Assumes nothing.
use Rattle.std.specs.Prelude.{drop, get_or, Bool, List, ◌≡◌, ℕ, ◌%◌, ◌<◌, ◌≤◌}
use Rattle.image.specs.Layout.{block_count}
use Rattle.mask.specs.Masks.{AreMembers, byte, members}
use Rattle.mask.specs.Placements.{Placement, is_site}

-- The mask r is of the sites of block i, where the members from number i on are left.
abbrev pub SitesFrom : Placement → ℕ → ℕ → Type 0
SitesFrom p left r = (i : ℕ) → members (byte left) ≡ drop i (members p.mask) → AreMembers r (is_site p i)

-- Of each of the first n blocks the mask in the list is of the cards that f picks.
abbrev pub MasksBelow : (ℕ → ℕ → Bool) → List ℕ → ℕ → Type 0
MasksBelow f masks n = (b : ℕ) → b < n → AreMembers (get_or masks b 0) (f b)

-- A list of masks for the blocks, whatever the kind of placement: n of them, after which the sites come again. The mask
-- of block b, at b mod n, is of its sites.
pub record SitesIn (masks : List ℕ) (n : ℕ) (p : Placement) : Type 0 where
  pub some : 0 < n
  pub few : n ≤ block_count
  pub sites-are : (b : ℕ) → b < block_count → AreMembers (get_or masks (b % n) 0) (is_site p b)
