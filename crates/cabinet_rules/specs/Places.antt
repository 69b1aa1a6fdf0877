-- The arguments of start and place: the rows from 9 on. Assumes nothing.
use Rattle.std.specs.Prelude.{ℕ, eqb, leb, ltb, length, Bool, ◌&&◌, ◌||◌, false, not, true, List}
use Rattle.image.specs.Layout.{least_members, most_placed}
use Rattle.mask.specs.Masks.{Byte, is_within, size}
use Rattle.mask.specs.Placements.{Placement, from_mask, is_by_rails}
use Rattle.table_lines.specs.Lines.{are_lines, has_gap, has_overlap, lines_work, table_placement}
use Rattle.method.specs.ControlPart.{ControlPart, active}
use Rattle.method.specs.Rules.{row}
use Rattle.control.specs.ControlBytes.{Setting}
use Rattle.control.specs.Serials.{serial_limit}

-- start, place: 9 for a mask with fewer than two members.
unfoldable pub start_row : Byte → ℕ
start_row m = row 9 (ltb (size m) least_members) 0

-- place: 10 where three are active already; then 20 where no serial is left for a place (request A.7).
unfoldable pub placed_row : {A S : Type 0} → (S → Bool) → ControlPart Byte A Setting S → ℕ
placed_row spent k = row 10 (leb most_placed (length (active k))) (row 20 (spent k.serial) 0)

-- Serials that are never used up: those of deliveries without.
abbrev pub never_spent : {S : Type 0} → S → Bool
never_spent ν = false

-- place of a mask: 9 also for a member that does not work, and for the newest mask once more.
unfoldable pub place_rows : {A S : Type 0} → (A → Byte → Bool) → (S → Bool) → ControlPart Byte A Setting S → Byte → ℕ
place_rows is_again spent k m =
    row 9 (ltb (size m) least_members || (not (is_within m k.working) || is_again k.newest m)) (placed_row spent k)

-- ---- request A.6: a mask, or the lines of a table as lent bytes
pub data PlaceArgument : Type 0 where
  by_mask : Byte → PlaceArgument
  by_lines : List ℕ → PlaceArgument

-- A mask is placed by rails.
abbrev pub placement_of : PlaceArgument → Placement
placement_of (by_mask m) = from_mask m
placement_of (by_lines l) = table_placement l

-- Lines have a range; a mask has none.
abbrev pub argument_in_range : PlaceArgument → Bool
argument_in_range (by_mask m) = true
argument_in_range (by_lines l) = are_lines l

-- Place refuses the newest mask again where the newest placement is by rails: else it is placed anew, by rails.
abbrev pub again_by_rails : Placement → Byte → Bool
again_by_rails newest m = is_by_rails newest.choice && eqb m.0 newest.mask.0

-- place of a table: 9 for a line of equal cards or with one that does not work, 17 for a block in no line, 18 for one in
-- two. Its mask, the cards named, may be the newest again.
unfoldable pub table_rows : {S : Type 0} → (S → Bool) → ControlPart Byte Placement Setting S → List ℕ → ℕ
table_rows spent k l =
    row 9 (not (lines_work k.working l)) (row 17 (has_gap l) (row 18 (has_overlap l) (placed_row spent k)))

abbrev pub argument_rows : {S : Type 0} → (S → Bool) → ControlPart Byte Placement Setting S → PlaceArgument → ℕ
argument_rows spent k (by_mask m) = place_rows again_by_rails spent k m
argument_rows spent k (by_lines l) = table_rows spent k l

-- ---- request A.7: no serial is left for a place from this one on, so that failures still find one
abbrev pub is_spent : ℕ → Bool
is_spent ν = leb serial_limit ν
