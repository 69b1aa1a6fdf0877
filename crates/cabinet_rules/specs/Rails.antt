-- What two supply rails give a settled store: the statement. Assumes nothing.
use Rattle.std.specs.Prelude.{◌<◌, ℕ, true, ◌≡◌}
use Rattle.image.specs.Layout.{block_count, card_count}
use Rattle.mask.specs.Placements.{Usable, is_by_rails, on_both_rails, rail_of}
use Rattle.slot.specs.Blocks.{is_held}
use Rattle.method.specs.Rules.{View, settled}
use Rattle.control.specs.ControlBytes.{Part}
use Rattle.cabinet_rules.specs.Cabinet.{cabinet}

-- Where settle's condition is met and the newest placement is by rails, with members on both rails, every block that
-- any card holds is held on each rail: the loss of one supply leaves a copy of every record.
unfoldable pub CopyOnEachRail : Type 0
CopyOnEachRail = (k : Part) (v : View cabinet) → settled cabinet k v ≡ true → Usable k.newest
    → is_by_rails k.newest.choice ≡ true
    → on_both_rails k.newest.mask ≡ true
    → (b c : ℕ) → b < block_count → c < card_count → is_held (v c b) ≡ true
    → (rail : ℕ) → rail < 2 → (x : ℕ) × (rail_of x ≡ rail) × (is_held (v x b) ≡ true)
