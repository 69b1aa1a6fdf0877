-- The end of transactions in the tables of an image, and sets of transactions. Assumes nothing.
use Rattle.std.specs.Prelude.{◌≡◌, ◌<◌, ◌^◌, ℕ, Bool, ◌&&◌, cond, List}
use Rattle.std.proofs.Math.Option.{Option, none, some}
use Rattle.lists.specs.Segments.{each}
use Rattle.lists.specs.Tests.{sum_below}
use Rattle.image.specs.Layout.{block_count, block_size, tran_bound}
use Rattle.mask.specs.Masks.{Byte, has_card}
use Rattle.slot.specs.Blocks.{end_slots, ended_block, is_held}
use Rattle.control.specs.ControlBytes.{home_in}
use Rattle.cabinet_rules.specs.Images.{Image, Writes, block_in}

-- On the cards of a mask, in all held blocks, slots locked by the transactions that f picks take or drop the pending
-- state.
unfoldable pub end_writes : Byte → Bool → (ℕ → Bool) → Image → Writes
end_writes working take f g c b =
    cond (has_card working c && is_held (block_in g c b)) (some (end_slots take f (block_in g c b))) none

-- The same of the bytes of one table, and of a card's table, if the card is on.
unfoldable pub ended_table : Bool → (ℕ → Bool) → List ℕ → List ℕ
ended_table take f table = each (λ b. ended_block take f) 0 block_size block_count table

abbrev pub ended_on : Bool → Bool → (ℕ → Bool) → List ℕ → List ℕ
ended_on on take f table = cond on (ended_table take f table) table

-- The set, as a number, of the transactions below n that f picks: bit t is 1 where f picks t.
abbrev pub set_below : ℕ → (ℕ → Bool) → ℕ
set_below n f = sum_below n (λ t. cond (f t) (2 ^ t) 0)

-- The set of all transactions that f picks.
unfoldable pub set_of : (ℕ → Bool) → ℕ
set_of f = set_below tran_bound f

-- A test of a transaction's byte may be asked of every byte, and answers what f says of its home.
abbrev pub TestsHomes : (Option ℕ → Bool) → (ℕ → Type 0) → (ℕ → Bool → Type 0) → Type 0
TestsHomes f pre post = (b : ℕ) → b < 256 → pre b × ((r : Bool) → post b r → r ≡ f (home_in b))
