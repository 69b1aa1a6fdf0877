-- What the rules take as given: ranges of numbers, sets of cards, placements with their sites, blocks of slots. The
-- rules, the plain record list and the theorem are over any of them; a cabinet gives one value. Assumes nothing.
use Rattle.std.specs.Prelude.{Bool, List, ℕ}
use Rattle.std.proofs.Math.Option.{Option}
use Rattle.method.specs.Slots.{Slot}
use Rattle.method.specs.ControlPart.{ControlPart}

pub record Parameters : Type 1 where
  pub Mask : Type 0
  pub Placement : Type 0
  pub Setting : Type 0
  pub Serial : Type 0
  pub Block : Type 0
  pub Stamp : Type 0
  pub StartArgument : Type 0
  pub PlaceArgument : Type 0
  -- ---- numbers
  -- cards are the numbers below this one, transactions some of those below the next, a block's slots those below the
  -- third
  pub cards : ℕ
  pub transactions : ℕ
  pub slots : ℕ
  -- how many copies a record has, and how many blocks there are
  pub copies : Setting → ℕ
  pub blocks : Setting → ℕ
  pub tran_in_range : ℕ → Bool
  pub rec_in_range : Setting → ℕ → Bool
  pub value_in_range : ℕ → Bool
  -- the block of a record, and its place there
  pub block_of : ℕ → ℕ
  pub place_of : ℕ → ℕ
  -- ---- sets of cards
  pub has : Mask → ℕ → Bool
  pub no_cards : Mask
  pub insert : Mask → ℕ → Mask
  pub remove : Mask → ℕ → Mask
  -- ---- placements
  pub mask : Placement → Mask
  -- the sites of a block, first site first
  pub sites : Setting → Placement → ℕ → List ℕ
  -- the placement that follows a failure of one of its cards
  pub without : Placement → ℕ → Placement
  -- what a placement must be for its sites to be different members
  pub usable : Setting → Placement → Type 0
  -- ---- the arguments of start and place: what they say, whether they are in range, and which of the rows 9 and up
  -- refuses them
  pub starts : StartArgument → Placement
  pub start_setting : StartArgument → Setting
  pub start_refusal : StartArgument → ℕ
  pub places : Placement → PlaceArgument → Placement
  pub place_in_range : PlaceArgument → Bool
  pub place_refusal : ControlPart Mask Placement Setting Serial → PlaceArgument → ℕ
  -- the most active placements that a place call leaves
  pub place_limit : Setting → ℕ
  -- ---- serials: the first placement's, and the one that follows; what the serial must be beside the placements
  pub first_serial : Serial
  pub next_serial : Serial → Serial
  pub numbered : ControlPart Mask Placement Setting Serial → Type 0
  -- ---- stamps: what a card keeps of the placements; none, and the one that a new placement writes to every working card
  pub no_stamp : Stamp
  pub stamp_of : ControlPart Mask Placement Setting Serial → Stamp
  pub same_stamp : Stamp → Stamp → Bool
  -- whether a stopped store still marks cards that fail (request A.7); else it refuses fail as it does other calls
  pub marks_while_stopped : Bool
  -- ---- blocks
  pub empty : Block
  pub fresh : Block
  pub held : Block → Bool
  pub slot : Block → ℕ → Slot
  -- the slot at a place locked by a transaction, with a pending state
  pub lock_slot : Block → ℕ → ℕ → Option ℕ → Block
  -- every slot that is locked by a transaction that f picks takes or drops its pending state
  pub end_slots : Bool → (ℕ → Bool) → Block → Block
