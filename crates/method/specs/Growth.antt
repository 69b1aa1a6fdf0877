-- Demand 3 where the list of calls goes on under a later paper: what such a paper may change, what an older store is
-- then, and the statement. Assumes nothing.
use Rattle.std.specs.Prelude.{ℕ, Bool, List, ◌≡◌}
use Rattle.method.specs.Changes.{Control}
use Rattle.method.specs.ControlPart.{ControlPart, part_by}
use Rattle.method.specs.OneRecordList.{NoStop, Noise, calls_of, plain_after, rules_after, run_plain, run_store, state_after, zeroed}
use Rattle.method.specs.Parameters.{Parameters}
use Rattle.method.specs.PlainList.{PlainList, plain_start}
use Rattle.method.specs.Rules.{Call, State, answer_of, next_state, ok, start}

-- ---- what a later paper changes
pub record Growth (P : Parameters) : Type 1 where
  -- the kinds of placement, of setting, and of argument of start and place
  pub Placement : Type 0
  pub Setting : Type 0
  pub Stamp : Type 0
  pub Serial : Type 0
  pub StartArgument : Type 0
  pub PlaceArgument : Type 0
  -- how many copies and blocks a setting has, and which records and values are in range
  pub copies : Setting → ℕ
  pub blocks : Setting → ℕ
  pub rec_in_range : Setting → ℕ → Bool
  pub value_in_range : ℕ → Bool
  -- the cards of a placement, the sites of a block, the placement after a failure, and what a placement must be
  pub mask : Placement → Parameters.Mask P
  pub sites : Setting → Placement → ℕ → List ℕ
  pub without : Placement → ℕ → Placement
  pub usable : Setting → Placement → Type 0
  -- what the arguments of start and place say, and when they are refused
  pub starts : StartArgument → Placement
  pub start_setting : StartArgument → Setting
  pub start_refusal : StartArgument → ℕ
  pub places : Placement → PlaceArgument → Placement
  pub place_in_range : PlaceArgument → Bool
  pub place_refusal : ControlPart (Parameters.Mask P) Placement Setting Serial → PlaceArgument → ℕ
  -- the most active placements that a place call leaves
  pub place_limit : Setting → ℕ
  -- serials, and the stamps of cards
  pub first_serial : Serial
  pub next_serial : Serial → Serial
  pub numbered : ControlPart (Parameters.Mask P) Placement Setting Serial → Type 0
  pub no_stamp : Stamp
  pub stamp_of : ControlPart (Parameters.Mask P) Placement Setting Serial → Stamp
  pub same_stamp : Stamp → Stamp → Bool
  -- whether a stopped store still marks cards that fail
  pub marks_while_stopped : Bool
  -- what a placement, a setting and a serial from before the paper are now
  pub older : Parameters.Placement P → Placement
  pub older_setting : Parameters.Setting P → Setting
  pub older_serial : Parameters.Serial P → Serial
  -- what becomes of the stamps beside the control part as it is now
  pub older_stamps : ControlPart (Parameters.Mask P) Placement Setting Serial → (ℕ → Parameters.Stamp P) → ℕ → Stamp

-- The parameters under the later paper: all that it does not change stays.
abbrev pub grown : (P : Parameters) → Growth P → Parameters
grown P G = record {
  Mask = Parameters.Mask P;
  Placement = G.Placement;
  Setting = G.Setting;
  Block = Parameters.Block P;
  Stamp = G.Stamp;
  Serial = G.Serial;
  first_serial = G.first_serial;
  next_serial = G.next_serial;
  numbered = G.numbered;
  no_stamp = G.no_stamp;
  stamp_of = G.stamp_of;
  same_stamp = G.same_stamp;
  marks_while_stopped = G.marks_while_stopped;
  StartArgument = G.StartArgument;
  PlaceArgument = G.PlaceArgument;
  cards = Parameters.cards P;
  transactions = Parameters.transactions P;
  slots = Parameters.slots P;
  copies = G.copies;
  blocks = G.blocks;
  tran_in_range = Parameters.tran_in_range P;
  rec_in_range = G.rec_in_range;
  value_in_range = G.value_in_range;
  block_of = Parameters.block_of P;
  place_of = Parameters.place_of P;
  has = Parameters.has P;
  no_cards = Parameters.no_cards P;
  insert = Parameters.insert P;
  remove = Parameters.remove P;
  mask = G.mask;
  sites = G.sites;
  without = G.without;
  usable = G.usable;
  starts = G.starts;
  start_setting = G.start_setting;
  start_refusal = G.start_refusal;
  places = G.places;
  place_in_range = G.place_in_range;
  place_refusal = G.place_refusal;
  place_limit = G.place_limit;
  empty = Parameters.empty P;
  fresh = Parameters.fresh P;
  held = Parameters.held P;
  slot = Parameters.slot P;
  lock_slot = Parameters.lock_slot P;
  end_slots = Parameters.end_slots P;
}

-- ---- what an older store is under the later paper
module _ (P : Parameters) (G : Growth P) where
  -- A control part: each of its placements, and its setting, is what it is now.
  abbrev pub grown_control : Control P → Control (grown P G)
  grown_control = part_by G.older G.older_setting G.older_serial

  -- A state: no block changes.
  abbrev pub grown_state : State P → State (grown P G)
  grown_state s = record {
    control = grown_control s.control;
    block = s.block;
    stamp = G.older_stamps (grown_control s.control) s.stamp;
  }

  -- A plain record list: no record changes.
  abbrev pub grown_plain : PlainList P → PlainList (grown P G)
  grown_plain q = record { records = q.records; control = grown_control q.control }

-- DEMAND 3, going on. After an accepted start on memory of any contents come any calls of before the paper, none of
-- which stops the store, and then any calls under the paper: these the store answers as the plain record list does
-- that was fed all of them.
unfoldable pub GoesOn : (P : Parameters) → Growth P → Type 0
GoesOn P G = (a : Parameters.StartArgument P) (before : State P) → answer_of P (start a) before ≡ ok
    → (l : List (Noise P × Call P)) → NoStop P l (next_state P (start a) before)
    → (m : List (Noise (grown P G) × Call (grown P G)))
    → run_store (grown P G) m (grown_state P G (state_after P l (next_state P (start a) before)))
    ≡ run_plain (grown P G) (calls_of (grown P G) m) (grown_state P G (rules_after P (calls_of P l) (zeroed P a)))
    (grown_plain P G (plain_after P (calls_of P l) (zeroed P a) (plain_start P a)))
