-- What the deliveries of this cabinet differ in, and the one in force. Assumes nothing.
use Rattle.std.specs.Prelude.{◌+◌, ◌≤◌, suc, ℕ, ltb, length, Bool, true, List}
use Rattle.image.specs.Layout.{Layout, layout as current_layout}
use Rattle.mask.specs.Masks.{Byte, size}
use Rattle.mask.specs.Placements.{Placement, Usable, from_mask, sites_of}
use Rattle.method.specs.ControlPart.{ControlPart}
use Rattle.control.specs.ControlBytes.{Part, Serial, Setting, control_byte, control_of, tail_byte}
use Rattle.control.specs.Serials.{first_serial, serial_most}
use Rattle.control.specs.Stamps.{Stamp, no_stamp, same_stamp, stamp_byte, stamp_in, stamp_of}
use Rattle.control_form.specs.ControlForm.{form_ok}
use Rattle.cabinet_rules.specs.Places.{PlaceArgument, argument_in_range, argument_rows, is_spent, placement_of}

-- How an image keeps a store: the layout, the control bytes that are written, at the front and behind the tables, the
-- control part that such bytes show, and their control form.
pub record Memory (Placement Serial : Type 0) : Type 1 where
  pub layout : Layout
  pub bytes : ControlPart Byte Placement Setting Serial → ℕ → ℕ
  pub tail : ControlPart Byte Placement Setting Serial → ℕ → ℕ
  pub part : (ℕ → ℕ) → (ℕ → ℕ) → ControlPart Byte Placement Setting Serial
  pub form : (ℕ → ℕ) → (ℕ → ℕ) → Bool
  -- the stamp of a card, as the bytes behind its blocks keep and show it
  pub Stamp : Type 0
  pub no_stamp : Stamp
  pub stamp_of : ControlPart Byte Placement Setting Serial → Stamp
  pub stamp_bytes : Stamp → ℕ → ℕ
  pub stamp_in : (ℕ → ℕ) → Stamp
  pub same_stamp : Stamp → Stamp → Bool

pub record Delivery : Type 1 where
  pub Placement : Type 0
  -- the cards of a placement, and the sites of a block, first site first
  pub mask : Placement → Byte
  pub sites : Placement → ℕ → List ℕ
  -- what a placement must be for its sites to be different members
  pub usable : Placement → Type 0
  -- the placement that start and fail make of a mask
  pub from_mask : Byte → Placement
  -- the serial of the first placement, of the one that follows, and what it must be beside the placements
  pub Serial : Type 0
  pub first_serial : Serial
  pub next_serial : Serial → Serial
  pub numbered : ControlPart Byte Placement Setting Serial → Type 0
  -- the argument of place: what it makes beside the newest placement, whether it is in range, the rows from 9 on
  pub PlaceArgument : Type 0
  pub places : Placement → PlaceArgument → Placement
  pub place_in_range : PlaceArgument → Bool
  pub place_refusal : ControlPart Byte Placement Setting Serial → PlaceArgument → ℕ
  -- whether a stopped store still marks cards that fail; else it refuses fail 4
  pub marks_while_stopped : Bool
  -- the values that store takes; others are refused 3
  pub value_in_range : ℕ → Bool
  pub memory : Memory Placement Serial

-- Its control part.
abbrev pub PartOf : Delivery → Type 0
PartOf D = ControlPart Byte D.Placement Setting D.Serial

-- ---- A.5: the values that store takes
-- New feeder drives read this value as a broken wire, and store takes the values below it.
abbrev pub broken_wire : ℕ
broken_wire = 65535

abbrev pub storable : ℕ → Bool
storable n = ltb n broken_wire

-- ---- A.7, the delivery in force
-- The control bytes are those of the code, before and behind the tables, and so are the four bytes of a card's stamp.
abbrev pub stamp_memory : Memory Placement Serial
stamp_memory = record {
  layout = current_layout;
  bytes = control_byte;
  tail = tail_byte;
  part = control_of;
  form = form_ok;
  Stamp = Stamp;
  no_stamp = no_stamp;
  stamp_of = stamp_of;
  stamp_bytes = stamp_byte;
  stamp_in = stamp_in;
  same_stamp = same_stamp;
}

-- What the control form asks of the serial.
pub record Numbered (k : Part) : Type 0 where
  pub counted : suc (length k.older) ≤ k.serial
  pub few : k.serial + size k.newest.mask ≤ serial_most

-- Sites are by the placement's own choice. Start and fail place by rails; place does so with a mask, and by table with
-- lines. A store that stopped marks cards that fail, and goes on with cards that are returned.
abbrev pub resuming : Delivery
resuming = record {
  Placement = Placement;
  mask = λ p. p.mask;
  sites = sites_of;
  usable = Usable;
  from_mask = from_mask;
  Serial = Serial;
  first_serial = first_serial;
  next_serial = suc;
  numbered = Numbered;
  PlaceArgument = PlaceArgument;
  places = λ newest a. placement_of a;
  place_in_range = argument_in_range;
  place_refusal = argument_rows is_spent;
  marks_while_stopped = true;
  value_in_range = storable;
  memory = stamp_memory;
}

abbrev pub current : Delivery
current = resuming
