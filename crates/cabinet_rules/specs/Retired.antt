-- Deliveries whose memory a later one replaced, written over it: A.6, which A.7 retired, A.1 to A.5, which A.6 retired, and
-- the base, which A.1 retired. Assumes nothing.
use Rattle.std.specs.Prelude.{◌-◌, ◌≤◌, ℕ, eqb, leb, ltb, Bool, ◌&&◌, cond, false, true}
use Rattle.lists.specs.Tests.{all_below}
use Rattle.image.specs.Layout.{Layout, control_size, copy_count, most_active, tail_size, value_bound}
use Rattle.mask.specs.Masks.{Byte, size}
use Rattle.mask.specs.Placements.{Enough, Masked, Placement, Usable, chained_sites, from_mask, is_by_rails, mask_sites, older_from_mask}
use Rattle.mask.specs.Placements.{placed, sites_of}
use Rattle.method.specs.ControlPart.{ControlPart, part_by}
use Rattle.control.specs.ControlBytes.{Serial, Setting, marks_at, serial_at, serial_end}
use Rattle.control.specs.Serials.{serial_byte}
use Rattle.cabinet_rules.specs.Delivery.{Delivery, Memory, stamp_memory, storable}
use Rattle.cabinet_rules.specs.Places.{PlaceArgument, argument_in_range, argument_rows, never_spent, place_rows, placement_of}

-- Nothing lies behind the blocks of a table, nor behind the tables.
abbrev pub bare : Layout
bare = record { table_tail = 0; image_tail = 0 }

-- ---- a memory that a later one replaced
-- The later memory is M. It tells older placements and serials by older and older_serial, and back and back_serial give
-- them again. It added some bytes to the front of the control part; those that a retired control part is told with there
-- are filled. The layout is the older one, and behind says what M is shown behind the tables for what lay there.
pub record Retirement (A S B T : Type 0) : Type 0 where
  pub layout : Layout
  pub older : A → B
  pub older_serial : S → T
  pub back : B → A
  pub back_serial : T → S
  pub added : ℕ → Bool
  pub filled : ℕ → ℕ
  pub behind : (ℕ → ℕ) → ℕ → ℕ

module _ {A S B T : Type 0} (M : Memory B T) (R : Retirement A S B T) where
  -- What its control part is now.
  abbrev pub now_part : ControlPart Byte A Setting S → ControlPart Byte B Setting T
  now_part = part_by R.older (λ σ. σ) R.older_serial

  -- The control bytes that it wrote: those that M writes of that, and zero in those added.
  abbrev pub retired_bytes : ControlPart Byte A Setting S → ℕ → ℕ
  retired_bytes k n = cond (R.added n) 0 (M.bytes (now_part k) n)

  -- What M is shown in their place; the control part that this shows.
  abbrev pub shown_bytes : (ℕ → ℕ) → ℕ → ℕ
  shown_bytes g n = cond (R.added n) (R.filled n) (g n)

  abbrev pub retired_part : (ℕ → ℕ) → (ℕ → ℕ) → ControlPart Byte A Setting S
  retired_part g t = part_by R.back (λ σ. σ) R.back_serial (M.part (shown_bytes g) (R.behind t))

  -- It has M's form, and the bytes are those that were written of that control part.
  unfoldable pub retired_form : (ℕ → ℕ) → (ℕ → ℕ) → Bool
  retired_form g t =
      M.form (shown_bytes g) (R.behind t) && all_below control_size (λ n. eqb (g n) (retired_bytes (retired_part g t) n))

  -- It has no stamps.
  abbrev pub retired : Memory A S
  retired = record {
    layout = R.layout;
    bytes = retired_bytes;
    tail = λ k. M.tail (now_part k);
    part = retired_part;
    form = retired_form;
    Stamp = Unit {0};
    no_stamp = tt;
    stamp_of = λ k. tt;
    stamp_bytes = λ m j. 0;
    stamp_in = λ g. tt;
    same_stamp = λ m n. true;
  }

-- ---- before A.7
-- Nothing lay behind the blocks of a table; behind the tables were the pairs, as they are now.
abbrev pub pairs_behind : Layout
pairs_behind = record { table_tail = 0; image_tail = tail_size }

-- Placements had no serial.
abbrev pub NoSerial : Type 0
NoSerial = Unit {0}

-- A.7 tells a control part of before with this one: no fewer than placements can be active.
abbrev pub converted_serial : ℕ
converted_serial = most_active

abbrev pub before_stamps : Retirement Placement NoSerial Placement Serial
before_stamps = record {
  layout = pairs_behind;
  older = λ p. p;
  older_serial = λ ν. converted_serial;
  back = λ p. p;
  back_serial = λ ν. tt;
  added = λ n. leb serial_at n && ltb n serial_end;
  filled = λ n. serial_byte converted_serial (n - serial_at);
  behind = λ t. t;
}

abbrev pub table_memory : Memory Placement NoSerial
table_memory = retired stamp_memory before_stamps

-- A.6: sites are by the placement's own choice. A stopped store refuses all but a start.
abbrev pub by_tables : Delivery
by_tables = record {
  Placement = Placement;
  mask = λ p. p.mask;
  sites = sites_of;
  usable = Usable;
  from_mask = from_mask;
  Serial = NoSerial;
  first_serial = tt;
  next_serial = λ ν. tt;
  numbered = λ k. Unit {0};
  PlaceArgument = PlaceArgument;
  places = λ newest a. placement_of a;
  place_in_range = argument_in_range;
  place_refusal = argument_rows never_spent;
  marks_while_stopped = false;
  value_in_range = storable;
  memory = table_memory;
}

-- ---- before A.6
-- Nothing lay behind the blocks of a table, nor behind the tables, and no placement was by table. A.6 added no byte before
-- the tables: the marks for tables were zero bits.
abbrev pub before_tables : Retirement Masked NoSerial Placement NoSerial
before_tables = record {
  layout = bare;
  older = placed;
  older_serial = λ ν. ν;
  back = λ p. record { mask = p.mask; by_rails = is_by_rails p.choice };
  back_serial = λ ν. ν;
  added = λ n. false;
  filled = λ n. 0;
  behind = λ t n. 0;
}

abbrev pub rail_memory : Memory Masked NoSerial
rail_memory = retired table_memory before_tables

-- Place refused the newest mask again where that placement was marked 1: it could be placed anew by rails.
abbrev pub again_marked : Masked → Byte → Bool
again_marked newest m = newest.by_rails && eqb m.0 newest.mask.0

-- A.1 to A.5: sites are by the placement's mark, and start, place and fail write 1; store takes the values given here.
abbrev pub railed : (ℕ → Bool) → Delivery
railed values = record {
  Placement = Masked;
  mask = λ q. q.mask;
  sites = mask_sites;
  usable = λ q. Enough q.mask;
  from_mask = λ m. record { mask = m; by_rails = true };
  Serial = NoSerial;
  first_serial = tt;
  next_serial = λ ν. tt;
  numbered = λ k. Unit {0};
  PlaceArgument = Byte;
  places = λ newest m. record { mask = m; by_rails = true };
  place_in_range = λ m. true;
  place_refusal = place_rows again_marked never_spent;
  marks_while_stopped = false;
  value_in_range = values;
  memory = rail_memory;
}

-- A.5: store takes the values below the broken wire's.
abbrev pub below_wire : Delivery
below_wire = railed storable

-- A.1 to A.4: every value that a slot has room for.
abbrev pub any_value : ℕ → Bool
any_value n = ltb n value_bound

abbrev pub two_rails : Delivery
two_rails = railed any_value

-- ---- the base: the rules before the first request
-- A.1 added the marks, and tells the base's placements with none.
abbrev pub before_marks : Retirement Byte NoSerial Masked NoSerial
before_marks = record {
  layout = bare;
  older = older_from_mask;
  older_serial = λ ν. ν;
  back = λ p. p.mask;
  back_serial = λ ν. ν;
  added = λ n. eqb n marks_at;
  filled = λ n. 0;
  behind = λ t n. 0;
}

-- A placement comes from its mask alone, and its sites are chained.
abbrev pub base : Delivery
base = record {
  Placement = Byte;
  mask = λ m. m;
  sites = chained_sites;
  usable = λ m. copy_count ≤ size m;
  from_mask = λ m. m;
  Serial = NoSerial;
  first_serial = tt;
  next_serial = λ ν. tt;
  numbered = λ k. Unit {0};
  PlaceArgument = Byte;
  places = λ newest m. m;
  place_in_range = λ m. true;
  place_refusal = place_rows (λ newest m. eqb m.0 newest.0) never_spent;
  marks_while_stopped = false;
  value_in_range = any_value;
  memory = retired rail_memory before_marks;
}
