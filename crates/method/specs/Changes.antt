-- The changes of the control part by start and fail, which the rules and the plain record list share. Assumes nothing.
use Rattle.std.specs.Prelude.{ℕ, cond}
use Rattle.method.specs.ControlPart.{ControlPart, added, begun_at, closed, started, with_cards}
use Rattle.method.specs.Parameters.{Parameters}

module _ (P : Parameters) where
  open P use {Mask, Placement, Setting, StartArgument, has, no_cards, insert, remove, mask, without, starts}
  open P use {Serial, start_setting, first_serial, next_serial}

  abbrev pub Control : Type 0
  Control = ControlPart Mask Placement Setting Serial

  -- start: these cards work and are the one placement.
  abbrev pub started_by : StartArgument → Control
  started_by a = started (starts a) (mask (starts a)) no_cards (start_setting a) first_serial

  -- The card no longer works and is marked failed.
  abbrev pub marked : Control → ℕ → Control
  marked k c = with_cards k (remove k.working c) (insert k.failed c)

  -- The placement becomes the newest, and has the next serial.
  abbrev pub added_by : Control → Placement → Control
  added_by k p = added k p (next_serial k.serial)

  -- fail, the store goes on: transactions begun there close, and if the card was in the newest placement one without
  -- it is added.
  abbrev pub replaced : Control → ℕ → Control
  replaced k c =
      cond (has (mask k.newest) c)
      (added_by (closed (marked k c) (begun_at k c)) (without k.newest c))
      (closed (marked k c) (begun_at k c))
