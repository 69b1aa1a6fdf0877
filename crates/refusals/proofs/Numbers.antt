-- No refusal has the number 0, which stands for none: a case a refusal. Assumes nothing.
use mathlib.Core.Logic.{◌≢◌}
use native.Mathlib.Omega.{arith}
use Rattle.refusals.specs.Refusals.{number}
use Rattle.refusals.specs.declared.Refusal.{Refusal}
use Rattle.refusals.specs.declared.Refusal.TheVariants.{Length, ControlForm, Range, Stopped, NotOpen, AlreadyOpen, Locked, Card}
use Rattle.refusals.specs.declared.Refusal.TheVariants.{Placement, Active, NotHeld, CopyLocked, Unsettled, Home, Malformed}
use Rattle.refusals.specs.declared.Refusal.TheVariants.{List, Gap, Overlap, Stale, Serials}

pub not-none : (r : Refusal) → number r ≢ 0
not-none Length e = absurd (omega (arith, e))
not-none ControlForm e = absurd (omega (arith, e))
not-none Range e = absurd (omega (arith, e))
not-none Stopped e = absurd (omega (arith, e))
not-none NotOpen e = absurd (omega (arith, e))
not-none AlreadyOpen e = absurd (omega (arith, e))
not-none Locked e = absurd (omega (arith, e))
not-none Card e = absurd (omega (arith, e))
not-none Placement e = absurd (omega (arith, e))
not-none Active e = absurd (omega (arith, e))
not-none NotHeld e = absurd (omega (arith, e))
not-none CopyLocked e = absurd (omega (arith, e))
not-none Unsettled e = absurd (omega (arith, e))
not-none Home e = absurd (omega (arith, e))
not-none Malformed e = absurd (omega (arith, e))
not-none List e = absurd (omega (arith, e))
not-none Gap e = absurd (omega (arith, e))
not-none Overlap e = absurd (omega (arith, e))
not-none Stale e = absurd (omega (arith, e))
not-none Serials e = absurd (omega (arith, e))
