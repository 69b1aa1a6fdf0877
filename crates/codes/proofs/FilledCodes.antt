-- An answer of a call that fills lent bytes has a code of its own, and a conversion that was done is a coded one. Assumes nothing.
use Prim.Native.Nat.{ℕ}
use mathlib.Core.Path.{◌∙◌, ◌≡◌, ap}
use native.Mathlib.Omega.{arith}
use Rattle.cabinet_rules.specs.Converting.{Filling, unfilled, written}
use Rattle.cabinet_rules.specs.Delivery.{Delivery}
use Rattle.cabinet_rules.specs.Images.{Image}
use Rattle.converter.specs.Promise.{ConvertDone}
use Rattle.promise.specs.Promise.{shown_filled}
use Rattle.std.specs.Prelude.{Result}
use Rattle.refusals.specs.declared.Refusal.{Refusal}
use Rattle.codes.specs.FilledCodes.{CodedConversion, OneFilledCodeEach, filled_code, filled_kind, filled_number}

-- two of one kind and one number are one
same : (a b : Filling) → filled_kind a ≡ filled_kind b → filled_number a ≡ filled_number b → a ≡ b
unfolding filled_kind filled_number
same (written n) (written m) k e = ap (λ (x : ℕ). written x) e
same (written n) (unfilled m) k e = absurd (omega (arith, k))
same (unfilled n) (written m) k e = absurd (omega (arith, k))
same (unfilled n) (unfilled m) k e = ap (λ (x : ℕ). unfilled x) e

pub one-filled-code-each : OneFilledCodeEach
one-filled-code-each a b h k e = same a b (omega (arith, e, h, k)) (omega (arith, e, h, k))

pub coded-conversion : {E D : Delivery} {carry : Image → Image} {older lent left : Image} {a : Result ℕ Refusal} {code : ℕ} → ConvertDone E D carry older lent a left
    → code ≡ filled_code (shown_filled a) → CodedConversion E D carry older lent code left
coded-conversion d e = record { answers = e ∙ ap filled_code d.answers; leaves = d.leaves }
