-- What is told has a code of its own. Assumes nothing.
use Prim.Native.Nat.{ℕ}
use mathlib.Core.Path.{◌≡◌, ap, refl}
use native.Mathlib.Omega.{arith}
use Rattle.queries.specs.Queries.{Told, not_told, tells, tells_none}
use Rattle.codes.specs.ToldCodes.{OneToldCodeEach, told_kind, told_number}

-- two of one kind and one number are one
same : (a b : Told) → told_kind a ≡ told_kind b → told_number a ≡ told_number b → a ≡ b
unfolding told_kind told_number
same (tells n) (tells m) k e = ap (λ (x : ℕ). tells x) e
same (tells n) tells_none k e = absurd (omega (arith, k))
same (tells n) (not_told m) k e = absurd (omega (arith, k))
same tells_none (tells m) k e = absurd (omega (arith, k))
same tells_none tells_none k e = refl
same tells_none (not_told m) k e = absurd (omega (arith, k))
same (not_told n) (tells m) k e = absurd (omega (arith, k))
same (not_told n) tells_none k e = absurd (omega (arith, k))
same (not_told n) (not_told m) k e = ap (λ (x : ℕ). not_told x) e

pub one-told-code-each : OneToldCodeEach
one-told-code-each a b h k e = same a b (omega (arith, e, h, k)) (omega (arith, e, h, k))
