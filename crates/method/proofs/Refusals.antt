-- The rows of the refusal table, read back: what an accepted call has shown. Assumes nothing.
use Prim.Native.Nat.{suc, ℕ}
use mathlib.Core.Bool.{Bool, false, not, true}
use mathlib.Core.Path.{◌≡◌, refl}
use native.Mathlib.Omega.{arith}
use Rattle.lists.proofs.Bools.{not-not-is}
use Rattle.method.specs.Rules.{row}

-- no row applied: this one did not, nor those below it
pub row-clear : (b : Bool) (n : ℕ) {rest : ℕ} → row (suc n) b rest ≡ 0 → (b ≡ false) × (rest ≡ 0)
row-clear true n e = absurd (omega arith)
row-clear false n e = (refl, e)

-- row 3 did not apply: the numbers are in their ranges
pub row-3 : (a : Bool) {rest : ℕ} → row 3 (not a) rest ≡ 0 → (a ≡ true) × (rest ≡ 0)
row-3 a e = (not-not-is a (row-clear (not a) 2 e).0, (row-clear (not a) 2 e).1)
