-- Laws of slots. Assumes nothing.
use Prim.Native.Nat.{ℕ}
use lib.ListN.{take}
use mathlib.Core.Bool.{Bool, cond, false, true}
use mathlib.Core.Path.{◌≡◌, refl}
use Rattle.method.specs.Slots.{blank, ended, freed}

-- ending transactions leaves a blank slot blank
pub ended-blank : (take : Bool) (f : ℕ → Bool) → ended take f blank ≡ blank
ended-blank take f = go take (f 0)
  where
    go : (t x : Bool) → cond x (freed t blank) blank ≡ blank
    go true true = refl
    go true false = refl
    go false true = refl
    go false false = refl
