-- Lists of five bytes. Assumes nothing.
use mathlib.Core.Path.{◌≡◌}
use mathlib.Core.List.{List, ◌∷◌, []}
use Prim.Native.Nat.{ℕ}
use native.Mathlib.Omega.{arith}
use lib.ListN.{length}
use Rattle.command.specs.Commands.{command_size}

-- what holds of every five elements holds of every list of five
pub by-five : (P : List ℕ → Type 0) → ((a b c d e : ℕ) → P (a ∷ b ∷ c ∷ d ∷ e ∷ [])) → (l : List ℕ) → length l ≡ command_size → P l
by-five P p [] h = absurd (omega arith)
by-five P p (a ∷ []) h = absurd (omega arith)
by-five P p (a ∷ b ∷ []) h = absurd (omega arith)
by-five P p (a ∷ b ∷ c ∷ []) h = absurd (omega arith)
by-five P p (a ∷ b ∷ c ∷ d ∷ []) h = absurd (omega arith)
by-five P p (a ∷ b ∷ c ∷ d ∷ e ∷ []) h = p a b c d e
by-five P p (a ∷ b ∷ c ∷ d ∷ e ∷ x ∷ l) h = absurd (omega arith)
