-- A test of the numbers below n, as `all` asks it of a range. Assumes nothing.
use mathlib.Core.Bool.{Bool, false, true}
use mathlib.Core.Path.{◌≡◌, sym}
use Prim.Native.Nat.{ℕ, ◌<◌}
use native.Mathlib.Nat.{zero-add}
use native.Mathlib.Omega.{arith}
use lib.ListN.{get_or, length}
use Rattle.std.specs.Bool.{MatchBool}
use Rattle.std.specs.List.{AllWithin, HoldsAt, range_with_len}
use Rattle.std.proofs.lemmas.List.FromFn.{get_or-range_with_len, length-range_with_len}
use Rattle.lists.specs.Tests.{all_below}
use Rattle.lists.proofs.Counts.{all-below, all-fails}

module _ (n : ℕ) (f : ℕ → Bool) where
  at : (b : Bool) (i : ℕ) → i < n → f (get_or (range_with_len 0 n) i 0) ≡ b → f i ≡ b
  at b i h e = rw (get_or-range_with_len 0 n i 0 h, zero-add i) at e

  pub all-of-range : (r : Bool) → MatchBool r (AllWithin (λ i. f i ≡ true) (range_with_len 0 n) 0 (length (range_with_len 0 n)))
      ((k : ℕ) × (k < length (range_with_len 0 n)) × HoldsAt (λ i. f i ≡ false) (range_with_len 0 n) k) → r ≡ all_below n f
  all-of-range true all = sym (all-below n f (λ i h. at true i h (all i 0 (omega arith) (omega (arith, length-range_with_len 0 n)))))
  all-of-range false (k, h, fails) =
      let below : k < n = omega (arith, h, length-range_with_len 0 n) in sym (all-fails f n k below (at false k below (fails 0)))
