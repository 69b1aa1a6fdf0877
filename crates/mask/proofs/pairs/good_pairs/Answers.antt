-- The set is computed for every mask (`good-is`). Assumes nothing.
use mathlib.Core.Path.{◌∙◌, ap}
use Prim.Native.Nat.{ℕ}
use native.Mathlib.Omega.{arith}
use Rattle.mask.specs.Masks.{byte}
use Rattle.mask.specs.Pairs.{is_pair_of}
use Rattle.mask.proofs.PairSets.{good-is, good-own}
use Rattle.mask.proofs.pairs.good_pairs.Goals as goal

pub overflow_sub-result : goal.overflow_sub-result
overflow_sub-result c = good-own c.from-m.result (omega arith)

pub returns : goal.returns
returns c p h = good-is c.from-m.result (omega arith) p h ∙ ap (λ (m : ℕ). is_pair_of (byte m) p) c.from-m.ensures
