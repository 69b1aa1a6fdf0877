-- The highest bit is set as long as the pairs of the groups so far are good. Assumes nothing.
use mathlib.Core.Path.{◌≡◌}
use Prim.Native.Nat.{◌*◌, ℕ}
use lib.ListN.{get_or}
use Rattle.lists.specs.Tests.{all_below, one_if}
use Rattle.mask.specs.Masks.{byte}
use Rattle.mask.specs.Pairs.{blocks_in_group, is_pair_of, pair_at}
use Rattle.mask.specs.PairSets.{top_bit}
use Rattle.mask.proofs.pairs.are_pairs_of.Given as goal

-- The blocks of a turn.
abbrev pub in_turn : ℕ
in_turn = blocks_in_group * 2

abbrev pub invariant-loop-i : goal.invariant-loop-i
invariant-loop-i l = top_bit l.all ≡ one_if (all_below (l.i * in_turn) (λ b. is_pair_of (byte l.mask) (pair_at (λ j. get_or l.pairs j 0) b)))
