-- Block by block: the pairs of those before b pass. Assumes nothing.
use Rattle.std.proofs.Common.{◌≡◌, true, get_or}
use Rattle.lists.specs.Tests.{all_below}
use Rattle.mask.specs.Masks.{byte}
use Rattle.mask.specs.Pairs.{is_pair_of, pair_at}
use Rattle.converter.proofs.pairs_ok.Given as goal

abbrev pub invariant-loop-b : goal.invariant-loop-b
invariant-loop-b l = all_below l.b (λ b. is_pair_of (byte l.mask) (pair_at (λ j. get_or l.pairs j 0) b)) ≡ true
