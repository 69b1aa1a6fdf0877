-- Block by block the masks are of the cards of the block's pair. Assumes nothing.
use Prim.Native.Nat.{◌+◌, ◌*◌}
use lib.ListN.{get_or}
use Rattle.mask.specs.Pairs.{blocks_in_group, pair_at}
use Rattle.mask.specs.SiteMasks.{MasksBelow}
use Rattle.mask.proofs.PairLaws.{is_card_of}
use Rattle.mask.proofs.pairs.fill.Given as goal

abbrev pub invariant-loop-q : goal.invariant-loop-q
invariant-loop-q l = MasksBelow (λ b. is_card_of (pair_at (λ j. get_or l.pairs j 0) b)) l.masks (l.q * blocks_in_group)

abbrev pub invariant-loop-place : goal.invariant-loop-place
invariant-loop-place l = MasksBelow (λ b. is_card_of (pair_at (λ j. get_or l.pairs j 0) b)) l.masks (l.q * blocks_in_group + l.place)
