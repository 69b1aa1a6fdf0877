-- The placements before i lack the card: a search that stops at the first that has it. Assumes nothing.
use mathlib.Core.Path.{◌≡◌}
use mathlib.Core.Bool.{true}
use Rattle.lists.specs.Tests.{all_below}
use Rattle.control.proofs.Active.{mask_passes}
use Rattle.cards.proofs.Searches.{lacks}
use Rattle.cards.proofs.in_active.Given as goal

abbrev pub invariant-loop-i : goal.invariant-loop-i
invariant-loop-i l = all_below l.i (mask_passes (lacks l.card.0) l.k) ≡ true
