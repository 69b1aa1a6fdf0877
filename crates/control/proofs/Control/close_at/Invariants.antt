-- The bytes before the index are what is kept of them, the others as they were. Assumes nothing.
use Rattle.std.proofs.Common.{◌≡◌, ℕ, ◌≤◌, ◌<◌, get_or}
use Rattle.control.specs.Meaning.{kept_home}
use Rattle.control.proofs.Control.close_at.Given as goal

abbrev pub invariant-loop-home : goal.invariant-loop-home
invariant-loop-home l = record {
  kept : (j : ℕ) → j < l.home-index → get_or l.home-items j 0 ≡ kept_home l.card.0 (get_or l.initial.home-items j 0);
  rest : (j : ℕ) → l.home-index ≤ j → get_or l.home-items j 0 ≡ get_or l.initial.home-items j 0;
}
