-- The first i moves are put, and the entries beyond are as lent.
use Rattle.std.proofs.Common.{◌++◌, ◌≡◌, drop, length}
use Rattle.move_list.specs.Plans.{first_moves, moves_in}
use Rattle.store.proofs.moves.fill.Given as goal

abbrev pub invariant-loop-i : goal.invariant-loop-i
invariant-loop-i l =
    (length l.list ≡ length l.initial.list) × (l.list ≡ first_moves (moves_in l.plan.origins) l.i ++ drop l.i l.initial.list)
