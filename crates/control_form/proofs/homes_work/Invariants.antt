-- The cards that are left do not work, and those that do not work and are not left are no homes. Assumes nothing.
use Rattle.control_form.proofs.Idle.{Idle, Tried}
use Rattle.control_form.proofs.homes_work.Given as goal

abbrev pub invariant-loop-card : goal.invariant-loop-card
invariant-loop-card l = Idle l.s l.card-iterator.0 × Tried l.s l.card-iterator.0
