-- By its mark for rails, where it has none for a table. Assumes nothing.
use Rattle.std.proofs.Common.{arith, ◌-◌}
use borrow.Author.Rules.{rules}
use Rattle.control.proofs.Changes.{newest-rails}
use Rattle.control.proofs.Marks.{mark-is}
use Rattle.control.proofs.Control.newest_by_rails.Goals as goal

pub returns-then-not-newest_by_table : goal.returns-then-not-newest_by_table
returns-then-not-newest_by_table c =
    let k = c.args.self in
    let rails = mark-is k.marks (k.count - 1) (search rules) (omega (arith, c.requires.few, c.requires.some)) in
    rw (newest-rails k c.requires) (grind (arith, rails))

pub returns-else-not-newest_by_table : goal.returns-else-not-newest_by_table
returns-else-not-newest_by_table c = rw (newest-rails c.args.self c.requires) (grind arith)
