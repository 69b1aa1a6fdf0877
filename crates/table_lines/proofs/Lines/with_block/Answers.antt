-- At the end all lines are counted. Assumes nothing.
use borrow.Author.Rules.{rules}
use Rattle.table_lines.specs.Lines.{lines_with}
use Rattle.table_lines.proofs.Lines.with_block.Goals as goal

pub returns : goal.returns
unfolding lines_with
returns c = search rules
