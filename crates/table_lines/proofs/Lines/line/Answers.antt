-- A line in its ranges has cards. Assumes nothing.
use Rattle.table_lines.specs.Meant.{meant}
use Rattle.table_lines.proofs.LineLaws.{line-cards}
use Rattle.table_lines.proofs.Lines.line.Goals as goal

pub returns-clause-cards : goal.returns-clause-cards
returns-clause-cards c = line-cards c.args.self.bytes.now c.args.self.are_lines (meant c.line_at.result) c.args.i c.line_at.ensures c.requires
