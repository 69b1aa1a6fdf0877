-- What the code's line means. Assumes nothing.
use Rattle.table_lines.specs.declared.Line.{Line as Struct}
use Rattle.table_lines.specs.Lines.{Line}

-- Its four numbers.
abbrev pub meant : Struct → Line
meant s = record { first = s.first; last = s.last; one = s.one; two = s.two }
