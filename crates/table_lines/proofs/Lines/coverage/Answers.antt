-- At the end all blocks are looked up. Assumes nothing.
use mathlib.Core.Path.{◌∙◌, ◌≡◌}
use native.Mathlib.Omega.{arith}
use Rattle.image.specs.Layout.{block_count}
use Rattle.table_lines.proofs.LineLaws.{gap_is, overlap-is}
use Rattle.table_lines.proofs.Lines.coverage.Goals as goal

pub returns : goal.returns
returns c =
    let l = c.loop-b in
    let x = c.args.self.bytes.now in
    let last : l.b ≡ block_count = omega arith in
    (l.invariant.0 ∙ gap_is x l.b last, l.invariant.1 ∙ overlap-is x l.b last)
