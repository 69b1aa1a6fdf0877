-- What is packed of the elements is what is packed of the pairs. Assumes nothing.
use mathlib.Core.Path.{◌∙◌}
use native.Mathlib.Omega.{arith}
use lib.ListN.{get_or}
use Rattle.table_lines.specs.Lines.{line_count, pair_by}
use Rattle.table_lines.proofs.Packed.{from-same}
use Rattle.table_lines.proofs.Lines.pairs.Goals as goal

pub returns : goal.returns
returns c =
    let x = c.args.self.bytes.now in
    c.pack.ensures ∙ from-same (λ b. get_or c.loop-b.each b 0) (λ b. pair_by x b (line_count x)) (λ b h. c.loop-b.invariant.1 b (omega arith))
