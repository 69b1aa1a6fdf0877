-- The first b elements are the pairs of the blocks below b; at the end all are, and what is packed of them is what is packed of the pairs.
-- Assumes nothing.
use mathlib.Core.Path.{◌≡◌}
use lib.ListN.{length}
use Rattle.image.specs.Layout.{block_count}
use Rattle.mask.proofs.PairLaws.{Holds}
use Rattle.table_lines.specs.Lines.{line_count, pair_by}
use Rattle.table_lines.proofs.Lines.pairs.Given as goal

abbrev pub invariant-loop-b : goal.invariant-loop-b
invariant-loop-b l = (length l.each ≡ block_count)
    × Holds (λ k v. v ≡ pair_by l.self.bytes.now k (line_count l.self.bytes.now)) l.each l.b
