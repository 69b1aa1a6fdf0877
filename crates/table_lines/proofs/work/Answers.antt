-- The test of each line is asked of the range of their numbers. Assumes nothing.
use mathlib.Core.Bool.{Bool, false, true}
use mathlib.Core.Path.{◌≡◌}
use Prim.Native.Nat.{ℕ}
use native.Mathlib.Omega.{arith}
use borrow.Author.Rules.{rules}
use Rattle.std.proofs.lemmas.Iterator.{cases_from_all, YieldsList-from_range}
use Rattle.mask.specs.Masks.{byte}
use Rattle.table_lines.specs.Lines.{line_at, line_count, line_works, lines_work}
use Rattle.table_lines.proofs.Ranges.{all-of-range}
use Rattle.table_lines.proofs.work.Goals as goal

pub returns : goal.returns
unfolding lines_work
returns c =
    let x = c.args.lines.now in
    let n = line_count x in
    let f : ℕ → Bool = λ i. line_works (byte c.args.working) (line_at x i) in
    all-of-range n f c.all.result
    (cases_from_all _ _ c.all.result (λ i. f i ≡ true) (λ i. f i ≡ false) c.all.ensures.ran (YieldsList-from_range 0 n n (cc) (omega arith)) (λ i q k. search rules) (λ i q k. search rules))
