-- The next line's pair is taken where it has the block. Assumes nothing.
use mathlib.Core.Bool.{Bool, cond}
use mathlib.Core.Path.{◌∙◌, ◌≡◌, ap, sym}
use Prim.Native.Nat.{◌+◌, ◌*◌}
use native.Mathlib.Omega.{arith}
use Rattle.image.specs.Layout.{card_count}
use Rattle.table_lines.specs.Lines.{Line, has_block, line_at, pair_by}
use Rattle.table_lines.proofs.LineLaws.{pair-more}
use Rattle.table_lines.proofs.Lines.pair_for.Goals as goal
use Rattle.table_lines.proofs.Lines.pair_for.Goals.{then-has_block, else-has_block}

pub loop-i-preserved : goal.loop-i-preserved
loop-i-preserved c =
    let l = c.loop-i in
    let x = c.args.self.bytes.now in
    let b = c.args.block.0 in
    let has : c.has_block.result ≡ has_block (line_at x l.i) b = c.has_block.ensures ∙ ap (λ (n : Line). has_block n b) c.line-line.ensures.is in
    let pair : Line → _ = λ n. n.one * card_count + n.two in
    let next = λ (t : Bool) (e : c.has_block.result ≡ t). pair-more x b l.i ∙ ap (λ (h : Bool). cond h (pair (line_at x l.i)) (pair_by x b l.i)) (sym has ∙ e) in
    elim c.if-has_block.branch [
      | then-has_block w ↦ (omega arith, w.pair-is ∙ ap pair c.line-line.ensures.is ∙ sym (next _ w.if-has_block.true))
      | else-has_block w ↦ (omega arith, w.pair-is ∙ l.invariant.1 ∙ sym (next _ w.if-has_block.false))
    ]
