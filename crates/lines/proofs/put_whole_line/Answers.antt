-- Three pieces, one behind the other, and none is longer than its part of the longest line. Assumes nothing.
use Prim.Native.Nat.{◌*◌, ◌+◌, ◌≤◌}
use native.Mathlib.Omega.{arith}
use mir.Syntax.{w64}
use mir.Val.{Fits}
use lib.ListN.{length}
use Rattle.lines.specs.Lines.{line_head, line}
use Rattle.lines.proofs.Lines.{head_length}
use Rattle.lines.proofs.Puts.{puts-next}
use borrow.Author.Rules.{rules}
use Rattle.lines.proofs.put_whole_line.Goals as goal

pub returns : goal.returns
unfolding line
returns g c =
    let a = c.args in
    let pre = c.requires in
    let f : Fits w64 a.number = search rules in
    let h : length (line_head a.number a.command.now) ≤ 22 + 2 * length a.command.now = head_length _ _ f.fits in
    let p = c.put_head-at in
    let q = c.put_answer-behind_answer in
    let r = c.put_byte in
    let u : q.result ≤ length a.out.now = omega (arith, pre, p.ensures.ends, q.ensures.1) in
    let v : r.result ≤ length a.out.now = omega (arith, pre, p.ensures.ends, q.ensures.1, r.ensures.ends) in
    (puts-next (puts-next p.ensures q.ensures.0 u) r.ensures v, omega (arith, p.ensures.ends, q.ensures.1, r.ensures.ends))
