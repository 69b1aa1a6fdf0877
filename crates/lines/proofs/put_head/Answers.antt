-- `put_head` meets its contract: four pieces, one behind the other. Assumes nothing.
use Prim.Native.Nat.{◌≤◌}
use native.Mathlib.Omega.{arith}
use mir.Syntax.{w64}
use mir.Val.{Fits}
use lib.ListN.{length}
use Rattle.lines.specs.Text.{decimal}
use Rattle.lines.proofs.Digits.{hex_length, length_64}
use Rattle.lines.proofs.Puts.{puts-next}
use borrow.Author.Rules.{rules}
use Rattle.lines.proofs.put_head.Goals as goal

pub returns : goal.returns
returns c =
    let a = c.args in
    let f : Fits w64 a.number = search rules in
    let d : length (decimal a.number) ≤ 20 = length_64 _ f.fits in
    let h = hex_length a.command.now in
    let r = c.requires in
    let p = c.put_decimal-behind_number.ensures in
    let q = c.put_byte-at.ensures in
    let s = c.put_hexes-behind_digits.ensures in
    let t = c.put_byte.ensures in
    let u : c.put_byte-at.result ≤ length a.out.now = omega (arith, r, p.ends, q.ends) in
    let v : c.put_hexes-behind_digits.result ≤ length a.out.now = omega (arith, r, p.ends, q.ends, s.ends) in
    let w : c.put_byte.result ≤ length a.out.now = omega (arith, r, p.ends, q.ends, s.ends, t.ends) in
    puts-next (puts-next (puts-next p q u) s v) t w
