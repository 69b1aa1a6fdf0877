-- A cycle of calls that ends: n falls, since a tenth of it is less. The digits are those of n / 10, and then the last.
use mathlib.Core.Path.{◌∙◌, ap, sym}
use mathlib.Core.List.{◌++◌, ◌∷◌, []}
use native.Mathlib.Omega.{arith}
use Prim.Native.Nat.{◌/◌, ℕ}
use Rattle.lines.specs.Text.{decimal}
use Rattle.lines.proofs.Digits.{decimal_more, length_more}
use Rattle.lines.proofs.Puts.{puts_same, puts_then}
use Rattle.lines.proofs.text.+put_decimal.Goals as goal

pub returns : goal.returns
returns t c =
    let n = c.args.n in
    let p = c.put_decimal-next in
    puts_same (ap (λ (x : ℕ). decimal (n / 10) ++ (x ∷ [])) c.glyph-2.ensures ∙ sym (decimal_more n c.if-n-lt10.false))
    (puts_then p.ensures c.put_byte-2.ensures (omega (arith, c.requires, length_more n c.if-n-lt10.false)))
