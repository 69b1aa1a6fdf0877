-- `put_hexes` meets its contract: a turn puts one byte more. Assumes nothing.
use mathlib.Core.Path.{◌∙◌}
use native.Mathlib.Omega.{arith}
use Rattle.lines.proofs.Digits.{hex_taken, hex_turn}
use Rattle.lines.proofs.Puts.{puts_same, puts_then}
use Rattle.lines.proofs.text.put_hexes.Goals as goal

pub loop-byte-preserved : goal.loop-byte-preserved
loop-byte-preserved c =
    let l = c.loop-byte in
    let p = c.put_hex-end in
    let taken = hex_taken c.args.bytes.now l.byte-index (omega arith) in (
      p.auto.out ∙ l.invariant.0,
      p.ensures.ends ∙ omega arith,
      puts_same (hex_turn c.args.bytes.now l.byte-index (omega arith)) (puts_then l.invariant.2 p.ensures (omega arith)),
    )
