-- `put_mask` meets its contract: the word, then two digits. Assumes nothing.
use native.Mathlib.Omega.{arith}
use Rattle.lines.proofs.Puts.{puts_then}
use Rattle.lines.proofs.put_mask.Goals as goal

pub returns : goal.returns
returns c = puts_then c.put_word-next.ensures c.put_hex.ensures (omega arith)
