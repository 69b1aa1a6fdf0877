-- `put_hex` meets its contract: two digits, one behind the other. Assumes nothing.
use Rattle.lines.proofs.Puts.{puts_pair}
use Rattle.lines.proofs.text.put_hex.Goals as goal

pub returns : goal.returns
returns c = puts_pair c.glyph.ensures c.glyph-2.ensures
    c.put_byte-next.ensures c.put_byte.ensures
    c.requires
