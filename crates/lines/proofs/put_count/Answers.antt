-- `put_count` meets its contract: the word, then the number. Assumes nothing.
use Rattle.lines.proofs.Puts.{puts_then}
use Rattle.lines.proofs.put_count.Goals as goal

pub returns : goal.returns
returns c = puts_then c.put_word-next.ensures c.put_decimal.ensures
    c.requires
