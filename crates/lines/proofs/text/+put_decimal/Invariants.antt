-- The call of itself is passed a tenth of n, which is less.
use Rattle.lines.proofs.text.+put_decimal.Given as goal

abbrev pub decreases-put_decimal : goal.decreases-put_decimal
decreases-put_decimal l = l.n
