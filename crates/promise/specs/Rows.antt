-- Rows of the refusal table that several calls ask. Assumes nothing.
use Rattle.std.specs.Prelude.{ℕ, ltb, not}
use Rattle.image.specs.Layout.{card_count}
use Rattle.mask.specs.Masks.{has_card}
use Rattle.method.specs.ControlPart.{is_open}
use Rattle.method.specs.Rules.{row}
use Rattle.control.specs.ControlBytes.{Part}
use Rattle.cabinet_rules.specs.Cabinet.{tran_ok}

-- The rows of a call on a working card: 3, 4 and 8.
unfoldable pub card_rows : Part → ℕ → ℕ
card_rows k c = row 3 (not (ltb c card_count)) (row 4 k.stopped (row 8 (not (has_card k.working c)) 0))

-- The rows of a call of an open transaction: 3, 4 and 5.
unfoldable pub tran_rows : Part → ℕ → ℕ
tran_rows k t = row 3 (not (tran_ok t)) (row 4 k.stopped (row 5 (not (is_open k t)) 0))
