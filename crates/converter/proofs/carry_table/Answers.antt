-- The part of the older image that has the blocks is written, and then the stamp of no placement. Assumes nothing.
use mathlib.Core.List.{List}
use mathlib.Core.Path.{◌≡◌, ◌∙◌, ap}
use Prim.Native.Nat.{ℕ, ◌+◌, ◌-◌}
use native.Mathlib.Omega.{arith}
use Rattle.lists.specs.Segments.{splice}
use Rattle.image.specs.Layout.{blocks_size, table_start, table_start_of}
use Rattle.image.proofs.Parts.{part-is}
use Rattle.control.specs.Stamps.{no_stamp, put_stamp}
use Rattle.cabinet_rules.specs.Retired.{pairs_behind}
use Rattle.converter.specs.Steps.{carry_table}
use Rattle.converter.proofs.carry_table.Goals as goal

-- How long the part is.
size : (a : ℕ) → a + blocks_size - a ≡ blocks_size
size a = omega arith

pub returns : goal.returns
unfolding carry_table
returns c =
    let card = c.args.card.0 in
    let from = table_start_of pairs_behind card in
    c.put.ensures ∙ ap (λ (g : List ℕ). put_stamp g card no_stamp)
    (c.write_at.ensures ∙ ap (splice c.args.image.now (table_start card)) (part-is from (from + blocks_size - from) c.args.older.now blocks_size (size from)))
