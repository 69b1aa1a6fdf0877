-- What a table that is accepted leaves of an image. Assumes nothing.
use Rattle.std.specs.Prelude.{List, suc, ℕ}
use Rattle.std.proofs.Math.Option.{none}
use Rattle.table_lines.specs.Lines.{table_placement}
use Rattle.method.specs.ControlPart.{added}
use Rattle.control.specs.ControlBytes.{Part, control_byte, tail_byte}
use Rattle.method.specs.Rules.{stamp_all}
use Rattle.cabinet_rules.specs.Cabinet.{cabinet}
use Rattle.cabinet_rules.specs.Delivery.{current}
use Rattle.cabinet_rules.specs.Images.{Image, after, control_in, end_of}

-- The control part with the placement of the lines as the newest.
abbrev pub table_added : List ℕ → Image → Part
table_added lines g = added (control_in g) (table_placement lines) (suc (control_in g).serial)

-- The image with its bytes, before and behind the tables; blocks stay as they are, and every working card has its stamp.
unfoldable pub with_table : List ℕ → Image → Image
with_table lines g =
    after (control_byte (table_added lines g)) (tail_byte (table_added lines g)) (λ c b. none)
    (λ c. end_of current (stamp_all cabinet (table_added lines g) c)) g
