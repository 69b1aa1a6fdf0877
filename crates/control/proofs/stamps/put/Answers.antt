-- The bytes of the serial and the mask are written behind the card's blocks. Assumes nothing.
use mathlib.Core.Path.{◌∙◌, ap₂}
use mathlib.Core.List.{List}
use Prim.Native.Nat.{ℕ}
use Rattle.lists.specs.Segments.{splice}
use Rattle.image.specs.Parts.{put_end}
use Rattle.control.specs.Stamps.{put_stamp, stamp_by}
use Rattle.control.proofs.StampLaws.{stamp-row}
use Rattle.control.proofs.stamps.put.Goals as goal

pub returns : goal.returns
unfolding put_stamp put_end
returns c =
    c.write_at.ensures
    ∙ ap₂ (λ (at : ℕ) (xs : List ℕ). splice c.args.image.now at xs) c.end_start.ensures
    (stamp-row c.bytes-first.result (stamp_by c.args.stamp) c.bytes-first.ensures)
