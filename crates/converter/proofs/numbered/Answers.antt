-- The bytes of the image are written over zeros, and the serial over them. Assumes nothing.
use mathlib.Core.List.{List}
use mathlib.Core.Path.{◌∙◌, ap, refl}
use Prim.Native.Nat.{ℕ}
use lib.ListN.{replicate}
use Rattle.lists.specs.Segments.{splice}
use Rattle.image.specs.Layout.{control_size}
use Rattle.image.proofs.Parts.{part-is}
use Rattle.control.specs.ControlBytes.{serial_at}
use Rattle.converter.proofs.Front.{numbered_is}
use Rattle.converter.proofs.numbered.Goals as goal

pub returns : goal.returns
returns c =
    let l = c.args.older.now in
    let none : List ℕ = replicate control_size 0 in
    c.write_at-2.ensures
    ∙ ap (λ (x : List ℕ). splice x serial_at c.bytes-serial.result) (c.write_at.ensures ∙ ap (splice none 0) (part-is 0 control_size l control_size refl))
    ∙ numbered_is l none c.bytes-serial.result c.requires refl c.bytes-serial.ensures
