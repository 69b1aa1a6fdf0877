-- What the tables' end leaves, with the control part written over it. Assumes nothing.
use Prim.Native.Nat.{ℕ}
use lib.Dec.{eqb}
use mathlib.Core.List.{List}
use mathlib.Core.Path.{◌∙◌, ap}
use Rattle.mask.specs.Masks.{byte}
use Rattle.slot.specs.Blocks.{in_set}
use Rattle.method.specs.ControlPart.{closed}
use Rattle.control.specs.ControlBytes.{Part}
use Rattle.control.specs.Meaning.{meaning, put_control}
use Rattle.promise.specs.Laid.{laid}
use Rattle.tables.specs.Tables.{end_writes}
use Rattle.transactions.proofs.end_open.Goals as goal

pub returns : goal.returns
unfolding meaning
returns c =
    let g = c.args.image.now in
    c.write.ensures
    ∙ ap (λ (p : Part). put_control c.end_held.new.image p) c.close.ensures.means
    ∙ ap (λ (i : List ℕ). put_control i (closed (meaning c.args.k) (λ x. eqb x c.args.tran.0)))
    (c.end_held.ensures ∙ ap (λ (n : ℕ). laid (end_writes (byte c.args.k.working) c.args.take (in_set n) g) g) c.set_of.ensures)
