-- Transaction t's byte is the byte t - 1 behind the first of them, and its highest bit says that it is open. Assumes nothing.
use mathlib.Core.Path.{◌∙◌, ap, sym}
use mathlib.Core.Option.{Option}
use Prim.Native.Nat.{ℕ}
use lib.ListN.{get_or}
use borrow.Author.Tests.{lt-ltb}
use Rattle.image.specs.Layout.{tran_bound}
use Rattle.method.specs.Slots.{is_some}
use Rattle.control.specs.ControlBytes.{home_at, tail_at}
use Rattle.control.proofs.Fields.{shown-home}
use Rattle.control.proofs.Struct.{open-bit}
use Rattle.control.proofs.codec.is_open_at.Goals as goal

pub returns : goal.returns
returns c =
    let t : ℕ = c.args.tran.0 in
    let l = c.args.s.now in
    rw (lt-ltb 0 t c.requires.tran_nonzero.0, lt-ltb t tran_bound c.requires.tran_nonzero.1) (open-bit (get_or l (home_at t) 0))
    ∙ sym (ap (λ (o : Option ℕ). is_some o) (shown-home (λ n. get_or l n 0) (tail_at l) t))
