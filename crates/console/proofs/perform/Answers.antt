-- What the callees did is what a reading leads to (`advanced`); the cut bytes come to the start of the buffer after the
-- commands before them were performed. Assumes nothing.
use mathlib.Core.Path.{◌∙◌, ◌≡◌, subst, sym}
use Prim.Native.Nat.{◌+◌, ◌-◌, ◌/◌, ◌<◌, ◌≤◌, ℕ}
use lib.Dec.{eqb}
use Rattle.std.specs.Prelude.{IfSome}
use Rattle.std.specs.declared.option.Option.{Option}
use Rattle.command.specs.Commands.{command_size}
use Rattle.console.specs.Readings.{performed_size}
use Rattle.console.specs.declared.Position.{Position}
use Rattle.console.proofs.Advances.{advanced, behind_if}
use Rattle.console.proofs.Buffers.{moved, rest-short, performed_le}
use Rattle.console.proofs.perform.Goals as goal

-- as many bytes as are performed are held
within_held : (e w got : ℕ) → e ≡ performed_size (w + got) (eqb got 0) → e ≤ w + got
within_held e w got d = subst (λ (n : ℕ). n ≤ w + got) (sym d) (performed_le (w + got) (eqb got 0))

pub returns : goal.returns
returns c =
    let a = c.args in
    let pre = c.requires in
    let e = c.performed_size-end in
    let r = c.run-put in
    let held : e.result ≤ a.at.waiting + a.got = within_held e.result a.at.waiting a.got e.ensures in
    let short : a.at.waiting + a.got - e.result < command_size =
    subst (λ (n : ℕ). a.at.waiting + a.got - n < command_size) (sym e.ensures) (rest-short (a.at.waiting + a.got) (eqb a.got 0)) in (
      advanced a.at.number a.at.waiting a.got r.result e.result a.input.now _ a.out.now _ a.image.now _ c.position_behind-next.result pre.got_in_bounds pre.room_for_lines
          e.ensures r.ensures.0 (c.copy_within.ensures.after ∙ moved a.input.now e.result (a.at.waiting + a.got) held pre.got_in_bounds) c.position_behind-next.ensures,
      r.ensures.1,
      subst (λ (x : Option Position). IfSome x (λ next. next.waiting < command_size)) (sym c.position_behind-next.ensures)
          (behind_if a.at.number (e.result / command_size) (a.at.waiting + a.got - e.result) (eqb a.got 0) (λ next. next.waiting < command_size) (λ on. short)),
    )
