-- No serial, and then the form in force of the bytes with one. Assumes nothing.
use Rattle.std.proofs.Common.{List, ℕ, ap, arith, get_or, ◌∙◌}
use Rattle.control.specs.ControlBytes.{control_of, serial_at, serial_size}
use Rattle.control_form.specs.ControlForm.{front_ok}
use Rattle.control_form.proofs.Kept.{part-zero}
use Rattle.converter.specs.Steps.{is_unnumbered, older_front_ok}
use Rattle.converter.proofs.TableForm.{front-shown}
use Rattle.converter.proofs.front_ok.Goals as goal

pub returns-then-all_zero : goal.returns-then-all_zero
unfolding older_front_ok is_unnumbered
returns-then-all_zero c t =
    let l = c.args.older.now in
    let unnumbered = c.all_zero.ensures ∙ part-zero l serial_at serial_size serial_size (omega arith) (omega (arith, c.requires)) in
    let front = c.front_ok.ensures t ∙ ap (λ (x : List ℕ). front_ok (control_of (λ n. get_or x n 0) t) (λ n. get_or x n 0)) c.numbered.ensures
    ∙ front-shown l t (λ n. (c.type_inv.older n).fits) in
    grind (arith, unnumbered, front)

pub returns-else-all_zero : goal.returns-else-all_zero
unfolding older_front_ok is_unnumbered
returns-else-all_zero c t =
    let l = c.args.older.now in
    let unnumbered = c.all_zero.ensures ∙ part-zero l serial_at serial_size serial_size (omega arith) (omega (arith, c.requires)) in
    grind (arith, unnumbered)
