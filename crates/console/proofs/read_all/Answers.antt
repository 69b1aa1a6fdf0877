-- The image is the one after the commands performed, which are whole while the program goes on; the bytes read rise.
-- Assumes nothing.
use mathlib.Core.Path.{◌∙◌, refl, subst, sym}
use Prim.Native.Nat.{◌<◌}
use native.Mathlib.Omega.{arith}
use lib.Seq.{length-take-le}
use Rattle.std.specs.Prelude.{IfSome, None, Some}
use Rattle.std.specs.declared.option.Option.{Option}
use Rattle.std.proofs.lemmas.Result.{err_from_is_err_and}
use Rattle.command.specs.Commands.{command_size}
use Rattle.console.specs.declared.Position.{Position}
use Rattle.console.specs.Readings.{standing}
use Rattle.console.proofs.Known.{Listed, listed_at, lists_known, lists_read, more_listed, none_listed, performed_of, some_of}
use Rattle.console.proofs.Loop.{falls, more-performed, ran-some, turns_left}
use Rattle.console.proofs.read_all.Goals as goal

pub loop-next-init : goal.loop-next-init
loop-next-init g c =
    let a = c.args in
    let e = c.first_position.ensures in
    let left = g.R.Read.remaining a.reader.now in
    let held = g.W.Write.contents a.writer.now in (
      refl,
      refl,
      refl,
      subst (λ (p : Position). p.waiting < command_size) (sym e) (omega arith),
      subst (λ (p : Position). Listed a.image.now a.image.now (Some p) a.input.now left left held held)
          (sym e) (none_listed a.image.now a.input.now _ _),
    )

pub returns-in_err-next-clause-some : goal.returns-in_err-next-clause-some
returns-in_err-next-clause-some g c =
    let a = c.args in
    let l = c.loop-next in
    let at : Position = c.in-Some.at in
    let r = c.read_on in
    let listed = listed_at c.in-Some.is l.invariant.4 in
    ran-some (more-performed a.image.now (standing at l.input l.image) None r.new.input r.new.image (performed_of listed) c.in_err-next.ensures.some)

pub returns-in_err-next-clause-failed : goal.returns-in_err-next-clause-failed
returns-in_err-next-clause-failed g c =
    let a = c.args in
    let l = c.loop-next in
    let at : Position = c.in-Some.at in
    let r = c.read_on in
    let p = err_from_is_err_and c.from_residual.result c.from_residual.ensures.1 in
    let waits : at.waiting < command_size = subst (λ (x : Option Position). IfSome x (λ q. q.waiting < command_size)) c.in-Some.is l.invariant.3 in
    let listed = listed_at c.in-Some.is l.invariant.4 in
    rw (p.1, p.2)
    (lists_read a.image.now l.image r.new.image at l.input _ _ _ _ _ _ c.in_err-next.field-0.0 listed waits
    (omega (arith, l.invariant.1, waits, c.requires.room_for_command)) c.in_err-next.ensures.failed)

pub loop-next-smaller : goal.loop-next-smaller
loop-next-smaller g c =
    let l = c.loop-next in
    let at : Position = c.in-Some.at in
    let r = c.read_on in
    let waits : at.waiting < command_size = subst (λ (x : Option Position). IfSome x (λ q. q.waiting < command_size)) c.in-Some.is l.invariant.3 in
    let w = length-take-le at.waiting l.input (omega (arith, l.invariant.1, waits, c.requires.room_for_command)) in
    let some = some_of {s = standing at l.input l.image} c.in_ok-next.ensures.one in
    subst (λ (x : Option Position). turns_left c.in_ok-next.next < turns_left x) (sym c.in-Some.is)
    (falls (standing at l.input l.image) at c.in_ok-next.next r.new.input r.new.image refl w c.in_ok-next.ensures.waits some)

pub loop-next-preserved : goal.loop-next-preserved
loop-next-preserved g c =
    let a = c.args in
    let l = c.loop-next in
    let at : Position = c.in-Some.at in
    let r = c.read_on in
    let listed = listed_at c.in-Some.is l.invariant.4 in (
      r.auto.image ∙ l.invariant.0,
      r.auto.input ∙ l.invariant.1,
      r.auto.out ∙ l.invariant.2,
      c.in_ok-next.ensures.waits,
      more_listed a.image.now l.image r.new.image at c.in_ok-next.next l.input r.new.input _ _ _ _ _ _ listed c.in_ok-next.ensures.one,
    )

pub returns-clause-known : goal.returns-clause-known
returns-clause-known g c =
    let l = c.loop-next in
    lists_known c.args.image.now l.image l.next l.input _ _ _ _ l.invariant.4 c.in_default.is
