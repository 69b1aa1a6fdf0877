-- What is read goes behind the bytes that wait, so they are still those of the command that was cut. Assumes nothing.
use native.Mathlib.Omega.{arith}
use mathlib.Core.Path.{◌∙◌, refl}
use Rattle.std.proofs.lemmas.Result.{MatchResult-at_err, err_from_is_err_and}
use Rattle.console.specs.declared.ending.Failure.TheVariants.{Input}
use Rattle.console.proofs.Known.{one_of}
use Rattle.console.proofs.ReadAnswers.{failed_read, is_read, of_ok, unread}
use Rattle.console.proofs.read_on.Goals as goal

pub returns-clause-one : goal.returns-clause-one
returns-clause-one g c =
    let a = c.args in
    let read = c.read-answer in
    let r = c.advance-step in
    let n = is_read read.result c.in_ok-map_err.ensures.variant in
    one_of a.at r.result n.0 a.input.now read.new.buf a.out.now r.new.out r.new.input a.image.now r.new.image read.result _ _ _ _
    (omega (arith, c.requires.waits_for_rest, c.requires.room_for_command)) (omega arith) n.1 read.ensures.bound read.ensures.bytes
    r.ensures.0 r.ensures.1 (of_ok c.write_all.result c.write_all.ensures.bytes c.in_ok-map_err-2.ensures.variant)

pub returns-in_err-map_err-clause-failed : goal.returns-in_err-map_err-clause-failed
returns-in_err-map_err-clause-failed g c =
    let p = err_from_is_err_and c.from_residual.result c.from_residual.ensures.1 in
    let e = failed_read Input c.read-answer.result c.map_err.result c.in_err-map_err.field-0.0 c.map_err.ensures.cases c.in_err-map_err.was in
    let kept = MatchResult-at_err _ _ e.0 e.1 c.read-answer.ensures.bytes in
    rw (p.1, p.2 ∙ e.2) (unread c.read-answer.result e.0 _ _ e.1 c.advance-step.ensures.0, kept, refl)
