-- A read that failed is told by its answer; of any other the answer is the length of the reading. Assumes nothing.
use Prim.Native.Nat.{zero-le}
use native.Mathlib.Omega.{arith}
use Rattle.console.proofs.ReadAnswers.{advanced-same, failed-step, given-err, given-ok, size-ok}
use Rattle.console.proofs.advance.Goals as goal

pub perform-requires : goal.perform-requires
perform-requires c = record {
  got_in_bounds = omega (arith, c.requires.got_in_bounds, size-ok _ _ c.in-Ok.is);
  room_for_lines = c.requires.room_for_lines;
}

pub returns-in-Ok : goal.returns-in-Ok
returns-in-Ok c =
    let a = c.args in
    let r = c.perform in
    (advanced-same (given-ok _ _ a.at.waiting a.input.now c.in-Ok.is) r.ensures.0, r.ensures.1, r.ensures.2)

pub returns-in-Err : goal.returns-in-Err
returns-in-Err c =
    let a = c.args in
    (advanced-same (given-err _ _ a.at.waiting a.input.now c.in-Err.is) (failed-step a.at a.input.now a.out.now a.image.now), zero-le, tt)
