-- The transactions below t are open. Assumes nothing.
use Prim.Native.Nat.{◌<◌}
use borrow.Author.Rules.{rules}
use mathlib.Core.Path.{◌∙◌, ◌≡◌, sym}
use native.Mathlib.Omega.{arith}
use Rattle.image.specs.Layout.{tran_bound}
use Rattle.control.specs.Meaning.{meaning}
use Rattle.queries.proofs.Telling.{free-first, free-found, free-none, free-passed}
use Rattle.queries.proofs.free_transaction.Goals as goal

pub loop-t-init : goal.loop-t-init
loop-t-init c = free-first _

pub returns-then-not-is_open : goal.returns-then-not-is_open
returns-then-not-is_open c =
    let h : c.loop-t.t < tran_bound = search rules in
    free-found (meaning c.args.k) c.loop-t.t h (sym c.is_open.ensures ∙ c.if-not-is_open.true) c.loop-t.invariant

pub loop-t-preserved : goal.loop-t-preserved
loop-t-preserved c =
    let h : c.loop-t.t < tran_bound = search rules in
    free-passed (meaning c.args.k) c.loop-t.t h (sym c.is_open.ensures ∙ c.if-not-is_open.false) c.loop-t.invariant

pub returns : goal.returns
returns c =
    let e : c.loop-t.t ≡ tran_bound = omega arith in
    free-none (meaning c.args.k) c.loop-t.t e c.loop-t.invariant
