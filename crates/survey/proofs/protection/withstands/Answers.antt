-- The two counts of the code are those of the rules. Assumes nothing.
use Prim.Native.Nat.{suc}
use borrow.Author.Tests.{le-ltb, lt-ltb}
use mathlib.Core.Path.{sym}
use native.Mathlib.Omega.{arith}
use Rattle.image.specs.Layout.{copy_count}
use Rattle.mask.specs.Masks.{common}
use Rattle.method.specs.Protection.{withstands}
use Rattle.survey.proofs.protection.withstands.Goals as goal

pub returns-then-common : goal.returns-then-common
unfolding withstands common
returns-then-common c = let h = c.if-common.true in rw (sym c.common.ensures, le-ltb (suc c.common.result) copy_count (omega (arith, h)))

pub returns : goal.returns
unfolding withstands common
returns c =
    let h = c.if-common.false in
    rw (sym c.common.ensures, lt-ltb (suc c.common.result) copy_count (omega (arith, h)), sym c.common-2.ensures)
