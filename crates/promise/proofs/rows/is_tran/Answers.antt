-- At most 15 is below 16; 0 is no transaction. Assumes nothing.
use Prim.Native.Nat.{◌<◌, ◌≤◌, ℕ}
use borrow.Author.Tests.{le-leb, le-ltb, leb-true, lt-ltb, ltb-true}
use lib.Dec.{leb, ltb}
use mathlib.Core.Path.{◌≡◌}
use native.Mathlib.Omega.{arith}
use Rattle.lists.proofs.Bools.{same_test}
use Rattle.promise.proofs.rows.is_tran.Goals as goal

up_to : (t : ℕ) → leb t 15 ≡ ltb t 16
up_to t = same_test (leb t 15) (ltb t 16)
    (λ e. let h : t ≤ 15 = leb-true t 15 e in lt-ltb t 16 (omega arith))
    (λ e. let h : t < 16 = ltb-true t 16 e in le-leb t 15 (omega arith))

pub returns-then-tran-eq0 : goal.returns-then-tran-eq0
returns-then-tran-eq0 c = rw (le-ltb 0 c.args.tran.0 (omega arith))

pub returns : goal.returns
returns c = rw (lt-ltb 0 c.args.tran.0 (omega arith)) (up_to c.args.tran.0)
