-- A byte that has a home is open, so its home is its field. Assumes nothing.
use mathlib.Core.Path.{◌≡◌, refl}
use mathlib.Core.Bool.{Bool, true, false, cond}
use mathlib.Core.Option.{some, none}
use Prim.Native.Nat.{ℕ}
use native.Mathlib.Omega.{arith}
use lib.Dec.{leb}
use Rattle.lists.proofs.Bools.{tf}
use Rattle.method.specs.Slots.{is_some}
use Rattle.control.specs.ControlBytes.{open_bit}
use Rattle.control.proofs.codec.home_of.Goals as goal

pub returns : goal.returns
returns c =
    let n : ℕ = c.args.b in
    (go (leb open_bit n) c.requires, omega arith)
  where
    go : (x : Bool) {h : ℕ} → is_some (cond x (some h) none) ≡ true → cond x (some h) none ≡ some h
    go true e = refl
    go false e = tf false e refl
