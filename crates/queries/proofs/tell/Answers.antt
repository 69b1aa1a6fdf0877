-- Each arm tells what its question is told. Assumes nothing.
use Prim.Native.Nat.{ℕ}
use mathlib.Core.Path.{◌∙◌, ◌≡◌, ap, refl, sym}
use mir.Syntax.{w8}
use mir.Val.{Fits, bool_byte}
use mathlib.Core.Bool.{Bool, false, true}
use native.Mathlib.Nat.{mod-eq_of_lt}
use Rattle.control.specs.Meaning.{meaning}
use Rattle.control.specs.declared.Control.{Control}
use Rattle.queries.specs.declared.Query.{Query}
use Rattle.queries.specs.Queries.{Told, tells, told_flag, told_of}
use Rattle.queries.proofs.Telling.{count-told}
use borrow.Author.Rules.{rules}
use Rattle.queries.proofs.tell.Goals as goal

-- a flag as a number
flag-told : (yes : Bool) → tells (bool_byte yes) ≡ told_flag yes
flag-told true = refl
flag-told false = refl

-- what a question is told, where it is the question of the arm
by_arm : (k : Control) {q arm : Query} {r : Told} → q ≡ arm → r ≡ told_of arm (meaning k) → r ≡ told_of q (meaning k)
by_arm k e told = told ∙ sym (ap (λ (q : Query). told_of q (meaning k)) e)

pub returns-in-Stopped : goal.returns-in-Stopped
unfolding told_of meaning
returns-in-Stopped c = by_arm c.args.k c.in-Stopped.is (flag-told c.args.k.stopped)

pub returns-in-PlacementCount : goal.returns-in-PlacementCount
unfolding told_of
returns-in-PlacementCount c =
    by_arm c.args.k c.in-PlacementCount.is (ap (λ (n : ℕ). tells n) (count-told c.args.k c.requires))

pub returns-in-Placement : goal.returns-in-Placement
returns-in-Placement c = by_arm _ c.in-Placement.is c.placement.ensures

pub returns-in-Working : goal.returns-in-Working
unfolding told_of meaning
returns-in-Working c =
    let f : Fits w8 c.args.k.working = search rules in
    by_arm c.args.k c.in-Working.is (ap (λ (n : ℕ). tells n) (sym (mod-eq_of_lt f.fits)))

pub returns-in-Failed : goal.returns-in-Failed
unfolding told_of meaning
returns-in-Failed c =
    let f : Fits w8 c.args.k.failed = search rules in
    by_arm c.args.k c.in-Failed.is (ap (λ (n : ℕ). tells n) (sym (mod-eq_of_lt f.fits)))

pub returns-in-Home : goal.returns-in-Home
returns-in-Home c = by_arm _ c.in-Home.is c.home.ensures

pub returns-in-FreeTransaction : goal.returns-in-FreeTransaction
unfolding told_of
returns-in-FreeTransaction c = by_arm c.args.k c.in-FreeTransaction.is (ap (λ (n : ℕ). tells n) c.free_transaction.ensures)
