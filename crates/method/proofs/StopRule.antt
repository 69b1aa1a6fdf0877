-- The stop rule of the store and that of the plain record list are one. Assumes nothing.
use Prim.Native.Nat.{◌<◌, ◌≤◌, ℕ}
use borrow.Author.Tests.{le-ltb, leb-false, lt-leb, ltb-false}
use lib.Dec.{leb, ltb}
use mathlib.Core.Bool.{Bool, ◌&&◌, ◌||◌, false, true}
use mathlib.Core.Path.{◌≡◌, ap, ap₂, fun_ext}
use Rattle.lists.specs.Tests.{any_in, count_below}
use Rattle.lists.proofs.Bools.{nor-l, nor-r}
use Rattle.method.specs.Changes.{Control}
use Rattle.method.specs.ControlPart.{active}
use Rattle.method.specs.Parameters.{Parameters}
use Rattle.method.specs.PlainList.{stops_now}
use Rattle.method.specs.Rules.{lost_of, stopping}
use Rattle.method.proofs.Laws.{Laws}

-- ---- what the stop rule says of one placement
module _ (P : Parameters) (σ : P.Setting) (working failed m : P.Mask) where
  open P use {cards, copies, has}

  -- a placement that is not lost has fewer failed members than copies, and as many working members as copies
  pub few-failed : lost_of P σ working failed m ≡ false → count_below cards (λ c. has m c && has failed c) < copies σ
  unfolding lost_of
  few-failed e =
      let x : ℕ = count_below cards (λ c. has m c && has failed c) in
      let y : ℕ = count_below cards (λ c. has m c && has working c) in
      leb-false (copies σ) x (nor-l (leb (copies σ) x) (ltb y (copies σ)) e)

  pub enough-work : lost_of P σ working failed m ≡ false → copies σ ≤ count_below cards (λ c. has m c && has working c)
  unfolding lost_of
  enough-work e =
      let x : ℕ = count_below cards (λ c. has m c && has failed c) in
      let y : ℕ = count_below cards (λ c. has m c && has working c) in
      ltb-false y (copies σ) (nor-r (leb (copies σ) x) (ltb y (copies σ)) e)

  -- and one of which both hold is not lost
  pub not-lost : count_below cards (λ c. has m c && has failed c) < copies σ → copies σ ≤ count_below cards (λ c. has m c && has working c)
      → lost_of P σ working failed m ≡ false
  unfolding lost_of
  not-lost a b = rw (lt-leb (copies σ) (count_below cards (λ c. has m c && has failed c)) a, le-ltb (count_below cards (λ c. has m c && has working c)) (copies σ) b)

-- ---- the two writings of the stop rule
module _ (P : Parameters) (L : Laws P) where
  open P use {Placement, cards, copies}
  open L use {has-insert, has-remove}

  pub stop-same : (k : Control P) (c : ℕ) → ltb c cards ≡ true → stops_now P k c ≡ stopping P k c
  unfolding stops_now stopping lost_of
  stop-same k c c-ok = ap (λ (f : Placement → Bool). any_in f (active k)) (fun_ext (λ p. ap₂
      (λ (x y : ℕ → Bool). leb (copies k.setting) (count_below cards x) || ltb (count_below cards y) (copies k.setting))
      (fun_ext (λ x. rw (has-insert k.failed c x c-ok))) (fun_ext (λ x. rw (has-remove k.working c x)))))
