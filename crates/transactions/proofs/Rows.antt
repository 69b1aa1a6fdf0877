-- What begin, commit and rollback ask of the rules, and what an accepted one has shown. Assumes nothing.
use Prim.Native.Nat.{◌<◌, ℕ}
use borrow.Author.Tests.{ltb-true}
use lib.Dec.{eqb, ltb}
use mathlib.Core.Bool.{Bool, ◌&&◌, false, not, true}
use mathlib.Core.Path.{◌≡◌, refl, sym}
use Rattle.lists.proofs.Bools.{and_l, and_r, not-not-is}
use Rattle.image.specs.Layout.{card_count, tran_bound}
use Rattle.method.specs.ControlPart.{closed, opened}
use Rattle.method.specs.Rules.{is_start, View, act, begin, end_held, ok, refusal, unwritten, writing}
use Rattle.method.proofs.Refusals.{row-clear}
use Rattle.control.specs.ControlBytes.{Part}
use Rattle.cabinet_rules.specs.Cabinet.{cabinet, tran_ok}
use Rattle.promise.specs.Rows.{tran_rows}
use Rattle.promise.proofs.SharedRows.{tran-range}
use Rattle.transactions.specs.Transactions.{begin_rows, end_call}

-- ---- the rows, whatever the tables hold, and the plans
module _ (k : Part) (v : View cabinet) (t : ℕ) where
  pub begin-rows : (h : ℕ) → begin_rows k t h ≡ refusal cabinet (begin t h) k v
  unfolding begin_rows refusal
  begin-rows h = refl

  pub begin-plan : (h : ℕ) → act cabinet (begin t h) k v ≡ unwritten cabinet ok (opened k t h)
  unfolding act
  begin-plan h = refl

  pub end-rows : (take : Bool) → tran_rows k t ≡ refusal cabinet (end_call take t) k v
  unfolding tran_rows refusal
  end-rows true = refl
  end-rows false = refl

  pub end-plan : (take : Bool) → act cabinet (end_call take t) k v ≡ writing cabinet ok (closed k (λ x. eqb x t)) (end_held cabinet take (λ x. eqb x t) v)
  unfolding act
  end-plan true = refl
  end-plan false = refl

-- The end of a transaction is no start.
pub end-late : (take : Bool) (t : ℕ) → is_start (end_call take t) ≡ false
end-late true t = refl
end-late false t = refl

-- ---- the numbers of a call that is not refused
pub record Begins (t h : ℕ) : Type 0 where
  pub tran : (0 < t) × (t < tran_bound)
  pub card : h < card_count

pub begins : (k : Part) (t h : ℕ) → 0 ≡ begin_rows k t h → Begins t h
unfolding begin_rows refusal
begins k t h e =
    let r = not-not-is (tran_ok t && ltb h card_count) (row-clear (not (tran_ok t && ltb h card_count)) 2 (sym e)).0 in
    record { tran = tran-range t (and_l (tran_ok t) (ltb h card_count) r); card = ltb-true h card_count (and_r (tran_ok t) (ltb h card_count) r) }
