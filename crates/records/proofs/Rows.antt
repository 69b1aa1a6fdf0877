-- The rows of the refusal table that a call on a record asks. Assumes nothing.
use Prim.Native.Nat.{◌<◌, ◌≤◌, ℕ}
use borrow.Author.Tests.{le-ltb, lt-ltb, ltb-true}
use lib.Dec.{ltb}
use mathlib.Core.Bool.{Bool, ◌&&◌, and-false, and-true, not, true}
use mathlib.Core.Path.{◌∙◌, ◌≡◌, ap, sym}
use Rattle.lists.proofs.Bools.{and_l, and_r}
use Rattle.image.specs.Layout.{record_count, tran_bound}
use Rattle.method.specs.ControlPart.{is_open}
use Rattle.method.specs.Rules.{row}
use Rattle.control.specs.ControlBytes.{Part}
use Rattle.cabinet_rules.specs.Cabinet.{tran_ok}
use Rattle.promise.specs.Rows.{tran_rows}
use Rattle.promise.proofs.SharedRows.{tran-range}
use Rattle.records.specs.Access.{early_rows}

-- ---- the ranges of a transaction and a record
module _ (t r : ℕ) (e : (tran_ok t && ltb r record_count) ≡ true) where
  pub tran-lt : t < tran_bound
  tran-lt = (tran-range t (and_l (tran_ok t) (ltb r record_count) e)).1

  pub rec-lt : r < record_count
  rec-lt = ltb-true r record_count (and_r (tran_ok t) (ltb r record_count) e)

-- ---- rows 3, 4 and 5, by the record's range
module _ (k : Part) (t r : ℕ) where
  pub early-over : record_count ≤ r → 3 ≡ early_rows k t r
  early-over h = rw (le-ltb r record_count h, and-false (tran_ok t))

  pub early-in : r < record_count → tran_rows k t ≡ early_rows k t r
  unfolding tran_rows
  early-in h = ap (λ (x : Bool). row 3 (not x) (row 4 k.stopped (row 5 (not (is_open k t)) 0)))
      (sym (ap (λ (x : Bool). tran_ok t && x) (lt-ltb r record_count h) ∙ and-true (tran_ok t)))
