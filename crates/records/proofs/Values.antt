-- The refusal of a store, from that of a get and the value's range. Assumes nothing.
use Prim.Native.Nat.{◌<◌, ◌≤◌, ℕ}
use borrow.Author.Tests.{eq-eqb, eqb-false, le-ltb, lt-ltb, ne_eqb}
use lib.Dec.{eqb, ltb}
use lib.ListN.{length}
use mathlib.Core.Bool.{Bool, ◌&&◌, and-true, cond, false, not, true}
use mathlib.Core.Logic.{◌≢◌}
use mathlib.Core.Path.{◌≡◌, refl}
use native.Mathlib.Omega.{arith}
use Rattle.image.specs.Layout.{image_size, record_count}
use Rattle.method.specs.ControlPart.{is_open}
use Rattle.method.specs.Rules.{get, refusal, row, store}
use Rattle.control_form.specs.ControlForm.{control_form}
use Rattle.cabinet_rules.specs.Cabinet.{tran_ok}
use Rattle.cabinet_rules.specs.Delivery.{broken_wire, storable}
use Rattle.cabinet_rules.specs.Images.{Image, control_in, refusal_by, refusal_on}
use Rattle.records.specs.Access.{with_value}
use Rattle.records.specs.Slots.{locked_out_in}

-- ---- by what the code asks: the value, and the refusal m of the get
module _ (n m : ℕ) where
  pub in-range : n < broken_wire → m ≡ with_value (storable n) m
  unfolding with_value
  in-range h = rw (lt-ltb n broken_wire h)

  module _ (over : broken_wire ≤ n) where
    pub over-accepted : m ≡ 0 → 3 ≡ with_value (storable n) m
    unfolding with_value
    over-accepted e = rw (le-ltb n broken_wire over, eq-eqb m 0 e)

    pub over-low : m ≢ 0 → m < 3 → m ≡ with_value (storable n) m
    unfolding with_value
    over-low d l = rw (le-ltb n broken_wire over, ne_eqb m 0 d, lt-ltb m 3 l)

    pub over-high : m ≢ 0 → 3 ≤ m → 3 ≡ with_value (storable n) m
    unfolding with_value
    over-high d h = rw (le-ltb n broken_wire over, ne_eqb m 0 d, le-ltb m 3 h)

-- ---- it is the refusal of the store
-- rows 1 and 2 apply by a and b; the numbers of the get are in range by x, the value by fits; 4, 5 and 7 apply by s, o and l
with_rows : (fits a b x s o l : Bool)
    → with_value fits (row 1 a (row 2 b (row 3 (not x) (row 4 s (row 5 o (row 7 l 0)))))) ≡ row 1 a (row 2 b (row 3 (not (x && fits)) (row 4 s (row 5 o (row 7 l 0)))))
unfolding with_value
with_rows true a b x s o l = rw (and-true x)
with_rows false true b x s o l = refl
with_rows false false true x s o l = refl
with_rows false false false false s o l = refl
with_rows false false false true true o l = refl
with_rows false false false true false true l = refl
with_rows false false false true false false true = refl
with_rows false false false true false false false = refl

pub with-table : (g : Image) (t r n : ℕ) → with_value (storable n) (refusal_on (get t r) g) ≡ refusal_on (store t r n) g
unfolding refusal_by refusal
with-table g t r n =
    with_rows (storable n) (not (eqb (length g) image_size)) (not (control_form g)) (tran_ok t && ltb r record_count) (control_in g).stopped
    (not (is_open (control_in g) t)) (locked_out_in g t r)

-- no row applies: the value is in range, and the get is accepted
pub with-clear : (fits : Bool) (m : ℕ) → with_value fits m ≡ 0 → (fits ≡ true) × (m ≡ 0)
unfolding with_value
with-clear true m e = (refl, e)
with-clear false m e = absurd (go (eqb m 0) refl e)
  where
    go : (z : Bool) → eqb m 0 ≡ z → cond z 3 (cond (ltb m 3) m 3) ≡ 0 → ⊥
    go true y h = omega arith
    go false y h = low (ltb m 3) h
      where
        low : (l : Bool) → cond l m 3 ≡ 0 → ⊥
        low true h = eqb-false m 0 y h
        low false h = omega arith
