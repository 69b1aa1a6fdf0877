-- What a call has shown that the shared rows do not refuse, and the row of a stopped store. Assumes nothing.
use Prim.Native.Nat.{◌<◌, ℕ}
use borrow.Author.Tests.{ltb-true}
use lib.Dec.{ltb}
use lib.ListN.{get_or}
use mathlib.Core.Bool.{Bool, false, not, true}
use mathlib.Core.Path.{◌≡◌, ap, sym}
use Rattle.lists.proofs.Bools.{and_l, and_r, not-not-is}
use Rattle.image.specs.Layout.{card_count, tran_bound}
use Rattle.mask.specs.Masks.{has_card}
use Rattle.method.specs.ControlPart.{is_open}
use Rattle.method.specs.Rules.{refusal, row, state}
use Rattle.method.proofs.Refusals.{row-3, row-clear}
use Rattle.control.specs.ControlBytes.{Part, control_of, tail_at}
use Rattle.control.specs.Meaning.{meaning}
use Rattle.control.specs.declared.Control.{Control}
use Rattle.cabinet_rules.specs.Cabinet.{tran_ok}
use Rattle.cabinet_rules.specs.Images.{Image, control_in}
use Rattle.promise.specs.Given.{Given, rows_on}
use Rattle.promise.specs.Rows.{card_rows, tran_rows}

pub card-accepted : (k : Part) (c : ℕ) → 0 ≡ card_rows k c → (c < card_count) × (k.stopped ≡ false) × (has_card k.working c ≡ true)
unfolding card_rows
card-accepted k c e =
    let r3 = row-3 (ltb c card_count) (sym e) in
    let r4 = row-clear k.stopped 3 r3.1 in
    let r8 = row-clear (not (has_card k.working c)) 7 r4.1 in
    (ltb-true c card_count r3.0, r4.0, not-not-is (has_card k.working c) r8.0)

-- a transaction in its range
pub tran-range : (t : ℕ) → tran_ok t ≡ true → (0 < t) × (t < tran_bound)
tran-range t e = (ltb-true 0 t (and_l (ltb 0 t) (ltb t tran_bound) e), ltb-true t tran_bound (and_r (ltb 0 t) (ltb t tran_bound) e))

pub tran-accepted : (k : Part) (t : ℕ) → 0 ≡ tran_rows k t → (0 < t) × (t < tran_bound)
unfolding tran_rows
tran-accepted k t e = tran-range t (row-3 (tran_ok t) (sym e)).0

-- ---- a stopped store
module _ (k : Control) (g : Image) (is : Given k g) where
  pub stopped-is : k.stopped ≡ (control_in g).stopped
  unfolding meaning
  stopped-is = ap (λ (p : Part). p.stopped) is.is.means

  -- the only row of a call without arguments
  pub state-rows : row 4 k.stopped 0 ≡ rows_on state g
  unfolding refusal
  state-rows = ap (λ (t : Bool). row 4 t 0) stopped-is

-- Whether a transaction is open, by the struct and by the bytes.
pub open-given : {k : Control} {g : Image} → Given k g → (t : ℕ) → is_open (meaning k) t ≡ is_open (control_of (λ n. get_or g n 0) (tail_at g)) t
open-given given t = ap (λ (p : Part). is_open p t) given.is.means

-- ---- rows that ask nothing of how sites are chosen are the same by the struct and by the bytes
pub card-given : {k : Control} {g : Image} → Given k g → (c : ℕ) → card_rows (meaning k) c ≡ card_rows (control_in g) c
unfolding card_rows
card-given given c = ap (λ (p : Part). card_rows p c) given.is.means
