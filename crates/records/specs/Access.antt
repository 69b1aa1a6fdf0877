-- What a call on a record finds before it reads or writes. Assumes nothing.
use Rattle.std.specs.Prelude.{Result, IfOk, ◌/◌, ◌<◌, ℕ, eqb, ltb, Bool, ◌&&◌, cond, not, ◌≡◌}
use Rattle.refusals.specs.Refusals.{row_of}
use Rattle.refusals.specs.declared.Refusal.{Refusal}
use Rattle.image.specs.Layout.{most_active, record_count, slot_count}
use Rattle.mask.specs.Placements.{Usable}
use Rattle.method.specs.ControlPart.{is_open}
use Rattle.method.specs.Rules.{get, row}
use Rattle.control.specs.ControlBytes.{Part}
use Rattle.control_form.specs.ControlForm.{form_refusal}
use Rattle.cabinet_rules.specs.Cabinet.{tran_ok}
use Rattle.cabinet_rules.specs.Images.{Image, control_in, refusal_on}
use Rattle.promise.specs.Given.{rows_on}
use Rattle.trail.specs.Trail.{Lists, holders_in, shown_at}
use Rattle.records.specs.declared.access.Access.{Access}

-- Rows 3, 4 and 5 of a call of transaction t on record r.
abbrev pub early_rows : Part → ℕ → ℕ → ℕ
early_rows k t r =
    row 3 (not (tran_ok t && ltb r record_count)) (
    row 4 k.stopped (
    row 5 (not (is_open k t)) 0))

-- The newest placement is number i of those that the bytes show, and it is usable.
pub record IsNewest (g : Image) (i : ℕ) : Type 0 where
  pub there : i < most_active
  pub usable : Usable (shown_at g i)
  pub is : shown_at g i ≡ (control_in g).newest

-- No row applies, and the holders of the record's block and the newest placement are found.
pub record Prepared (g : Image) (t r : ℕ) (a : Access) : Type 0 where
  pub formed : form_refusal g ≡ 0
  pub accepted : 0 ≡ rows_on (get t r) g
  pub newest-is : IsNewest g a.newest
  pub holders-are : Lists a.holders (holders_in g (r / slot_count))

-- The row of the refusal table that applies to a get of the record, or else what it goes on with.
pub record LooksUp (g : Image) (t r : ℕ) (a : Result Access Refusal) : Type 0 where
  pub refusal_is : row_of a ≡ refusal_on (get t r) g
  pub ready : IfOk a (Prepared g t r)

-- The refusal of a store, from that of a get of the record: where the value is not in range 3 applies too, and the lowest
-- number is returned.
unfoldable pub with_value : Bool → ℕ → ℕ
with_value fits of_get = cond fits of_get (cond (eqb of_get 0) 3 (cond (ltb of_get 3) of_get 3))
