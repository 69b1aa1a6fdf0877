-- What the look-up of a record has found, by the facts that the code has at each of its ends. Assumes nothing.
use Prim.Native.Nat.{◌-◌, ◌/◌, ◌<◌, ℕ}
use lib.Dec.{ltb}
use mathlib.Core.Bool.{Bool, ◌&&◌, and-true, false, not, true}
use mathlib.Core.Logic.{◌≢◌}
use mathlib.Core.Path.{◌∙◌, ◌≡◌, ap, refl, subst, sym}
use native.Mathlib.Omega.{arith}
use Rattle.image.specs.Layout.{record_count, slot_count}
use Rattle.method.specs.ControlPart.{is_open}
use Rattle.method.specs.Rules.{View, delete, get, refusal, row, store}
use Rattle.method.proofs.Refusals.{row-3}
use Rattle.control.specs.ControlBytes.{Part}
use Rattle.control.specs.Meaning.{meaning}
use Rattle.control.specs.declared.Control.{Control as Struct}
use Rattle.std.specs.Prelude.{Result, Ok, Err}
use Rattle.refusals.specs.Refusals.{number}
use Rattle.refusals.specs.declared.Refusal.{Refusal}
use Rattle.refusals.proofs.HandedOn.{HandsOn, handed-on}
use Rattle.cabinet_rules.specs.Cabinet.{cabinet, tran_ok}
use Rattle.cabinet_rules.specs.Delivery.{storable}
use Rattle.cabinet_rules.specs.Images.{Image, control_in, refusal_on}
use Rattle.promise.specs.Given.{Given, rows_on}
use Rattle.promise.proofs.Finish.{refusal-rules}
use Rattle.trail.specs.Trail.{Lists, holders_in}
use Rattle.trail.specs.declared.Holders.{Holders}
use Rattle.trail.proofs.Holding.{newest-last, usable_at}
use Rattle.records.specs.Access.{IsNewest, LooksUp, Prepared, early_rows}
use Rattle.records.specs.Slots.{locked_out_in}
use Rattle.records.specs.declared.access.Access.{Access}
use Rattle.records.proofs.Rows.{rec-lt}

-- ---- the rows of the three calls are those of get, where a value is in range
pub store-rows : (k : Part) (v : View cabinet) (t r n : ℕ) → storable n ≡ true → refusal cabinet (get t r) k v ≡ refusal cabinet (store t r n) k v
unfolding refusal
store-rows k v t r n h = rw (h, and-true (tran_ok t && ltb r record_count))

pub delete-rows : (k : Part) (v : View cabinet) (t r : ℕ) → refusal cabinet (get t r) k v ≡ refusal cabinet (delete t r) k v
unfolding refusal
delete-rows k v t r = refl

-- ---- rows 3, 4 and 5, with those below them
rows_more : (a s o : Bool) (n below : ℕ) → n ≢ 0 → n ≡ row 3 (not a) (row 4 s (row 5 (not o) 0)) → n ≡ row 3 (not a) (row 4 s (row 5 (not o) below))
rows_more false s o n below d e = e
rows_more true true o n below d e = e
rows_more true false false n below d e = e
rows_more true false true n below d e = absurd (d e)

rows-clear : (a s o : Bool) (below : ℕ) → row 3 (not a) (row 4 s (row 5 (not o) 0)) ≡ 0 → row 3 (not a) (row 4 s (row 5 (not o) below)) ≡ below
rows-clear false s o below e = absurd (omega arith)
rows-clear true true o below e = absurd (omega arith)
rows-clear true false false below e = absurd (omega arith)
rows-clear true false true below e = refl

module _ (g : Image) (t r : ℕ) where
  pub refused-up : (x : Refusal) → number x ≡ refusal_on (get t r) g → LooksUp g t r (Err x)
  refused-up x e = record { refusal_is = e; ready = tt }

  pub handed-up : (x : Refusal) (a : Result Access Refusal) → number x ≡ refusal_on (get t r) g → HandsOn x a → LooksUp g t r a
  handed-up x a e h = rw (handed-on a h) (refused-up x e)

  module _ {k : Struct} (is-given : Given k g) {n : ℕ} (e : n ≡ early_rows (meaning k) t r) where
    whole-table : rows_on (get t r) g ≡ refusal_on (get t r) g
    whole-table = sym (refusal-rules (get t r) refl g is-given.formed)

    early-is : n ≡ early_rows (control_in g) t r
    early-is = e ∙ ap (λ (p : Part). early_rows p t r) is-given.is.means

    pub early-row : n ≢ 0 → n ≡ refusal_on (get t r) g
    early-row d =
        unfold refusal in (rows_more (tran_ok t && ltb r record_count) (control_in g).stopped (is_open (control_in g) t) n (row 7 (locked_out_in g t r) 0) d early-is)
        ∙ whole-table

    -- none of 3, 4 and 5 applies
    module _ (clear : n ≡ 0) where
      ranges : (tran_ok t && ltb r record_count) ≡ true
      ranges = (row-3 (tran_ok t && ltb r record_count) (sym early-is ∙ clear)).0

      pub rec-known : r < record_count
      rec-known = rec-lt t r ranges

      late-row : (b : Bool) → locked_out_in g t r ≡ b → row 7 b 0 ≡ rows_on (get t r) g
      late-row b l = ap (λ (x : Bool). row 7 x 0) (sym l)
          ∙ sym (unfold refusal in (rows-clear (tran_ok t && ltb r record_count) (control_in g).stopped (is_open (control_in g) t) (row 7 (locked_out_in g t r) 0) (sym early-is ∙ clear)))

      pub locked-row : locked_out_in g t r ≡ true → 7 ≡ refusal_on (get t r) g
      locked-row l = late-row true l ∙ whole-table

      newest-shown : IsNewest g (k.count - 1)
      newest-shown = record {
        there = omega (arith, is-given.is.counted.few, is-given.is.counted.some);
        usable = usable_at k g is-given (k.count - 1) (omega (arith, is-given.is.counted.some));
        is = newest-last k g is-given;
      }

      pub ready_up : (a : Access) → locked_out_in g t r ≡ false → a.newest ≡ k.count - 1
          → Lists a.holders (holders_in g (r / slot_count)) → LooksUp g t r (Ok a)
      ready_up a l new held = record {
        refusal_is = late-row false l ∙ whole-table;
        ready = record {
          formed = is-given.formed;
          accepted = late-row false l;
          newest-is = subst (IsNewest g) (sym new) newest-shown;
          holders-are = held;
        };
      }

-- what was looked up and is no refusal
pub prepared : {g : Image} {t r : ℕ} {x : Result Access Refusal} {a : Access} → LooksUp g t r x → x ≡ Ok a → Prepared g t r a
prepared {g} {t} {r} l e = (subst (LooksUp g t r) e l).ready

-- the holders of a block that has another name
pub lists_at : (g : Image) (h : Holders) {b d : ℕ} → b ≡ d → Lists h (holders_in g b) → Lists h (holders_in g d)
lists_at g h e l = subst (λ (x : ℕ). Lists h (holders_in g x)) e l
