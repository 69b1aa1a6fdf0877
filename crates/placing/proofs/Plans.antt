-- The promise of place by table on an image that was read: refused by a row, or accepted with the placement written. The rows ask of the placements only how
-- many there are, so those of the struct, which has no pairs, are those of the image. Assumes nothing.
use Prim.Native.Nat.{ℕ}
use lib.Dec.{leb}
use lib.ListN.{length, length-map}
use mathlib.Core.Bool.{not}
use mathlib.Core.List.{List}
use mathlib.Core.Path.{◌∙◌, ◌≡◌, ap, refl, sym}
use Rattle.image.specs.Layout.{most_placed}
use Rattle.mask.specs.Placements.{pairless}
use Rattle.table_lines.specs.Lines.{are_lines, has_gap, has_overlap, lines_work}
use Rattle.method.specs.ControlPart.{active}
use Rattle.method.specs.Rules.{Plan, act, ok, place, refusal, row, stamp_all, stamping, unwritten}
use Rattle.control.specs.ControlBytes.{Part, front_part}
use Rattle.control.specs.Meaning.{meaning}
use Rattle.control.specs.declared.Control.{Control as Struct}
use Rattle.control.proofs.Front.{active-front}
use Rattle.cabinet_rules.specs.Cabinet.{cabinet}
use Rattle.cabinet_rules.specs.Images.{Image, control_in, plan_on}
use Rattle.cabinet_rules.specs.Places.{by_lines, is_spent, placed_row, table_rows}
use Rattle.promise.specs.Given.{Given, rows_on}
use Rattle.promise.specs.Promise.{Done}
use Rattle.promise.specs.declared.Answer.{Answer as AnswerValue}
use Rattle.promise.specs.declared.Answer.TheVariants.{Accepted}
use Rattle.std.specs.Prelude.{Result, Ok}
use Rattle.refusals.specs.Refusals.{number}
use Rattle.refusals.specs.declared.Refusal.{Refusal}
use Rattle.refusals.proofs.HandedOn.{HandsOn}
use Rattle.promise.proofs.Finish.{by-plan, by-rules}
use Rattle.placing.specs.Placed.{table_added, with_table}
use Rattle.placing.proofs.Rows.{rows_of}

-- ---- rows without pairs
rows-front : (l : List ℕ) (k : Part) → rows_of l (front_part k) ≡ rows_of l k
unfolding refusal table_rows placed_row
rows-front l k = ap (λ (n : ℕ). row 3 (not (are_lines l)) (row 4 k.stopped (row 9 (not (lines_work k.working l)) (
    row 17 (has_gap l) (row 18 (has_overlap l) (row 10 (leb most_placed n) (row 20 (is_spent k.serial) 0)))))))
    (ap length (sym (active-front k)) ∙ length-map (active k) pairless)

-- they look at no block
rows-there : (l : List ℕ) (g : Image) → rows_of l (control_in g) ≡ rows_on (place (by_lines l)) g
unfolding refusal
rows-there l g = refl

-- ---- the rules' plan
abbrev table_plan : List ℕ → Image → Plan cabinet
table_plan l g = stamping cabinet (unwritten cabinet ok (table_added l g)) (stamp_all cabinet (table_added l g))

plan-is : (l : List ℕ) (g : Image) → plan_on (place (by_lines l)) g ≡ table_plan l g
unfolding act
plan-is l g = refl

-- ---- on an image that was read
module _ {k : Struct} {g : Image} (is : Given k g) (l : List ℕ) where
  rows_on_lem : {n : ℕ} → n ≡ rows_of l (meaning k) → n ≡ rows_on (place (by_lines l)) g
  rows_on_lem e = e ∙ ap (rows_of l) is.is.means ∙ rows-front l (control_in g) ∙ rows-there l g

  pub table-refused : (r : Refusal) (a : Result AnswerValue Refusal) → number r ≡ rows_of l (meaning k) → HandsOn r a → Done (place (by_lines l)) g a g
  table-refused r a e = by-rules (place (by_lines l)) refl g is.formed r a (rows_on_lem e)

  pub table_done : 0 ≡ rows_of l (meaning k) → (behind : Image) → behind ≡ with_table l g → Done (place (by_lines l)) g (Ok Accepted) behind
  unfolding with_table
  table_done e behind w = by-plan (place (by_lines l)) refl g is.formed Accepted (table_plan l g) behind (rows_on_lem e) (plan-is l g) refl
      w
