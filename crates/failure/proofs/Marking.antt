-- What a fail has shown once the card is marked: the rows, the card's range, the promise of a refused call, and that of a stopped store, which only
-- marks the card. Assumes nothing.
use Prim.Native.Nat.{◌<◌, ℕ}
use borrow.Author.Tests.{ltb-true}
use lib.Dec.{ltb}
use mathlib.Core.Bool.{Bool, and-false, cond, false, not, true}
use mathlib.Core.Path.{◌∙◌, ◌≡◌, ap, refl, sym}
use Rattle.image.specs.Layout.{card_count}
use Rattle.mask.specs.Masks.{has_card, with_card, without_card}
use Rattle.method.specs.Changes.{marked}
use Rattle.method.specs.ControlPart.{with_cards}
use Rattle.method.specs.Rules.{act, fail, fail_plan, refusal, row, stop_plan, stopping, stops, unwritten}
use Rattle.method.proofs.Refusals.{row-3}
use Rattle.control.specs.ControlBytes.{Part, front_part}
use Rattle.control.specs.Meaning.{Is, meaning, put_control}
use Rattle.control.specs.declared.Control.{Control as Struct}
use Rattle.cabinet_rules.specs.Cabinet.{cabinet}
use Rattle.cabinet_rules.specs.Images.{Image, control_in, plan_on}
use Rattle.promise.specs.Given.{Given, rows_on, view_of}
use Rattle.promise.specs.Promise.{Done}
use Rattle.promise.specs.declared.Answer.{Answer as AnswerValue}
use Rattle.promise.specs.declared.Answer.TheVariants.{Stopped}
use Rattle.std.specs.Prelude.{Result, Ok}
use Rattle.refusals.specs.Refusals.{number}
use Rattle.refusals.specs.declared.Refusal.{Refusal}
use Rattle.refusals.proofs.HandedOn.{HandsOn}
use Rattle.promise.proofs.Finish.{by-control, by-rules, form-good}
use Rattle.promise.proofs.Laid.{same-tail}
use Rattle.promise.proofs.SharedRows.{stopped-is}
use Rattle.failure.specs.Failing.{Failing, fail_rows}

-- a fail has no row 4
fail-rows : (g : Image) (c : ℕ) → fail_rows (control_in g) c ≡ rows_on (fail c) g
unfolding fail_rows refusal
fail-rows g c = ap (λ (t : Bool). row 3 (not (ltb c card_count)) (row 4 t (row 8 (not (has_card (control_in g).working c)) 0))) (sym (and-false (control_in g).stopped))

pub rows-range : (k : Part) (c : ℕ) → 0 ≡ fail_rows k c → c < card_count
unfolding fail_rows
rows-range k c e = ltb-true c card_count (row-3 (ltb c card_count) (sym e)).0

module _ {k : Struct} {g : Image} (is : Given k g) (c : ℕ) where
  rows_on_lem : {n : ℕ} → n ≡ fail_rows (meaning k) c → n ≡ rows_on (fail c) g
  unfolding fail_rows
  rows_on_lem e = e ∙ ap (λ (p : Part). fail_rows p c) is.is.means ∙ fail-rows g c

  pub fail-refused : (r : Refusal) (a : Result AnswerValue Refusal) → number r ≡ fail_rows (meaning k) c → HandsOn r a → Done (fail c) g a g
  fail-refused r a e = by-rules (fail c) refl g is.formed r a (rows_on_lem e)

  -- no row applies, and the card is marked
  module _ {m : Struct} (e : 0 ≡ fail_rows (meaning k) c)
      (im : Is m (with_cards (meaning k) (without_card (meaning k).working c) (with_card (meaning k).failed c))) where
    marks : meaning m ≡ front_part (marked cabinet (control_in g) c)
    marks = im.means ∙ ap (λ (x : Part). marked cabinet x c) is.is.means

    -- in a running store
    pub failing : k.stopped ≡ false → Failing m g c
    failing r = record {
      formed = is.formed;
      running = sym (stopped-is k g is) ∙ r;
      accepted = rows_on_lem e;
      is = record { counted = im.counted; means = marks };
    }

    -- in one that has stopped
    mark-plan : k.stopped ≡ true → plan_on (fail c) g ≡ unwritten cabinet stops (marked cabinet (control_in g) c)
    unfolding act
    mark-plan r = ap (λ (b : Bool). cond b (unwritten cabinet stops (marked cabinet (control_in g) c))
        (cond (stopping cabinet (control_in g) c) (stop_plan cabinet (control_in g) (view_of g) c) (fail_plan cabinet (control_in g) (view_of g) c))) (sym (stopped-is k g is) ∙ r)

    pub marked-done : k.stopped ≡ true → (behind : Image) → behind ≡ put_control g (meaning m) → Done (fail c) g (Ok Stopped) behind
    marked-done r behind l = by-control (fail c) refl g is.formed Stopped (marked cabinet (control_in g) c) behind (rows_on_lem e) (mark-plan r)
        (same-tail g (form-good g is.formed)) (l ∙ ap (put_control g) marks)

-- the card is one of the cabinet
pub in-range : {m : Struct} {g : Image} {c : ℕ} → Failing m g c → c < card_count
in-range {g = g} {c = c} f = rows-range (control_in g) c (f.accepted ∙ sym (fail-rows g c))
