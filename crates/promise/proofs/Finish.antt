-- The laws that finish the proof of a call: refused by 1 or 2, refused by a later row, accepted with nothing changed, with a new control part,
-- with blocks written. Assumes nothing.
use Prim.Native.Nat.{suc, zero, ℕ}
use borrow.Author.Tests.{eq-eqb}
use lib.Dec.{eqb}
use lib.ListN.{length}
use mathlib.Core.Bool.{Bool, false, not, true}
use mathlib.Core.Logic.{◌≢◌}
use mathlib.Core.Option.{none}
use Rattle.std.specs.Prelude.{Result, Ok, Err}
use Rattle.refusals.specs.Refusals.{number}
use Rattle.refusals.proofs.HandedOn.{HandsOn, handed-on}
use Rattle.refusals.proofs.Numbers.{not-none}
use Rattle.refusals.specs.declared.Refusal.{Refusal}
use mathlib.Core.Path.{◌∙◌, ◌≡◌, ap, ap₂, refl, sym}
use Rattle.image.specs.Layout.{card_count, image_size}
use Rattle.image.specs.Parts.{Whole}
use Rattle.method.specs.PlainList.{or_refused}
use Rattle.method.specs.Rules.{is_start, Call, Plan, refused, row, stamp_all, stamping, unwritten, writing, unless_refused}
use Rattle.control.specs.ControlBytes.{Part, front_part}
use Rattle.control_form.specs.ControlForm.{control_form, form_refusal}
use Rattle.control.specs.Meaning.{put_control}
use Rattle.control.specs.Stamps.{put_stamps, stamp_of}
use Rattle.control_form.specs.Reading.{Reads}
use Rattle.control.specs.declared.Control.{Control}
use Rattle.cabinet_rules.specs.Cabinet.{cabinet}
use Rattle.cabinet_rules.specs.Delivery.{current}
use Rattle.cabinet_rules.specs.Images.{Image, Writes, after_plan, answer, answer_by, control_in, next, next_by, plan_on}
use Rattle.cabinet_rules.specs.Images.{refusal_by, refusal_on}
use Rattle.promise.specs.Given.{Given, rows_on}
use Rattle.promise.specs.Promise.{Done, said}
use Rattle.promise.specs.Laid.{laid}
use Rattle.promise.proofs.Laid.{KeepsTail, kept-control, laid_none, write-control, write-stamps}
use Rattle.promise.specs.declared.Answer.{Answer as AnswerValue}
-- what an image that passes 1 and 2 has shown
pub use Rattle.cabinet_rules.proofs.Running.{form-good, form-long}

-- ---- what reading the control part of an image that passes 1 and 2 gives
pub given : {g : Image} {k : Control} → Reads g (Ok k) → Given k g
given f = record { formed = sym f.refusal_is; is = f.good }

pub given-whole : {k : Control} {g : Image} → Given k g → Whole g
given-whole {g = g} is = form-long g is.formed

-- refused, by any row
pub by_row : (c : Call cabinet) (g : Image) (r : Refusal) → number r ≡ refusal_on c g → Done c g (Err r) g
unfolding answer_by next_by
by_row c g r e = let f = go (number r) e (not-none r) in record { answers = f.0; leaves = f.1 }
  where
    go : (n : ℕ) → n ≡ refusal_on c g → n ≢ 0 → (refused n ≡ answer c g) × (g ≡ next c g)
    go zero h d = absurd (d refl)
    go (suc n) h d = let r : refusal_on c g ≡ suc n = sym h in (rw r, rw r)

module _ (c : Call cabinet) (late : is_start c ≡ false) (g : Image) where
  -- 1 and 2
  pub form-row : (n : ℕ) → n ≡ form_refusal g → n ≢ 0 → n ≡ refusal_on c g
  unfolding refusal_by form_refusal
  form-row n e d = rw late (go (not (eqb (length g) image_size)) (not (control_form g)) e)
    where
      go : (a b : Bool) → n ≡ row 1 a (row 2 b 0) → n ≡ row 1 a (row 2 b (rows_on c g))
      go true b h = h
      go false true h = h
      go false false h = absurd (d h)

  pub by_form : (r : Refusal) (a : Result AnswerValue Refusal) → Reads g (Err r) → HandsOn r a → Done c g a g
  by_form r a reads h = rw (handed-on a h) (by_row c g r (form-row (number r) reads.refusal_is (not-none r)))

  module _ (clear : form_refusal g ≡ 0) where
    pub refusal-rules : refusal_on c g ≡ rows_on c g
    unfolding refusal_by
    refusal-rules = rw (eq-eqb (length g) image_size (form-long g clear), form-good g clear, late)

    -- 3 and up
    pub refused-by-rules : (r : Refusal) → number r ≡ rows_on c g → Done c g (Err r) g
    refused-by-rules r e = by_row c g r (e ∙ sym refusal-rules)

    pub by-rules : (r : Refusal) (a : Result AnswerValue Refusal) → number r ≡ rows_on c g → HandsOn r a → Done c g a g
    by-rules r a e h = rw (handed-on a h) (refused-by-rules r e)

    -- accepted: the plan's answer, and the image after the plan
    pub by-plan : (a : AnswerValue) (p : Plan cabinet) (behind : Image) → 0 ≡ rows_on c g → plan_on c g ≡ p
        → said a ≡ p.answer → behind ≡ after_plan current p g → Done c g (Ok a) behind
    unfolding answer_by next_by
    by-plan a p behind e q s l =
        let r : refusal_on c g ≡ 0 = refusal-rules ∙ sym e in
        record {
          answers = s ∙ sym (ap₂ (λ (n : ℕ) (p : Plan cabinet). or_refused cabinet n p.answer) r q);
          leaves = l ∙ sym (ap₂ (λ (n : ℕ) (p : Plan cabinet). unless_refused n g (after_plan current p g)) r q);
        }

    -- accepted, blocks are written and the control part stays
    pub by_blocks : (a : AnswerValue) (w : Writes) (behind : Image) → 0 ≡ rows_on c g → plan_on c g ≡ writing cabinet (said a) (control_in g) w
        → behind ≡ laid w g → Done c g (Ok a) behind
    by_blocks a w behind e q l = by-plan a (writing cabinet (said a) (control_in g) w) behind e q refl (l ∙ sym (kept-control w g (form-good g clear)))

    -- accepted, blocks are written and then the control part
    pub by_both : (a : AnswerValue) (k : Part) (w : Writes) (behind : Image) → 0 ≡ rows_on c g → plan_on c g ≡ writing cabinet (said a) k w
        → KeepsTail k g → behind ≡ put_control (laid w g) (front_part k) → Done c g (Ok a) behind
    by_both a k w behind e q t l = by-plan a (writing cabinet (said a) k w) behind e q refl (l ∙ write-control w g k t)

    -- accepted, and only the control part changes
    pub alone : (k : Part) → put_control g k ≡ put_control (laid (λ c b. none) g) k
    alone k = ap (λ (i : Image). put_control i k) (laid_none (λ c b. none) g (form-long g clear) (λ c b hc hb. refl))

    pub by-control : (a : AnswerValue) (k : Part) (behind : Image) → 0 ≡ rows_on c g → plan_on c g ≡ unwritten cabinet (said a) k
        → KeepsTail k g → behind ≡ put_control g (front_part k) → Done c g (Ok a) behind
    by-control a k behind e q t l = by_both a k (λ c b. none) behind e q t (l ∙ alone (front_part k))

    -- the same where a placement is added: then every working card gets its stamp
    pub by-stamps : (a : AnswerValue) (k : Part) (w : Writes) (behind : Image) → 0 ≡ rows_on c g → plan_on c g ≡ stamping cabinet (writing cabinet (said a) k w) (stamp_all cabinet k)
        → KeepsTail k g → behind ≡ put_stamps (put_control (laid w g) (front_part k)) k.working (stamp_of k) card_count → Done c g (Ok a) behind
    by-stamps a k w behind e q t l = by-plan a (stamping cabinet (writing cabinet (said a) k w) (stamp_all cabinet k)) behind e q refl
        (l ∙ ap (λ (i : Image). put_stamps i k.working (stamp_of k) card_count) (write-control w g k t) ∙ write-stamps w g k)

    pub by-stamps-alone : (a : AnswerValue) (k : Part) (behind : Image) → 0 ≡ rows_on c g → plan_on c g ≡ stamping cabinet (unwritten cabinet (said a) k) (stamp_all cabinet k)
        → KeepsTail k g → behind ≡ put_stamps (put_control g (front_part k)) k.working (stamp_of k) card_count → Done c g (Ok a) behind
    by-stamps-alone a k behind e q t l = by-stamps a k (λ c b. none) behind e q t (l ∙ ap (λ (i : Image). put_stamps i k.working (stamp_of k) card_count) (alone (front_part k)))

    -- accepted, and nothing changes
    pub by-look : (a : AnswerValue) → 0 ≡ rows_on c g → plan_on c g ≡ unwritten cabinet (said a) (control_in g) → Done c g (Ok a) g
    by-look a e q = by_blocks a (λ c b. none) g e q (laid_none (λ c b. none) g (form-long g clear) (λ c b hc hb. refl))
