-- The laws that finish the proof of a return: refused by 1 or 2, refused by a later row, taken. Assumes nothing.
use Prim.Native.Nat.{suc, zero, ℕ}
use borrow.Author.Tests.{eq-eqb}
use lib.Dec.{eqb}
use lib.ListN.{length}
use mathlib.Core.Bool.{Bool, false, not, true}
use mathlib.Core.Logic.{◌≢◌}
use mathlib.Core.Path.{◌∙◌, ◌≡◌, ap, refl, sym}
use Rattle.image.specs.Layout.{image_size}
use Rattle.method.specs.PlainList.{or_refused}
use Rattle.method.specs.Rules.{ok, refused, row, unless_refused}
use Rattle.control_form.specs.ControlForm.{control_form, form_refusal}
use Rattle.cabinet_rules.specs.Cabinet.{cabinet}
use Rattle.cabinet_rules.specs.Delivery.{current}
use Rattle.cabinet_rules.specs.Images.{Image, after_plan}
use Rattle.cabinet_rules.specs.Returns.{after_return_by, after_return_on, answer_to_return, return_answer_by, return_plan_by, return_refusal_by, return_refusal_on}
use Rattle.promise.specs.declared.Answer.{Answer as AnswerValue}
use Rattle.promise.specs.declared.Answer.TheVariants.{Accepted}
use Rattle.control_form.specs.Reading.{Reads}
use Rattle.std.specs.Prelude.{Result, Ok, Err}
use Rattle.refusals.specs.Refusals.{number}
use Rattle.refusals.specs.declared.Refusal.{Refusal}
use Rattle.refusals.proofs.HandedOn.{HandsOn, handed-on}
use Rattle.refusals.proofs.Numbers.{not-none}
use Rattle.promise.proofs.Finish.{form-good, form-long}
use Rattle.returns.specs.Promise.{ReturnDone}
use Rattle.returns.specs.Rejoining.{rejoined_on, return_rows_on}

module _ (c : ℕ) (g : Image) where
  -- refused, by any row
  by_row : (r : Refusal) → number r ≡ return_refusal_on c g → ReturnDone c g (Err r) g
  unfolding return_answer_by after_return_by
  by_row r e = let f = go (number r) e (not-none r) in record { answers = f.0; leaves = f.1 }
    where
      go : (n : ℕ) → n ≡ return_refusal_on c g → n ≢ 0 → (refused n ≡ answer_to_return c g) × (g ≡ after_return_on c g)
      go zero h d = absurd (d refl)
      go (suc n) h d = let r : return_refusal_on c g ≡ suc n = sym h in (rw r, rw r)

  -- 1 and 2
  form-row : (n : ℕ) → n ≡ form_refusal g → n ≢ 0 → n ≡ return_refusal_on c g
  unfolding return_refusal_by form_refusal return_rows_on
  form-row n e d = go (not (eqb (length g) image_size)) (not (control_form g)) e
    where
      go : (a b : Bool) → n ≡ row 1 a (row 2 b 0) → n ≡ row 1 a (row 2 b (return_rows_on c g))
      go true b h = h
      go false true h = h
      go false false h = absurd (d h)

  pub by_form : (r : Refusal) (a : Result AnswerValue Refusal) → Reads g (Err r) → HandsOn r a → ReturnDone c g a g
  by_form r a reads h = rw (handed-on a h) (by_row r (form-row (number r) reads.refusal_is (not-none r)))

  module _ (clear : form_refusal g ≡ 0) where
    refusal-rules : return_refusal_on c g ≡ return_rows_on c g
    unfolding return_refusal_by return_rows_on
    refusal-rules = rw (eq-eqb (length g) image_size (form-long g clear), form-good g clear)

    -- 3 and up
    pub by-rules : (r : Refusal) (a : Result AnswerValue Refusal) → number r ≡ return_rows_on c g → HandsOn r a → ReturnDone c g a g
    by-rules r a e h = rw (handed-on a h) (by_row r (e ∙ sym refusal-rules))

    pub by-taking : (behind : Image) → 0 ≡ return_rows_on c g → behind ≡ rejoined_on c g → ReturnDone c g (Ok Accepted) behind
    unfolding return_answer_by after_return_by rejoined_on
    by-taking behind e l =
        let r : return_refusal_on c g ≡ 0 = refusal-rules ∙ sym e in
        record {
          answers = sym (ap (λ (n : ℕ). or_refused cabinet n ok) r);
          leaves = l ∙ sym (ap (λ (n : ℕ). unless_refused n g (after_plan current (return_plan_by current c g) g)) r);
        }
