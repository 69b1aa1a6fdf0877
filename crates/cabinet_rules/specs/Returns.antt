-- The return of a failed card on images (request A.7): what it answers, and the whole image after it. Assumes nothing.
use Rattle.std.specs.Prelude.{ℕ, false}
use Rattle.image.specs.Layout.{image_size_of}
use Rattle.method.specs.PlainList.{or_refused}
use Rattle.method.specs.Returning.{return_plan, return_refusal}
use Rattle.method.specs.Rules.{Answer, Plan, unless_refused}
use Rattle.control_form.specs.ControlForm.{form_rows_of}
use Rattle.cabinet_rules.specs.Cabinet.{cabinet, rules_of}
use Rattle.cabinet_rules.specs.Delivery.{Delivery, current}
use Rattle.cabinet_rules.specs.Images.{Image, after_plan, control_by, form_by, state_by}

module _ (D : Delivery) where
  -- The whole refusal table: rows 1 and 2, then 3, 8 and 19.
  unfoldable pub return_refusal_by : ℕ → Image → ℕ
  return_refusal_by c g =
      form_rows_of (image_size_of D.memory.layout) false (form_by D g) g
      (return_refusal (rules_of D) (control_by D g) (state_by D g).stamp c)

  -- What an accepted return answers and writes: it reads the tables as they are, that of the failed card too.
  abbrev pub return_plan_by : ℕ → Image → Plan (rules_of D)
  return_plan_by c g = return_plan (rules_of D) (control_by D g) (state_by D g).block c

  -- The answer: the lowest number that applies is returned.
  unfoldable pub return_answer_by : ℕ → Image → Answer (rules_of D)
  return_answer_by c g = or_refused (rules_of D) (return_refusal_by c g) (return_plan_by c g).answer

  -- The image after the return: a refused one leaves it as found.
  unfoldable pub after_return_by : ℕ → Image → Image
  after_return_by c g = unless_refused (return_refusal_by c g) g (after_plan D (return_plan_by c g) g)

-- By the delivery in force.
abbrev pub return_refusal_on : ℕ → Image → ℕ
return_refusal_on = return_refusal_by current

abbrev pub answer_to_return : ℕ → Image → Answer cabinet
answer_to_return = return_answer_by current

abbrev pub after_return_on : ℕ → Image → Image
after_return_on = after_return_by current
