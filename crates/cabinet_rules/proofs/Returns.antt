-- A return on an image is that of the rules on the state that the image shows: the rows from 3 on decide, and the plan leaves a legal control
-- part and writes in the card's table alone. Assumes nothing.
use Prim.Native.Nat.{suc, zero, ℕ}
use borrow.Author.Tests.{eq-eqb}
use lib.Dec.{eqb, ltb}
use lib.ListN.{length}
use mathlib.Core.Bool.{Bool, ◌&&◌, and-false, cond, false}
use mathlib.Core.Option.{none, some}
use mathlib.Core.Path.{◌∙◌, ◌≡◌, ap, refl, subst, sym}
use Rattle.image.specs.Layout.{block_count, image_size_of}
use Rattle.slot.specs.Blocks.{empty_block, end_slots}
use Rattle.slot.proofs.Blocks.{held-empty}
use Rattle.method.specs.Parameters.{Parameters}
use Rattle.method.specs.PlainList.{or_refused}
use Rattle.method.specs.Returning.{after_return, drop_locks, is_lock, return_answer, return_refusal, returning}
use Rattle.method.specs.Rules.{apply, guarded, updated}
use Rattle.method.proofs.Laws.{Laws}
use Rattle.method.proofs.Legal.{Legal}
use Rattle.method.proofs.Returning.{legal-return}
use Rattle.cabinet_rules.specs.Cabinet.{rules_of}
use Rattle.cabinet_rules.specs.Delivery.{Delivery}
use Rattle.cabinet_rules.specs.Images.{Image, after_plan, control_by, is_there, state_by}
use Rattle.cabinet_rules.specs.Returns.{after_return_by, return_answer_by, return_plan_by, return_refusal_by}
use Rattle.cabinet_rules.proofs.Lawful.{DeliveryLaws, lawful_by}
use Rattle.cabinet_rules.proofs.Legible.{Legible, legible-form, legible-part}
use Rattle.cabinet_rules.proofs.Noisy.{plan-long, plan-wrote}
use Rattle.cabinet_rules.proofs.Transport.{state-plan}

module _ (D : Delivery) (W : DeliveryLaws D) where
  abbrev P : Parameters
  P = rules_of D

  abbrev L : Laws P
  L = lawful_by D W.rules

  module _ (c : ℕ) (g : Image) where
    -- the rows from 3 on
    abbrev rows : ℕ
    rows = return_refusal P (control_by D g) (state_by D g).stamp c

    pub return-rows : Legible D W g → return_refusal_by D c g ≡ rows
    unfolding return_refusal_by
    return-rows s = rw (eq-eqb (length g) (image_size_of D.memory.layout) s.long, legible-form D W g s)

    pub answer-return : Legible D W g → return_answer_by D c g ≡ return_answer P c (state_by D g)
    unfolding return_answer_by return_answer returning state_by
    answer-return s = ap (λ (n : ℕ). or_refused P n (return_plan_by D c g).answer) (return-rows s) ∙ go rows
      where
        go : (n : ℕ) → or_refused P n (return_plan_by D c g).answer ≡ (guarded P n (control_by D g) (return_plan_by D c g)).answer
        go zero = refl
        go (suc n) = refl

    -- ---- refused, and taken
    pub refused-image : (n : ℕ) → return_refusal_by D c g ≡ suc n → after_return_by D c g ≡ g
    unfolding after_return_by
    refused-image n e = rw e

    refused-state : (n : ℕ) → rows ≡ suc n → after_return P c (state_by D g) ≡ state_by D g
    unfolding after_return returning apply state_by
    refused-state n e = rw e

    taken-image : return_refusal_by D c g ≡ 0 → after_return_by D c g ≡ after_plan D (return_plan_by D c g) g
    unfolding after_return_by
    taken-image e = rw e

    taken-state : rows ≡ 0 → after_return P c (state_by D g) ≡ apply P (return_plan_by D c g) (state_by D g)
    unfolding after_return returning state_by
    taken-state e = rw e

    -- outside the tables every block is empty, and is not written
    inside : (x b : ℕ) → is_there x b ≡ false → updated ((return_plan_by D c g).write x b) empty_block ≡ empty_block
    unfolding drop_locks state_by
    inside x b out = rw (out, held-empty) (go (eqb x c) (ltb b block_count))
      where
        go : (d e : Bool) → updated (cond (d && (e && false)) (some (end_slots false is_lock empty_block)) none) empty_block ≡ empty_block
        go d e = rw (and-false e, and-false d)

    module _ (s : Legible D W g) where
      good : rows ≡ 0 → Legal P L (return_plan_by D c g).after
      good e = legal-return P L (control_by D g) (state_by D g).stamp c (subst (Legal P L) (sym (legible-part D W g s)) s.legal) e

      pub legible-return : Legible D W (after_return_by D c g)
      legible-return = go (return_refusal_by D c g) refl
        where
          go : (n : ℕ) → return_refusal_by D c g ≡ n → Legible D W (after_return_by D c g)
          go zero e = subst (Legible D W) (sym (taken-image e)) (record {
            part = (return_plan_by D c g).after;
            legal = good (sym (return-rows s) ∙ e);
            long = plan-long D (return_plan_by D c g) g;
            wrote = plan-wrote D (return_plan_by D c g) g;
          })
          go (suc n) e = subst (Legible D W) (sym (refused-image n e)) s

      -- THE RETURN
      pub state-return : state_by D (after_return_by D c g) ≡ after_return P c (state_by D g)
      state-return = go rows refl
        where
          go : (n : ℕ) → rows ≡ n → state_by D (after_return_by D c g) ≡ after_return P c (state_by D g)
          go zero e = ap (state_by D) (taken-image (return-rows s ∙ e))
              ∙ state-plan D W (return_plan_by D c g) g (good e) inside (λ x. tt) (λ x out. refl) ∙ sym (taken-state e)
          go (suc n) e = ap (state_by D) (refused-image n (return-rows s ∙ e)) ∙ sym (refused-state n e)
