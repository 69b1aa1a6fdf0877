-- What a converter does by the row of the refusal that applies, for any two deliveries: a length is wrong, the form is broken, or neither. Assumes nothing.
use mathlib.Core.Logic.{◌≢◌}
use mathlib.Core.Path.{◌≡◌, ap, refl, sym, ◌∙◌}
use mathlib.Core.Bool.{Bool, true, false, ◌&&◌, not}
use Prim.Native.Nat.{ℕ, suc, zero}
use lib.Dec.{eqb}
use lib.ListN.{length}
use borrow.Author.Tests.{eq-eqb, ne_eqb}
use Rattle.image.specs.Layout.{image_size_of}
use Rattle.method.specs.Rules.{row, unless_refused}
use Rattle.cabinet_rules.specs.Converting.{buffer_after, convert_answer, convert_refusal, filling_of, unfilled}
use Rattle.cabinet_rules.specs.Delivery.{Delivery}
use Rattle.cabinet_rules.specs.Images.{Image, form_by}
use Rattle.std.specs.Prelude.{Ok, Err}
use Rattle.refusals.specs.Refusals.{number}
use Rattle.refusals.specs.declared.Refusal.{Refusal}
use Rattle.refusals.specs.declared.Refusal.TheVariants.{Length, ControlForm}
use Rattle.refusals.proofs.Numbers.{not-none}
use Rattle.converter.specs.Promise.{ConvertDone}

-- ---- by the tests: the older image has its length, the buffer has, the form holds
abbrev rows : (a b f : Bool) → ℕ
rows a b f = row 1 (not (a && b)) (row 2 (not f) 0)

module _ (E D : Delivery) (older lent : Image) where
  by_rows : {a b f : Bool} → eqb (length older) (image_size_of E.memory.layout) ≡ a → eqb (length lent) (image_size_of D.memory.layout) ≡ b → form_by E older ≡ f
      → convert_refusal E D older lent ≡ rows a b f
  unfolding convert_refusal
  by_rows p q r = λ i. rows (p i) (q i) (r i)

  refused : (carry : Image → Image) (r : Refusal) → convert_refusal E D older lent ≡ number r → ConvertDone E D carry older lent (Err r) lent
  unfolding convert_answer buffer_after
  refused carry r e = let f = go (number r) e (not-none r) in record { answers = f.0; leaves = f.1 }
    where
      go : (n : ℕ) → convert_refusal E D older lent ≡ n → n ≢ 0 → (unfilled n ≡ convert_answer E D older lent) × (lent ≡ buffer_after E D carry older lent)
      go zero e d = absurd (d refl)
      go (suc n) e d = (
        sym (ap (λ (r : ℕ). filling_of r (image_size_of D.memory.layout)) e),
        sym (ap (λ (r : ℕ). unless_refused r lent (carry older)) e),
      )

-- ---- each row
module _ {E D : Delivery} {carry : Image → Image} {older lent : Image} where
  pub wrong-older : (length older ≡ image_size_of E.memory.layout → ⊥) → ConvertDone E D carry older lent (Err Length) lent
  wrong-older d = refused E D older lent carry Length (by_rows E D older lent (ne_eqb _ _ d) refl refl)

  module _ (o : length older ≡ image_size_of E.memory.layout) where
    pub wrong-lent : (length lent ≡ image_size_of D.memory.layout → ⊥) → ConvertDone E D carry older lent (Err Length) lent
    wrong-lent d = refused E D older lent carry Length (by_rows E D older lent (eq-eqb _ _ o) (ne_eqb _ _ d) refl)

    module _ (i : length lent ≡ image_size_of D.memory.layout) where
      pub broken-form : form_by E older ≡ false → ConvertDone E D carry older lent (Err ControlForm) lent
      broken-form f = refused E D older lent carry ControlForm (by_rows E D older lent (eq-eqb _ _ o) (eq-eqb _ _ i) f)

      pub converted : form_by E older ≡ true → (left : Image) → left ≡ carry older → ConvertDone E D carry older lent (Ok (image_size_of D.memory.layout)) left
      unfolding convert_answer buffer_after
      converted f left e =
          let accepted : convert_refusal E D older lent ≡ 0 = by_rows E D older lent (eq-eqb _ _ o) (eq-eqb _ _ i) f in
          record {
            answers = sym (ap (λ (r : ℕ). filling_of r (image_size_of D.memory.layout)) accepted);
            leaves = e ∙ sym (ap (λ (r : ℕ). unless_refused r lent (carry older)) accepted);
          }
