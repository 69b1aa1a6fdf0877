-- What the form of an operation says of its fields. Assumes nothing.
use mathlib.Core.Path.{◌∙◌, ◌≡◌, ap, refl, subst, sym}
use mathlib.Core.Logic.{⊎_elim}
use mathlib.Core.Bool.{Bool, ◌&&◌, true}
use Prim.Native.Nat.{◌+◌, ◌<◌, ◌≤◌, ℕ, suc, zero, zero-le}
use native.Mathlib.Omega.{arith}
use native.Mathlib.Nat.{le_trans}
use lib.Dec.{leb}
use lib.ListN.{get_or-eq_default, get_or}
use borrow.Author.Tests.{leb-true}
use Rattle.lists.proofs.Bools.{and_l, and_r, tf}
use Rattle.lists.proofs.Cases.{by-eq, lt-or-ge}
use Rattle.command.specs.declared.Fields.{Fields}
use Rattle.command.specs.Commands.{fields_given, formed, forms}
use Rattle.command.specs.Commands.{most_card, most_number, most_tran, most_value, operation_count}
use Rattle.command.specs.Commands.{unknown, fields_within}

infixr 5 ◌then◌
-- ---- the operation's entry in the tables
pub form_of : (f : Fields) (a : ℕ) → f.operation ≡ a → get_or forms a unknown f ≡ formed f
unfolding formed
form_of f a e = ap (λ (n : ℕ). get_or forms n unknown f) (sym e)

pub no-form : (f : Fields) → operation_count ≤ f.operation → unknown f ≡ formed f
unfolding formed
no-form f h = sym (ap (λ (g : Fields → Bool). g f) (get_or-eq_default forms unknown h))

-- what holds of each of the k numbers from n
pub data Each (P : ℕ → Type 0) : ℕ → ℕ → Type 0 where
  none : {n : ℕ} → Each P zero n
  ◌then◌ : {k n : ℕ} → P n → Each P k (suc n) → Each P (suc k) n

pub each_at : (P : ℕ → Type 0) (k n i : ℕ) → Each P k n → n ≤ i → i < n + k → P i
each_at P zero n i none p q = absurd (omega arith)
each_at P (suc k) n i (x then xs) p q =
    by-eq (P i) i n (λ e. subst P (sym e) x) (λ d. each_at P k (suc n) i xs (omega arith) (omega arith))

-- ---- the limits of a form
pub record AtMost (tran card number value : ℕ) (f : Fields) : Type 0 where
  pub tran-fits : f.tran ≤ tran
  pub card-fits : f.card ≤ card
  pub number_fits : f.number ≤ number
  pub value-fits : f.value ≤ value

pub at_most : (a b c d : ℕ) (f : Fields) → fields_within a b c d f ≡ true → AtMost a b c d f
unfolding fields_within
at_most a b c d f h =
    let r1 : (leb f.card b && (leb f.number c && leb f.value d)) ≡ true = and_r (leb f.tran a) _ h in
    let r2 : (leb f.number c && leb f.value d) ≡ true = and_r (leb f.card b) _ r1 in
    record {
      tran-fits = leb-true _ _ (and_l (leb f.tran a) _ h);
      card-fits = leb-true _ _ (and_l (leb f.card b) _ r1);
      number_fits = leb-true _ _ (and_l (leb f.number c) _ r2);
      value-fits = leb-true _ _ (and_r (leb f.number c) _ r2);
    }

-- every form is within the widths of the fields
abbrev pub Wide : Fields → Type 0
Wide f = AtMost most_tran most_card most_number most_value f

widened : (f : Fields) (a b c d : ℕ) → (leb a most_tran && (leb b most_card && (leb c most_number && leb d most_value))) ≡ true → fields_within a b c d f ≡ true → Wide f
unfolding fields_within
widened f a b c d small h =
    let m : AtMost a b c d f = at_most a b c d f h in
    let n : Wide (fields_given 0 a b c d) = at_most most_tran most_card most_number most_value (fields_given 0 a b c d) small in
    record {
      tran-fits = le_trans m.tran-fits n.tran-fits;
      card-fits = le_trans m.card-fits n.card-fits;
      number_fits = le_trans m.number_fits n.number_fits;
      value-fits = le_trans m.value-fits n.value-fits;
    }

WideAt : Fields → ℕ → Type 0
WideAt f n = get_or forms n unknown f ≡ true → Wide f

forms-wide : (f : Fields) → Each (WideAt f) operation_count 0
unfolding WideAt
forms-wide f =
    widened f _ _ _ _ refl
    then widened f _ _ _ _ refl
    then widened f _ _ _ _ refl
    then widened f _ _ _ _ refl
    then widened f _ _ _ _ refl
    then widened f _ _ _ _ refl
    then widened f _ _ _ _ refl
    then widened f _ _ _ _ refl
    then widened f _ _ _ _ refl
    then widened f _ _ _ _ refl
    then widened f _ _ _ _ refl
    then widened f _ _ _ _ refl
    then widened f _ _ _ _ refl
    then widened f _ _ _ _ refl
    then widened f _ _ _ _ refl
    then none

pub formed_known : (f : Fields) → formed f ≡ true → f.operation < operation_count
formed_known f h = ⊎_elim (λ p. p) (λ q. tf (formed f) h (sym (no-form f q))) (lt-or-ge f.operation operation_count)

pub formed_wide : (f : Fields) → formed f ≡ true → Wide f
unfolding WideAt
formed_wide f h =
    each_at (WideAt f) operation_count 0 f.operation (forms-wide f) zero-le (formed_known f h) (form_of f f.operation refl ∙ h)
