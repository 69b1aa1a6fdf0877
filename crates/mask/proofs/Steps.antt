-- What a step over the members of a mask gives, and what it leaves. Assumes nothing.
use mathlib.Core.Path.{◌≡◌, refl, sym, ap, ap₂, subst, ◌∙◌}
use mathlib.Core.Bool.{true}
use mathlib.Core.List.{List, [], ◌∷◌}
use Prim.Native.Nat.{ℕ, ◌<◌}
use native.Mathlib.Omega.{arith}
use lib.Dec.{eqb}
use lib.ListN.{length, get_or, drop}
use Rattle.lists.specs.Tests.{elem}
use Rattle.lists.proofs.Bools.{eqb-self, or_l}
use Rattle.image.specs.Layout.{card_count}
use Rattle.mask.specs.Masks.{Byte, byte, has_card, members, without_card}
use Rattle.mask.proofs.Masks.{byte_of, elem-members, has-card, same-mask}
use Rattle.mask.proofs.FirstMember.{rest-is}

first-and-rest : (l : List ℕ) → 0 < length l → l ≡ get_or l 0 0 ∷ drop 1 l
first-and-rest [] h = absurd (omega arith)
first-and-rest (x ∷ l) h = refl

-- The first is given, and the others are left.
pub step-is : (left first next : ℕ) → 0 < length (members (byte left)) → first ≡ get_or (members (byte left)) 0 0 → members (byte next) ≡ drop 1 (members (byte left))
    → members (byte left) ≡ first ∷ members (byte next)
step-is left first next some e rest = first-and-rest (members (byte left)) some ∙ ap₂ ◌∷◌ (sym e) (sym rest)

-- Masks with the same list of members have the same cards.
pub same-members : (a b : Byte) → members a ≡ members b → (c : ℕ) → has_card a c ≡ has_card b c
same-members a b e c = sym (elem-members a c) ∙ ap (elem c) e ∙ elem-members b c

module _ (left next : Byte) (x : ℕ) (step : members left ≡ x ∷ members next) where
  -- What is given was in the mask, and is a card.
  pub given-in : has_card left x ≡ true
  given-in = sym (elem-members left x) ∙ ap (elem x) step ∙ or_l (eqb x x) (elem x (members next)) (eqb-self x)

  pub given-card : x < card_count
  given-card = has-card left x given-in

  -- What is left is the mask without it.
  pub left-is : next ≡ without_card left x
  left-is = same-mask next (without_card left x) (same-members next (without_card left x) others)
    where
      others : members next ≡ members (without_card left x)
      others = sym (subst (λ (m : Byte). members (without_card m (get_or (members m) 0 0)) ≡ drop 1 (members m)) (byte_of left) (rest-is left.0 left.1)
          ∙ ap (drop 1) step) ∙ ap (λ (l : List ℕ). members (without_card left (get_or l 0 0))) step
