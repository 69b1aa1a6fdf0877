-- Laws of a list whose first entries hold the first moves. Assumes nothing.
use Prim.Native.Nat.{◌+◌, ◌-◌, ◌<◌, ◌≤◌, suc, zero, ℕ}
use lib.ListN.{drop, length, length-append, length-drop, set}
use mathlib.Core.List.{List, [], ◌++◌, ◌∷◌}
use mathlib.Core.Path.{◌∙◌, ◌≡◌, ap, refl, subst, sym}
use native.Mathlib.Nat.{le_of_suc-le-suc, not-suc-le-zero}
use native.Mathlib.Numerals.{add-one}
use native.Mathlib.Omega.{arith}
use Rattle.method.specs.MoveList.{Entry}
use Rattle.move_list.specs.Plans.{first_moves, move_at}
use Rattle.move_list.specs.declared.Move.{Move}

-- the entry behind those that are passed over, replaced
head : (a : Move) (n : ℕ) (ys : List Move) → n < length ys → set (drop n ys) 0 a ≡ a ∷ drop (suc n) ys
head a n [] h = absurd (not-suc-le-zero h)
head a zero (y ∷ ys) h = refl
head a (suc n) (y ∷ ys) h = head a n ys (le_of_suc-le-suc h)

front : (xs : List Move) (a : Move) (n : ℕ) (ys : List Move) → n < length ys → set (xs ++ drop n ys) (length xs) a ≡ (xs ++ (a ∷ [])) ++ drop (suc n) ys
front [] a n ys h = head a n ys h
front (x ∷ xs) a n ys h = ap {B = List Move} (λ (r : List Move). x ∷ r) (front xs a n ys h)

length-first : (l : List Entry) (n : ℕ) → length (first_moves l n) ≡ n
length-first l zero = refl
length-first l (suc n) = length-append (first_moves l n) (move_at l n ∷ []) ∙ ap (λ (k : ℕ). k + 1) (length-first l n) ∙ add-one n

-- the list keeps its length
pub length-upto : (l : List Entry) (n : ℕ) (ys : List Move) → n ≤ length ys → length (first_moves l n ++ drop n ys) ≡ length ys
length-upto l n ys h = length-append (first_moves l n) (drop n ys) ∙ (ap (λ (k : ℕ). k + length (drop n ys)) (length-first l n) ∙ (ap (λ (k : ℕ). n + k) (length-drop n ys) ∙ back n (length ys) h))
  where
    back : (a l : ℕ) → a ≤ l → a + (l - a) ≡ l
    back a l le = omega arith

-- the next move, set in its place
pub set_next : (l : List Entry) (i : ℕ) (ys : List Move) → i < length ys → set (first_moves l i ++ drop i ys) i (move_at l i) ≡ first_moves l (i + 1) ++ drop (i + 1) ys
set_next l i ys h =
    subst (λ (k : ℕ). set (first_moves l i ++ drop i ys) k (move_at l i) ≡ first_moves l (suc i) ++ drop (suc i) ys) (length-first l i) (front (first_moves l i) (move_at l i) i ys h)
    ∙ ap (λ (k : ℕ). first_moves l k ++ drop k ys) (sym (add-one i))
