-- Tests of lists, and of the numbers below a bound. Assumes nothing.
use Rattle.std.specs.Prelude.{◌≡◌, ◌⊎◌, Bool, true, false, not, ◌&&◌, ◌||◌, cond, List, [], ◌∷◌, ◌++◌, ℕ, zero, suc, ◌+◌, eqb}

module _ {A : Type 0} where
  -- some element passes the test
  abbrev pub any_in : (A → Bool) → List A → Bool
  any_in f [] = false
  any_in f (x ∷ l) = f x || any_in f l

  -- every element passes the test
  abbrev pub all_in : (A → Bool) → List A → Bool
  all_in f [] = true
  all_in f (x ∷ l) = f x && all_in f l

  -- the elements that pass the test, in their order
  abbrev pub keep_if : (A → Bool) → List A → List A
  keep_if f [] = []
  keep_if f (x ∷ l) = cond (f x) (x ∷ keep_if f l) (keep_if f l)

  -- the lists that f gives of the elements, one behind the other
  abbrev pub concat_map : {B : Type 0} → (A → List B) → List A → List B
  concat_map f [] = []
  concat_map f (x ∷ l) = f x ++ concat_map f l

  -- a is an element
  abbrev pub In : A → List A → Type 0
  In a [] = ⊥
  In a (x ∷ l) = (a ≡ x) ⊎ In a l

-- the number c is an element
abbrev pub elem : ℕ → List ℕ → Bool
elem c l = any_in (eqb c) l

-- the numbers below n, rising
abbrev pub numbers_below : ℕ → List ℕ
numbers_below zero = []
numbers_below (suc n) = numbers_below n ++ (n ∷ [])

-- no number stands twice
abbrev pub distinct : List ℕ → Bool
distinct [] = true
distinct (x ∷ l) = not (elem x l) && distinct l

-- 1 where the test passes, else 0
abbrev pub one_if : Bool → ℕ
one_if true = 1
one_if false = 0

-- how many numbers below n pass the test
abbrev pub count_below : ℕ → (ℕ → Bool) → ℕ
count_below zero f = 0
count_below (suc n) f = one_if (f n) + count_below n f

-- how many elements fail the test
abbrev pub count_not : {A : Type 0} → (A → Bool) → List A → ℕ
count_not f [] = 0
count_not f (x ∷ l) = one_if (not (f x)) + count_not f l

-- every number below n passes the test
abbrev pub all_below : ℕ → (ℕ → Bool) → Bool
all_below zero f = true
all_below (suc n) f = f n && all_below n f

-- some number below n passes the test
abbrev pub any_below : ℕ → (ℕ → Bool) → Bool
any_below zero f = false
any_below (suc n) f = f n || any_below n f

-- the sum of f over the numbers below n
abbrev pub sum_below : ℕ → (ℕ → ℕ) → ℕ
sum_below zero f = 0
sum_below (suc n) f = f n + sum_below n f
