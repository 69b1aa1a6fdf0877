-- Laws of the list of the numbers below a bound: its elements, those that pass a test, and what each gives. Assumes nothing.
use Prim.Native.Nat.{◌+◌, ◌<◌, ◌≤◌, suc, zero, ℕ}
use borrow.Author.Tests.{eq-eqb, eqb-false, eqb-true, ne_eqb}
use lib.Dec.{eqb}
use lib.ListN.{get_or-append, get_or, length, length-append}
use mathlib.Core.Bool.{Bool, ◌&&◌, ◌||◌, cond, false, not, or_comm, or-false, true}
use mathlib.Core.List.{List, [], ◌∷◌, ◌++◌}
use mathlib.Core.Logic.{◌⊎◌, inl, inr}
use mathlib.Core.Path.{◌∙◌, ◌≡◌, ap, ap₂, refl}
use native.Mathlib.Omega.{arith}
use Rattle.lists.specs.Tests.{In, any_in, any_below, concat_map, count_below, keep_if, numbers_below, one_if, sum_below}
use Rattle.lists.proofs.Bools.{and_in, and_l, and_r, is-not, never_true, not_is, or_cases, split, tf}
use Rattle.lists.proofs.Counts.{all-below, but, count-above, count-but, count-mono, count_none}
use Rattle.lists.proofs.Cases.{by-eq, lt-or-ge}
use Rattle.lists.proofs.Lists.{any_append, concat-more, get_or-behind, in-cases, in_left, in_right, keep_append}

-- Every number below the bound is an element.
pub below_in : (n i : ℕ) → i < n → In i (numbers_below n)
below_in zero i h = absurd (omega arith)
below_in (suc n) i h = go (split (eqb i n)) (below_in n i)
  where
    go : (eqb i n ≡ true) ⊎ (eqb i n ≡ false) → (i < n → In i (numbers_below n)) → In i (numbers_below n ++ (n ∷ []))
    go (inl p) ih = in_right (numbers_below n) (n ∷ []) i (inl (eqb-true i n p))
    go (inr p) ih = let d : i ≡ n → ⊥ = eqb-false i n p in in_left (numbers_below n) (n ∷ []) i (ih (omega arith))

-- And every element is below the bound.
pub in-below : (n i : ℕ) → In i (numbers_below n) → i < n
in-below zero i m = absurd m
in-below (suc n) i m = go (in-cases (numbers_below n) (n ∷ []) i m) (in-below n i)
  where
    go : In i (numbers_below n) ⊎ In i (n ∷ []) → (In i (numbers_below n) → i < n) → i < suc n
    go (inl h) ih = let l : i < n = ih h in omega arith
    go (inr (inl p)) ih = omega arith
    go (inr (inr p)) ih = absurd p

-- Of them as many pass a test as are counted.
pub length-keep : (n : ℕ) (f : ℕ → Bool) → length (keep_if f (numbers_below n)) ≡ count_below n f
length-keep zero f = refl
length-keep (suc n) f = ap length (keep_append f (numbers_below n) (n ∷ [])) ∙ length-append (keep_if f (numbers_below n)) (cond (f n) (n ∷ []) []) ∙ go (f n) (length-keep n f)
  where
    go : (t : Bool) → length (keep_if f (numbers_below n)) ≡ count_below n f → length (keep_if f (numbers_below n)) + length (cond t (n ∷ []) []) ≡ one_if t + count_below n f
    go true e = omega arith
    go false e = omega arith

-- The lists that f gives of them, one behind the other, are together as long as the sum of their lengths.
pub length-concat : {B : Type 0} (n : ℕ) (f : ℕ → List B) → length (concat_map f (numbers_below n)) ≡ sum_below n (λ i. length (f i))
length-concat zero f = refl
length-concat (suc n) f =
    let h : length (concat_map f (numbers_below n)) ≡ sum_below n (λ i. length (f i)) = length-concat n f in
    ap length (concat-more f (numbers_below n) n) ∙ length-append (concat_map f (numbers_below n)) (f n) ∙ omega (arith, h)

-- A sum of smaller numbers is smaller.
pub sum_mono : (n : ℕ) (f g : ℕ → ℕ) → ((i : ℕ) → i < n → f i ≤ g i) → sum_below n f ≤ sum_below n g
sum_mono zero f g h = omega arith
sum_mono (suc n) f g h =
    let a : f n ≤ g n = h n (omega arith) in
    let b : sum_below n f ≤ sum_below n g = sum_mono n f g (λ i l. h i (omega arith)) in
    omega arith

-- The elements of a list that f numbers i, over all i below n, are no more than the list has.
pub sum-keep : {A : Type 0} (f : A → ℕ) (n : ℕ) (l : List A) → sum_below n (λ i. length (keep_if (λ x. eqb i (f x)) l)) ≤ length l
sum-keep f n [] = zeros n
  where
    zeros : (n : ℕ) → sum_below n (λ i. 0) ≤ 0
    zeros zero = omega arith
    zeros (suc n) = let z : sum_below n (λ i. 0) ≤ 0 = zeros n in omega arith
sum-keep {A} f n (x ∷ l) =
    let a : sum_below n (λ i. length (keep_if (λ y. eqb i (f y)) (x ∷ l))) ≡ sum_below n (λ i. one_if (eqb i (f x))) + sum_below n (λ i. length (keep_if (λ y. eqb i (f y)) l)) = add n in
    let b : sum_below n (λ i. one_if (eqb i (f x))) ≤ 1 = once n in
    let c : sum_below n (λ i. length (keep_if (λ y. eqb i (f y)) l)) ≤ length l = sum-keep f n l in
    omega arith
  where
    one_more : (t : Bool) (m : List A) → length (cond t (x ∷ m) m) ≡ one_if t + length m
    one_more true m = omega arith
    one_more false m = omega arith

    add : (n : ℕ) → sum_below n (λ i. length (keep_if (λ y. eqb i (f y)) (x ∷ l))) ≡ sum_below n (λ i. one_if (eqb i (f x))) + sum_below n (λ i. length (keep_if (λ y. eqb i (f y)) l))
    add zero = refl
    add (suc n) = let h = add n in let o = one_more (eqb n (f x)) (keep_if (λ y. eqb n (f y)) l) in omega (arith, h, o)

    none_yet : (n : ℕ) → n ≤ f x → sum_below n (λ i. one_if (eqb i (f x))) ≡ 0
    none_yet zero h = refl
    none_yet (suc n) h = rw (ne_eqb n (f x) (λ q. omega arith)) (let z : sum_below n (λ i. one_if (eqb i (f x))) ≡ 0 = none_yet n (omega arith) in omega arith)

    once : (n : ℕ) → sum_below n (λ i. one_if (eqb i (f x))) ≤ 1
    once zero = omega arith
    once (suc n) = go (split (eqb n (f x))) (once n)
      where
        go : (eqb n (f x) ≡ true) ⊎ (eqb n (f x) ≡ false) → sum_below n (λ i. one_if (eqb i (f x))) ≤ 1 → one_if (eqb n (f x)) + sum_below n (λ i. one_if (eqb i (f x))) ≤ 1
        go (inl p) ih =
            let q : n ≡ f x = eqb-true n (f x) p in
            let z : sum_below n (λ i. one_if (eqb i (f x))) ≡ 0 = none_yet n (omega arith) in
            rw (p, z) (omega arith)
        go (inr p) ih = rw p (omega (arith, ih))

-- Numbers that all stand in a list are no more than the list has.
pub count-in : (n : ℕ) (f : ℕ → Bool) (l : List ℕ) → ((i : ℕ) → i < n → f i ≡ true → In i l) → count_below n f ≤ length l
count-in n f [] h =
    let e : count_below n f ≡ 0 = eqb-true (count_below n f) 0 (count_none n f ∙ all-below n (λ i. not (f i)) (λ i b. is-not (f i) (never_true (f i) (h i b)))) in
    omega arith
count-in n f (x ∷ l) h =
    let r : count_below n (but f x) ≤ length l = count-in n (but f x) l others in
    let o : count_below n f ≤ suc (count_below n (but f x)) = one (lt-or-ge x n) (split (f x)) in
    omega arith
  where
    others : (i : ℕ) → i < n → but f x i ≡ true → In i l
    others i b e = go (h i b (and_l (f i) (not (eqb i x)) e))
      where
        go : (i ≡ x) ⊎ In i l → In i l
        go (inl p) = tf (eqb i x) (eq-eqb i x p) (not_is (eqb i x) (and_r (f i) (not (eqb i x)) e))
        go (inr m) = m

    one : (x < n) ⊎ (n ≤ x) → (f x ≡ true) ⊎ (f x ≡ false) → count_below n f ≤ suc (count_below n (but f x))
    one (inl b) (inl p) = let e : count_below n f ≡ suc (count_below n (but f x)) = count-but n f x p b in omega arith
    one (inl b) (inr p) =
        let e : count_below n f ≤ count_below n (but f x) = count-mono n f (but f x) (λ i q. and_in (f i) (not (eqb i x)) q (is-not (eqb i x) (ne_eqb i x (λ z. tf (f x) (rw z at q) p)))) in
        omega arith
    one (inr b) p = let e : count_below n f ≡ count_below n (but f x) = count-above n f x b in omega arith

-- Where some number below n passes, there is a lowest one.
pub lowest-below : (n : ℕ) (f : ℕ → Bool) → any_below n f ≡ true → (i : ℕ) × (i < n) × ((f i && not (any_below i f)) ≡ true)
lowest-below zero f e = tf false e refl
lowest-below (suc n) f e = go (split (any_below n f)) (lowest-below n f)
  where
    go : (any_below n f ≡ true) ⊎ (any_below n f ≡ false) → (any_below n f ≡ true → (i : ℕ) × (i < n) × ((f i && not (any_below i f)) ≡ true))
        → (i : ℕ) × (i < suc n) × ((f i && not (any_below i f)) ≡ true)
    go (inl p) ih = let z = ih p in (z.0, omega (arith, z.1), z.2)
    go (inr p) ih = (n, omega arith, and_in (f n) (not (any_below n f)) (pick (or_cases (f n) (any_below n f) e)) (rw p))
      where
        pick : (f n ≡ true) ⊎ (any_below n f ≡ true) → f n ≡ true
        pick (inl z) = z
        pick (inr z) = tf (any_below n f) z p

-- And it is one alone.
pub lowest-once : (n : ℕ) (f : ℕ → Bool) → count_below n (λ i. f i && not (any_below i f)) ≤ one_if (any_below n f)
lowest-once zero f = omega arith
lowest-once (suc n) f = go (f n) (any_below n f) (lowest-once n f)
  where
    go : (a b : Bool) → count_below n (λ i. f i && not (any_below i f)) ≤ one_if b → one_if (a && not b) + count_below n (λ i. f i && not (any_below i f)) ≤ one_if (a || b)
    go true true h = omega (arith, h)
    go true false h = omega (arith, h)
    go false true h = omega (arith, h)
    go false false h = omega (arith, h)

-- Some number that is kept passes a test.
pub any-keep-below : (p f : ℕ → Bool) (n : ℕ) → any_in f (keep_if p (numbers_below n)) ≡ any_below n (λ c. p c && f c)
any-keep-below p f zero = refl
any-keep-below p f (suc n) =
    ap (any_in f) (keep_append p (numbers_below n) (n ∷ [])) ∙ any_append f (keep_if p (numbers_below n)) (keep_if p (n ∷ []))
    ∙ ap₂ ◌||◌ (any-keep-below p f n) (one (p n)) ∙ or_comm (any_below n (λ c. p c && f c)) (p n && f n)
  where
    one : (t : Bool) → any_in f (cond t (n ∷ []) []) ≡ (t && f n)
    one true = or-false (f n)
    one false = refl

module _ {A : Type 0} (m : ℕ → List A) where
  -- Some element of the lists that m gives of them passes a test.
  pub any-concat-below : (f : A → Bool) (n : ℕ) → any_in f (concat_map m (numbers_below n)) ≡ any_below n (λ b. any_in f (m b))
  any-concat-below f zero = refl
  any-concat-below f (suc n) =
      ap (any_in f) (concat-more m (numbers_below n) n) ∙ any_append f (concat_map m (numbers_below n)) (m n)
      ∙ ap (λ (t : Bool). t || any_in f (m n)) (any-concat-below f n) ∙ or_comm (any_below n (λ b. any_in f (m b))) (any_in f (m n))

  length-next : (n : ℕ) → length (concat_map m (numbers_below (suc n))) ≡ length (concat_map m (numbers_below n)) + length (m n)
  length-next n = ap length (concat-more m (numbers_below n) n) ∙ length-append (concat_map m (numbers_below n)) (m n)

  -- The elements of the first b lists and of list b are among those of the first n.
  pub length-within : (n b : ℕ) → b < n → length (concat_map m (numbers_below b)) + length (m b) ≤ length (concat_map m (numbers_below n))
  length-within zero b h = absurd (omega arith)
  length-within (suc n) b h = by-eq (length (concat_map m (numbers_below b)) + length (m b) ≤ length (concat_map m (numbers_below (suc n)))) b n
      (λ e. rw e (let z = length-next n in omega (arith, z)))
      (λ d. let z = length-next n in let y = length-within n b (omega arith) in omega (arith, z, y))

  -- Element number i of list b stands behind those of the first b lists.
  pub get_or-concat : (n b i : ℕ) (d : A) → b < n → i < length (m b)
      → get_or (concat_map m (numbers_below n)) (length (concat_map m (numbers_below b)) + i) d ≡ get_or (m b) i d
  get_or-concat zero b i d h l = absurd (omega arith)
  get_or-concat (suc n) b i d h l =
      ap (λ (r : List A). get_or r (length (concat_map m (numbers_below b)) + i) d) (concat-more m (numbers_below n) n)
      ∙ by-eq (get_or (concat_map m (numbers_below n) ++ m n) (length (concat_map m (numbers_below b)) + i) d ≡ get_or (m b) i d) b n
      (λ e. rw e (get_or-behind (concat_map m (numbers_below n)) (m n) i d))
      (λ ne.
      let y = length-within n b (omega arith) in
      get_or-append (concat_map m (numbers_below n)) (m n) d (length (concat_map m (numbers_below b)) + i) (omega (arith, y))
      ∙ get_or-concat n b i d (omega arith) l)
