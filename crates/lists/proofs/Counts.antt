-- Laws of tests and counts of the numbers below a bound; the pigeonhole. Assumes nothing.
use mathlib.Core.Path.{◌≡◌, refl, ap₂, ◌∙◌}
use mathlib.Core.Logic.{◌⊎◌, inl, inr}
use mathlib.Core.Bool.{Bool, true, false, not, ◌&&◌, ◌||◌}
use mathlib.Core.List.{List, [], ◌∷◌}
use Prim.Native.Nat.{ℕ, zero, suc, ◌+◌, ◌≤◌, ◌<◌}
use native.Mathlib.Omega.{arith}
use native.Mathlib.Numerals.{add-one}
use lib.Dec.{eqb}
use lib.ListN.{length}
use borrow.Author.Tests.{eqb-true, eqb-false, eq-eqb, ne_eqb}
use Rattle.lists.specs.Tests.{In, elem, distinct, one_if, count_below, all_below, any_below}
use Rattle.lists.proofs.Bools.{tf, and_l, and_r, and_in, or_l, or_r, nor-l, nor-r, not_is, split, never_true, same_test}
use Rattle.lists.proofs.Lists.{in-elem}

pub below_all : (n : ℕ) (f : ℕ → Bool) (i : ℕ) → all_below n f ≡ true → i < n → f i ≡ true
below_all zero f i e h = absurd (omega arith)
below_all (suc n) f i e h = go (split (eqb i n)) (below_all n f i (and_r (f n) (all_below n f) e))
  where
    go : (eqb i n ≡ true) ⊎ (eqb i n ≡ false) → (i < n → f i ≡ true) → f i ≡ true
    go (inl q) ih = rw (eqb-true i n q) (and_l (f n) (all_below n f) e)
    go (inr q) ih = let d : i ≡ n → ⊥ = eqb-false i n q in ih (omega arith)

-- Tests that agree below the bound.
pub below-ext : (n : ℕ) (f g : ℕ → Bool) → ((i : ℕ) → i < n → f i ≡ g i) → all_below n f ≡ all_below n g
below-ext zero f g h = refl
below-ext (suc n) f g h = ap₂ ◌&&◌ (h n (omega arith)) (below-ext n f g (λ i p. h i (omega arith)))

pub below_none : (n : ℕ) (f : ℕ → Bool) (i : ℕ) → any_below n f ≡ false → i < n → f i ≡ false
below_none zero f i e h = absurd (omega arith)
below_none (suc n) f i e h = go (split (eqb i n)) (below_none n f i (nor-r (f n) (any_below n f) e))
  where
    go : (eqb i n ≡ true) ⊎ (eqb i n ≡ false) → (i < n → f i ≡ false) → f i ≡ false
    go (inl q) ih = rw (eqb-true i n q) (nor-l (f n) (any_below n f) e)
    go (inr q) ih = let d : i ≡ n → ⊥ = eqb-false i n q in ih (omega arith)

pub count-mono : (n : ℕ) (f g : ℕ → Bool) → ((i : ℕ) → f i ≡ true → g i ≡ true) → count_below n f ≤ count_below n g
count-mono zero f g h = omega arith
count-mono (suc n) f g h = go (f n) (g n) (h n) (count-mono n f g h)
  where
    go : (a b : Bool) → (a ≡ true → b ≡ true) → count_below n f ≤ count_below n g → one_if a + count_below n f ≤ one_if b + count_below n g
    go true true k ih = omega arith
    go true false k ih = tf false (k refl) refl
    go false true k ih = omega arith
    go false false k ih = omega arith

abbrev pub but : (ℕ → Bool) → ℕ → ℕ → Bool
but f c x = f x && not (eqb x c)

-- taking out one that is not counted
pub count-above : (m : ℕ) (f : ℕ → Bool) (c : ℕ) → m ≤ c → count_below m f ≡ count_below m (but f c)
count-above zero f c k = refl
count-above (suc m) f c k = rw (ne_eqb m c (λ e. omega arith)) (ap₂ ◌+◌ (keep (f m)) (count-above m f c (omega arith)))
  where
    keep : (b : Bool) → one_if b ≡ one_if (b && true)
    keep true = refl
    keep false = refl

-- taking one out
pub count-but : (n : ℕ) (f : ℕ → Bool) (c : ℕ) → f c ≡ true → c < n → count_below n f ≡ suc (count_below n (but f c))
count-but zero f c p h = absurd (omega arith)
count-but (suc n) f c p h = go (split (eqb n c)) (count-but n f c p)
  where
    go : (eqb n c ≡ true) ⊎ (eqb n c ≡ false) → (c < n → count_below n f ≡ suc (count_below n (but f c)))
        → count_below (suc n) f ≡ suc (count_below (suc n) (but f c))
    go (inl q) ih =
        let e : n ≡ c = eqb-true n c q in
        let t : f n ≡ true = rw e p in
        let a : count_below n f ≡ count_below n (but f c) = count-above n f c (omega arith) in
        rw (q, t) (omega arith)
    go (inr q) ih =
        let d : n ≡ c → ⊥ = eqb-false n c q in
        let i : count_below n f ≡ suc (count_below n (but f c)) = ih (omega arith) in
        rw q (last (f n) i)
      where
        last : (b : Bool) → count_below n f ≡ suc (count_below n (but f c)) → one_if b + count_below n f ≡ suc (one_if (b && true) + count_below n (but f c))
        last true i = omega arith
        last false i = omega arith

-- the pigeonhole: different members of a set are no more than the set
pub pigeon : (n : ℕ) (l : List ℕ) (f : ℕ → Bool) → distinct l ≡ true → ((x : ℕ) → In x l → f x ≡ true) → ((x : ℕ) → In x l → x < n) → length l ≤ count_below n f
pigeon n [] f d h k = omega arith
pigeon n (x ∷ l) f d h k =
    let rest : length l ≤ count_below n (but f x) = pigeon n l (but f x) (and_r (not (elem x l)) (distinct l) d) stays (λ y m. k y (inr m)) in
    let one : count_below n f ≡ suc (count_below n (but f x)) = count-but n f x (h x (inl refl)) (k x (inl refl)) in
    omega arith
  where
    stays : (y : ℕ) → In y l → but f x y ≡ true
    stays y m = and_in (f y) (not (eqb y x)) (h y (inr m)) (rw (ne_eqb y x (λ e. tf (elem x l) (rw e at (in-elem y l m)) (not_is (elem x l) (and_l (not (elem x l)) (distinct l) d)))))

-- ---- tests below n, from their instances and back
pub all-below : (n : ℕ) (f : ℕ → Bool) → ((i : ℕ) → i < n → f i ≡ true) → all_below n f ≡ true
all-below zero f h = refl
all-below (suc n) f h = and_in (f n) (all_below n f) (h n (omega arith)) (all-below n f (λ i k. h i (omega arith)))

pub none_below : (n : ℕ) (f : ℕ → Bool) → ((i : ℕ) → i < n → f i ≡ false) → any_below n f ≡ false
none_below zero f h = refl
none_below (suc n) f h = rw (h n (omega arith)) (none_below n f (λ i k. h i (omega arith)))

pub any_below_lem : (n : ℕ) (f : ℕ → Bool) (i : ℕ) → i < n → f i ≡ true → any_below n f ≡ true
any_below_lem zero f i h e = absurd (omega arith)
any_below_lem (suc n) f i h e = go (split (eqb i n)) (any_below_lem n f i)
  where
    go : (eqb i n ≡ true) ⊎ (eqb i n ≡ false) → (i < n → f i ≡ true → any_below n f ≡ true) → (f n || any_below n f) ≡ true
    go (inl q) ih = or_l (f n) (any_below n f) (rw (eqb-true i n q) at e)
    go (inr q) ih = let d : i ≡ n → ⊥ = eqb-false i n q in or_r (f n) (any_below n f) (ih (omega arith) e)

pub any-below-out : (n : ℕ) (f : ℕ → Bool) → any_below n f ≡ true → (i : ℕ) × (i < n) × (f i ≡ true)
any-below-out zero f e = tf false e refl
any-below-out (suc n) f e = go (split (f n)) (any-below-out n f)
  where
    go : (f n ≡ true) ⊎ (f n ≡ false) → (any_below n f ≡ true → (i : ℕ) × (i < n) × (f i ≡ true)) → (i : ℕ) × (i < suc n) × (f i ≡ true)
    go (inl q) ih = (n, omega arith, q)
    go (inr q) ih = let r = ih (rw q at e) in let h : r.0 < n = r.1 in (r.0, omega arith, r.2)

-- a count above 0 has counted one
pub count-some : (n : ℕ) (f : ℕ → Bool) → 0 < count_below n f → (i : ℕ) × (i < n) × (f i ≡ true)
count-some zero f h = absurd (omega arith)
count-some (suc n) f h = go (split (f n)) (count-some n f)
  where
    go : (f n ≡ true) ⊎ (f n ≡ false) → (0 < count_below n f → (i : ℕ) × (i < n) × (f i ≡ true)) → (i : ℕ) × (i < suc n) × (f i ≡ true)
    go (inl q) ih = (n, omega arith, q)
    go (inr q) ih =
        let z : 0 < 0 + count_below n f = rw q at h in
        let r = ih (omega arith) in
        let b : r.0 < n = r.1 in
        (r.0, omega arith, r.2)

-- a test of all pairs below two bounds, computed, holds of each
pub at_pair : (p : ℕ → ℕ → Bool) (m n : ℕ) → all_below m (λ i. all_below n (p i)) ≡ true → (i : ℕ) → i < m → (k : ℕ) → k < n → p i k ≡ true
at_pair p m n t i hi k hk = below_all n (p i) k (below_all m (λ j. all_below n (p j)) i t hi) hk

-- a loop over a test below n: one more number that passes, that fails, or that is counted; and one that fails
pub all_more : (f : ℕ → Bool) (n : ℕ) → f n ≡ true → all_below n f ≡ true → all_below (n + 1) f ≡ true
all_more f n e h = rw add-one (and_in (f n) (all_below n f) e h)

pub any-more : (f : ℕ → Bool) (n : ℕ) → f n ≡ false → any_below n f ≡ false → any_below (n + 1) f ≡ false
any-more f n e h = rw (add-one, e) h

pub count-more : (f : ℕ → Bool) (n : ℕ) → count_below (n + 1) f ≡ one_if (f n) + count_below n f
count-more f n = rw add-one

pub all-fails : (f : ℕ → Bool) (n i : ℕ) → i < n → f i ≡ false → all_below n f ≡ false
all-fails f n i h e = never_true (all_below n f) (λ t. tf (f i) (below_all n f i t h) e)

-- two equations of numbers that say the same
pub eqb_same : (a b c d : ℕ) → (a ≡ b → c ≡ d) → (c ≡ d → a ≡ b) → eqb a b ≡ eqb c d
eqb_same a b c d f g = same_test (eqb a b) (eqb c d) (λ e. eq-eqb c d (f (eqb-true a b e))) (λ e. eq-eqb a b (g (eqb-true c d e)))

-- the count is 0 where none passes
pub count_none : (n : ℕ) (f : ℕ → Bool) → eqb (count_below n f) 0 ≡ all_below n (λ c. not (f c))
count_none zero f = refl
count_none (suc n) f = go (f n) (count_none n f)
  where
    go : (b : Bool) → eqb (count_below n f) 0 ≡ all_below n (λ c. not (f c)) → eqb (one_if b + count_below n f) 0 ≡ (not b && all_below n (λ c. not (f c)))
    go true ih = ne_eqb (1 + count_below n f) 0 (λ e. omega arith)
    go false ih = eqb_same (0 + count_below n f) 0 (count_below n f) 0 (λ e. omega arith) (λ e. omega arith) ∙ ih

-- as many pass both as pass the first: all that pass the first pass the second
pub count-part : (n : ℕ) (f g : ℕ → Bool) → eqb (count_below n (λ c. f c && g c)) (count_below n f) ≡ all_below n (λ c. not (f c) || g c)
count-part zero f g = refl
count-part (suc n) f g = go (f n) (g n) (count-part n f g) (count-mono n (λ c. f c && g c) f (λ i e. and_l (f i) (g i) e))
  where
    x : ℕ
    x = count_below n (λ c. f c && g c)

    y : ℕ
    y = count_below n f

    go : (a b : Bool) → eqb x y ≡ all_below n (λ c. not (f c) || g c) → x ≤ y → eqb (one_if (a && b) + x) (one_if a + y) ≡ ((not a || b) && all_below n (λ c. not (f c) || g c))
    go true true ih h = eqb_same (1 + x) (1 + y) x y (λ e. omega arith) (λ e. omega arith) ∙ ih
    go true false ih h = ne_eqb (0 + x) (1 + y) (λ e. omega arith)
    go false b ih h = eqb_same (0 + x) (0 + y) x y (λ e. omega arith) (λ e. omega arith) ∙ ih
