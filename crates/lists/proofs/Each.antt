-- Laws of a function applied to a segment, and to each of a row of segments: what a structural loop leaves. Assumes nothing.
use mathlib.Core.Path.{◌≡◌, refl, sym, ap, ◌∙◌}
use mathlib.Core.Logic.{⊎_elim}
use mathlib.Core.List.{List}
use Prim.Native.Nat.{ℕ, zero, suc, ◌+◌, ◌*◌, ◌≤◌, ◌<◌}
use native.Mathlib.Nat.{suc-mul, mul-le-mul_right, not-suc-le-zero}
use native.Mathlib.Omega.{arith}
use native.Mathlib.Numerals.{add-one}
use lib.ListN.{length}
use Rattle.lists.specs.Segments.{segment, within, each, Keeps}
use Rattle.lists.proofs.Cases.{lt-or-ge}
use Rattle.lists.proofs.Segments.{length-segment, length-splice, get-put, get-put-before, get-put-after}

module _ (f : List ℕ → List ℕ) (n : ℕ) (keeps : Keeps n f) (l : List ℕ) (a : ℕ) (h : a + n ≤ length l) where
  fits : a + length (f (segment l a n)) ≤ length l
  fits = omega (arith, keeps (segment l a n) (length-segment l a n h))

  pub length-within : length (within l a n f) ≡ length l
  unfolding within
  length-within = length-splice l a _ fits

  pub within_same : segment (within l a n f) a n ≡ f (segment l a n)
  unfolding within
  within_same = get-put l a n _ (keeps _ (length-segment l a n h)) h

  pub within-before : (b m : ℕ) → b + m ≤ a → segment (within l a n f) b m ≡ segment l b m
  unfolding within
  within-before b m k = get-put-before l a _ b m fits k

  pub within-after : (b m : ℕ) → a + n ≤ b → b + m ≤ length l → segment (within l a n f) b m ≡ segment l b m
  unfolding within
  within-after b m k j = get-put-after l a _ b m fits (omega (arith, keeps (segment l a n) (length-segment l a n h))) j

-- one turn of a loop
pub each_none : (f : ℕ → List ℕ → List ℕ) (s n : ℕ) (l : List ℕ) → each f s n 0 l ≡ l
unfolding each
each_none f s n l = refl

pub each_more : (f : ℕ → List ℕ → List ℕ) (s n k : ℕ) (l : List ℕ) → within (each f s n k l) (s + k * n) n (f k) ≡ each f s n (k + 1) l
unfolding each
each_more f s n k l = rw add-one

module _ (f : ℕ → List ℕ → List ℕ) (s n : ℕ) (keeps : (k : ℕ) → Keeps n (f k)) (l : List ℕ) where
  pub length-each : (m : ℕ) → s + m * n ≤ length l → length (each f s n m l) ≡ length l
  unfolding each
  length-each zero h = refl
  length-each (suc m) h =
      let e = suc-mul m n in
      let r : length (each f s n m l) ≡ length l = length-each m (omega arith) in
      length-within (f m) n (keeps m) (each f s n m l) (s + m * n) (omega arith) ∙ r

  pub each-before : (m : ℕ) → s + m * n ≤ length l → (b j : ℕ) → b + j ≤ s → segment (each f s n m l) b j ≡ segment l b j
  unfolding each
  each-before zero h b j p = refl
  each-before (suc m) h b j p =
      let e = suc-mul m n in
      let r : length (each f s n m l) ≡ length l = length-each m (omega arith) in
      within-before (f m) n (keeps m) (each f s n m l) (s + m * n) (omega arith) b j (omega arith) ∙ each-before m (omega arith) b j p

  -- what lies behind the parts that were visited, a part that was not yet among it, is as it was
  pub each_after : (m : ℕ) → s + m * n ≤ length l → (b j : ℕ) → s + m * n ≤ b → b + j ≤ length l → segment (each f s n m l) b j ≡ segment l b j
  unfolding each
  each_after zero h b j p q = refl
  each_after (suc m) h b j p q =
      let e = suc-mul m n in
      let r : length (each f s n m l) ≡ length l = length-each m (omega arith) in
      within-after (f m) n (keeps m) (each f s n m l) (s + m * n) (omega arith) b j (omega arith) (omega arith) ∙ each_after m (omega arith) b j (omega arith) q

  -- part k, once visited
  pub each_in : (m : ℕ) → s + m * n ≤ length l → (k : ℕ) → k < m → segment (each f s n m l) (s + k * n) n ≡ f k (segment l (s + k * n) n)
  unfolding each
  each_in zero h k p = absurd (not-suc-le-zero p)
  each_in (suc m) h k p =
      let e = suc-mul m n in
      let r : length (each f s n m l) ≡ length l = length-each m (omega arith) in
      ⊎_elim
      (λ (q : k < m).
      let g : suc k * n ≤ m * n = mul-le-mul_right n q in
      let d = suc-mul k n in
      within-before (f m) n (keeps m) (each f s n m l) (s + m * n) (omega arith) (s + k * n) n (omega arith) ∙ each_in m (omega arith) k q)
      (λ (q : m ≤ k).
      let d : k ≡ m = omega arith in
      ap (λ (j : ℕ). segment (within (each f s n m l) (s + m * n) n (f m)) (s + j * n) n) d
      ∙ within_same (f m) n (keeps m) (each f s n m l) (s + m * n) (omega arith)
      ∙ ap (f m) (each_after m (omega arith) (s + m * n) n (omega arith) (omega arith))
      ∙ ap (λ (j : ℕ). f j (segment l (s + j * n) n)) (sym d))
      (lt-or-ge k m)
