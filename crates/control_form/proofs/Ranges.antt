-- Laws of a test of the numbers from a on and below e: its instances, its parts, and what it shares with others.
-- Assumes nothing.
use mathlib.Core.Path.{◌≡◌, sym, ap, ◌∙◌}
use mathlib.Core.Logic.{⊎_elim}
use mathlib.Core.Bool.{Bool, true, false, ◌&&◌, ◌||◌}
use Prim.Native.Nat.{ℕ, ◌+◌, ◌-◌, ◌≤◌, ◌<◌}
use native.Mathlib.Omega.{arith}
use lib.Dec.{ltb}
use borrow.Author.Tests.{lt-ltb, le-ltb}
use Rattle.lists.specs.Tests.{all_below}
use Rattle.lists.proofs.Bools.{and_in, and_l, and_r, or_l, or_r, same_test}
use Rattle.lists.proofs.Cases.{lt-or-ge}
use Rattle.lists.proofs.Counts.{all-below, all-fails, below_all}
use Rattle.control_form.specs.Reading.{all_from}

module _ (a : ℕ) (f : ℕ → Bool) where
  pub all-from : (e : ℕ) → ((n : ℕ) → a ≤ n → n < e → f n ≡ true) → all_from a e f ≡ true
  unfolding all_from
  all-from e h = all-below e (λ n. ltb n a || f n)
      (λ n b. ⊎_elim (λ p. or_l (ltb n a) (f n) (lt-ltb n a p)) (λ p. or_r (ltb n a) (f n) (h n p b)) (lt-or-ge n a))

  pub from_all : (e n : ℕ) → all_from a e f ≡ true → a ≤ n → n < e → f n ≡ true
  unfolding all_from
  from_all e n t h b = sym (at n h) ∙ below_all e (λ n. ltb n a || f n) n t b
    where
      at : (n : ℕ) → a ≤ n → (ltb n a || f n) ≡ f n
      at n h = rw (le-ltb n a h)

  pub from-fails : (e i : ℕ) → a ≤ i → i < e → f i ≡ false → false ≡ all_from a e f
  unfolding all_from
  from-fails e i h b x = sym (all-fails (λ n. ltb n a || f n) e i b (rw (le-ltb i a h) x))

  -- the k numbers from a on
  pub from-below : (k e : ℕ) → e ≡ a + k → all_below k (λ i. f (a + i)) ≡ all_from a e f
  from-below k e s = same_test (all_below k (λ i. f (a + i))) (all_from a e f)
      (λ t. all-from e (λ n p q. let m : a + (n - a) ≡ n = omega arith in ap f (sym m) ∙ below_all k (λ i. f (a + i)) (n - a) t (omega arith)))
      (λ t. all-below k (λ i. f (a + i)) (λ i h. from_all e (a + i) t (omega arith) (omega arith)))

  -- each of them passes
  pub from_each : (k e : ℕ) → e ≡ a + k → ((i : ℕ) → i < k → f (a + i) ≡ true) → all_from a e f ≡ true
  from_each k e s h = sym (from-below k e s) ∙ all-below k (λ i. f (a + i)) h

-- In two parts that may overlap.
pub from-cover : (a m b e : ℕ) (f : ℕ → Bool) → a ≤ m → m ≤ b → b ≤ e → all_from a e f ≡ (all_from a b f && all_from m e f)
from-cover a m b e f lo mid hi = same_test (all_from a e f) (all_from a b f && all_from m e f)
    (λ t. and_in (all_from a b f) (all_from m e f)
    (all-from a f b (λ n p q. from_all a f e n t p (omega arith)))
    (all-from m f e (λ n p q. from_all a f e n t (omega arith) q)))
    (λ t. all-from a f e (λ n p q. ⊎_elim
    (λ s. from_all a f b n (and_l (all_from a b f) (all_from m e f) t) p s)
    (λ (s : b ≤ n). from_all m f e n (and_r (all_from a b f) (all_from m e f) t) (omega arith) q) (lt-or-ge n b)))

-- Two tests that agree there, and two at once.
pub from-ext : (a e : ℕ) (f g : ℕ → Bool) → ((n : ℕ) → a ≤ n → n < e → f n ≡ g n) → all_from a e f ≡ all_from a e g
from-ext a e f g h = same_test (all_from a e f) (all_from a e g)
    (λ t. all-from a g e (λ n p q. sym (h n p q) ∙ from_all a f e n t p q))
    (λ t. all-from a f e (λ n p q. h n p q ∙ from_all a g e n t p q))

pub from-both : (a e : ℕ) (f g : ℕ → Bool) → all_from a e (λ n. f n && g n) ≡ (all_from a e f && all_from a e g)
from-both a e f g = same_test (all_from a e (λ n. f n && g n)) (all_from a e f && all_from a e g)
    (λ t. and_in (all_from a e f) (all_from a e g)
    (all-from a f e (λ n p q. and_l (f n) (g n) (from_all a (λ n. f n && g n) e n t p q)))
    (all-from a g e (λ n p q. and_r (f n) (g n) (from_all a (λ n. f n && g n) e n t p q))))
    (λ t. all-from a (λ n. f n && g n) e (λ n p q. and_in (f n) (g n)
    (from_all a f e n (and_l (all_from a e f) (all_from a e g) t) p q)
    (from_all a g e n (and_r (all_from a e f) (all_from a e g) t) p q)))
