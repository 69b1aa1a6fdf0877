-- Laws of sets of transactions as numbers. Assumes nothing.
use Prim.Native.Nat.{◌%◌, ◌*◌, ◌+◌, ◌-◌, ◌/◌, ◌<◌, ◌^◌, ◌≤◌, suc, zero, ℕ}
use borrow.Author.Tests.{eqb-true, lt-ltb}
use lib.Dec.{eqb}
use lib.ListN.{get_or}
use lib.Pow.{high, pow-add, pow_mono, pow_pos}
use mathlib.Core.Bool.{Bool, cond, false, true}
use mathlib.Core.List.{List}
use mathlib.Core.Option.{Option, none}
use mathlib.Core.Path.{◌∙◌, ◌≡◌, ap, ap₂, refl, sym}
use native.Mathlib.Nat.{add_comm, mul-add-div, two-pow-succ, zero-add}
use native.Mathlib.Numerals.{add-one}
use native.Mathlib.Omega.{arith}
use Rattle.lists.specs.Tests.{all_below}
use Rattle.lists.proofs.Cases.{by-eq}
use Rattle.lists.proofs.Counts.{below_all}
use Rattle.image.specs.Layout.{tran_bound}
use Rattle.slot.specs.Blocks.{in_set}
use Rattle.control.specs.ControlBytes.{home_in, home_of}
use Rattle.tables.specs.Tables.{set_below, set_of}

-- A set of numbers below n has n bits.
pub set-lt : (n : ℕ) (f : ℕ → Bool) → set_below n f < 2 ^ n
set-lt zero f = omega arith
set-lt (suc n) f = go (f n) (set-lt n f)
  where
    go : (b : Bool) → set_below n f < 2 ^ n → cond b (2 ^ n) 0 + set_below n f < 2 ^ suc n
    go true h = omega (arith, two-pow-succ n)
    go false h = omega (arith, two-pow-succ n)

-- The highest bit of a number, and a bit below it.
top_bit : (n s : ℕ) (b : Bool) → s < 2 ^ n → in_set (cond b (2 ^ n) 0 + s) n ≡ b
unfolding in_set
top_bit n s true h = ap (λ (m : ℕ). eqb ((m + s) / 2 ^ n % 2) 1) one ∙ ap (λ (m : ℕ). eqb (m % 2) 1) (high 1 n h)
  where
    one : 2 ^ n ≡ 1 * 2 ^ n
    one = omega arith
top_bit n s false h = ap (λ (m : ℕ). eqb ((m + s) / 2 ^ n % 2) 1) none ∙ ap (λ (m : ℕ). eqb (m % 2) 1) (high 0 n h)
  where
    none : 0 ≡ 0 * 2 ^ n
    none = omega arith

low_bit : (n s t : ℕ) (b : Bool) → t < n → in_set (cond b (2 ^ n) 0 + s) t ≡ in_set s t
unfolding in_set
low_bit n s t false h = ap (λ (m : ℕ). eqb (m / 2 ^ t % 2) 1) (zero-add s)
low_bit n s t true h = ap (λ (m : ℕ). eqb ((m + s) / 2 ^ t % 2) 1) split ∙ ap (λ (m : ℕ). eqb (m % 2) 1) (mul-add-div (pow_pos t) (2 * 2 ^ (n - t - 1)) s)
    ∙ ap (λ (m : ℕ). eqb m 1) even
  where
    split : 2 ^ n ≡ 2 ^ t * (2 * 2 ^ (n - t - 1))
    split = ap (λ (m : ℕ). 2 ^ m) parts ∙ pow-add 2 t (1 + (n - t - 1)) ∙ ap (λ (m : ℕ). 2 ^ t * m) (pow-add 2 1 (n - t - 1))
      where
        parts : n ≡ t + (1 + (n - t - 1))
        parts = omega arith

    even : (2 * 2 ^ (n - t - 1) + s / 2 ^ t) % 2 ≡ s / 2 ^ t % 2
    even = omega arith

in-below : (n : ℕ) (f : ℕ → Bool) (t : ℕ) → t < n → in_set (set_below n f) t ≡ f t
in-below zero f t h = absurd (omega arith)
in-below (suc n) f t h = by-eq (in_set (set_below (suc n) f) t ≡ f t) t n
    (λ e. rw e (top_bit n (set_below n f) (f n) (set-lt n f)))
    (λ d. low_bit n (set_below n f) t (f n) (omega arith) ∙ in-below n f t (omega arith))

-- The set of the transactions that f picks has them and no other.
pub in-set-of : (f : ℕ → Bool) (t : ℕ) → t < tran_bound → in_set (set_of f) t ≡ f t
unfolding set_of
in-set-of f t h = in-below tran_bound f t h

-- The set of one transaction is its bit.
test-one : all_below tran_bound (λ t. eqb (set_of (λ x. eqb x t)) (2 ^ t)) ≡ true
unfolding set_of
test-one = refl

pub set-one : (t : ℕ) → t < tran_bound → set_of (λ x. eqb x t) ≡ 2 ^ t
set-one t h = eqb-true (set_of (λ x. eqb x t)) (2 ^ t) (below_all tran_bound (λ t. eqb (set_of (λ x. eqb x t)) (2 ^ t)) t test-one h)

-- The code's shift does not go past 16 bits.
test-shift : all_below tran_bound (λ t. eqb (1 * 2 ^ t % 65536) (2 ^ t)) ≡ true
test-shift = refl

pub shift_one : (t : ℕ) → t < tran_bound → 1 * 2 ^ t % 65536 ≡ set_of (λ x. eqb x t)
shift_one t h = eqb-true (1 * 2 ^ t % 65536) (2 ^ t) (below_all tran_bound (λ t. eqb (1 * 2 ^ t % 65536) (2 ^ t)) t test-shift h) ∙ sym (set-one t h)

-- ---- the set of the transactions whose homes p picks, as the loop collects it
abbrev pub picked : (Option ℕ → Bool) → List ℕ → ℕ → Bool
picked p homes t = p (home_of t (get_or homes (t - 1) 0))

module _ (p : Option ℕ → Bool) (homes : List ℕ) where
  pub picked-start : p none ≡ false → 0 ≡ set_below 1 (picked p homes)
  picked-start e = rw e refl

  turn : (i set : ℕ) → i < 15 → set ≡ set_below (i + 1) (picked p homes) → (on : Bool) → p (home_in (get_or homes i 0)) ≡ on
      → cond on (2 ^ (i + 1)) 0 + set ≡ set_below (i + 1 + 1) (picked p homes)
  turn i set h e on o = ap₂ (λ (b : Bool) (n : ℕ). cond b (2 ^ (i + 1)) 0 + n) (sym (here ∙ o)) e ∙ ap (λ (n : ℕ). set_below n (picked p homes)) (sym (add-one (i + 1)))
    where
      back : i + 1 - 1 ≡ i
      back = omega arith

      here : picked p homes (i + 1) ≡ p (home_in (get_or homes i 0))
      here = rw (lt-ltb 0 (i + 1) (omega arith), lt-ltb (i + 1) tran_bound (omega arith), back)

  -- one transaction more that is picked, and one that is not
  pub picked-in : (i set bit : ℕ) → i < 15 → set ≡ set_below (i + 1) (picked p homes) → p (home_in (get_or homes i 0)) ≡ true
      → bit ≡ set_of (λ x. eqb x (i + 1)) → set + bit ≡ set_below (i + 1 + 1) (picked p homes)
  picked-in i set bit h e o q = add_comm set bit ∙ ap (λ (n : ℕ). n + set) (q ∙ set-one (i + 1) (omega arith)) ∙ turn i set h e true o

  pub picked-out : (i set : ℕ) → i < 15 → set ≡ set_below (i + 1) (picked p homes) → p (home_in (get_or homes i 0)) ≡ false
      → set ≡ set_below (i + 1 + 1) (picked p homes)
  picked-out i set h e o = sym (zero-add set) ∙ turn i set h e false o

  -- and it has 16 bits
  pub picked-fits : (i set : ℕ) → i < 15 → set ≡ set_below (i + 1 + 1) (picked p homes) → set < 2 ^ 16
  picked-fits i set h e =
      let b : set_below (i + 1 + 1) (picked p homes) < 2 ^ (i + 1 + 1) = set-lt (i + 1 + 1) (picked p homes) in
      let n : i + 1 + 1 ≤ 16 = omega arith in
      let m : 2 ^ (i + 1 + 1) ≤ 2 ^ 16 = pow_mono n in
      omega arith
