-- Laws of tests. Assumes nothing.
use mathlib.Core.Path.{◌≡◌, refl, sym, ◌∙◌}
use mathlib.Core.Logic.{◌⊎◌, inl, inr}
use mathlib.Core.Bool.{Bool, true, false, not, ◌&&◌, ◌||◌, true≢false, beq}
use Prim.Native.Nat.{ℕ}
use lib.Dec.{eqb}
use borrow.Author.Tests.{eq-eqb}

-- a test is not both true and false
pub tf {ℓ} : {A : Type ℓ} (b : Bool) → b ≡ true → b ≡ false → A
tf b p q = absurd (true≢false (sym p ∙ q))

pub and_l : (a b : Bool) → (a && b) ≡ true → a ≡ true
and_l true b e = refl
and_l false b e = e

pub and_r : (a b : Bool) → (a && b) ≡ true → b ≡ true
and_r true b e = e
and_r false b e = tf false e refl

pub and_in : (a b : Bool) → a ≡ true → b ≡ true → (a && b) ≡ true
and_in true b p q = q
and_in false b p q = p

pub or_cases : (a b : Bool) → (a || b) ≡ true → (a ≡ true) ⊎ (b ≡ true)
or_cases true b e = inl refl
or_cases false b e = inr e

pub or_l : (a b : Bool) → a ≡ true → (a || b) ≡ true
or_l true b e = refl
or_l false b e = tf false e refl

pub or_r : (a b : Bool) → b ≡ true → (a || b) ≡ true
or_r true b e = refl
or_r false b e = e

pub nor-l : (a b : Bool) → (a || b) ≡ false → a ≡ false
nor-l true b e = e
nor-l false b e = refl

pub nor-r : (a b : Bool) → (a || b) ≡ false → b ≡ false
nor-r true b e = tf true refl e
nor-r false b e = e

pub not_is : (a : Bool) → not a ≡ true → a ≡ false
not_is true e = tf false e refl
not_is false e = refl

pub not-not-is : (a : Bool) → not a ≡ false → a ≡ true
not-not-is true e = refl
not-not-is false e = tf true refl e

-- a test is true or false
pub split : (b : Bool) → (b ≡ true) ⊎ (b ≡ false)
split true = inl refl
split false = inr refl

pub never_true : (b : Bool) → (b ≡ true → ⊥) → b ≡ false
never_true true h = absurd (h refl)
never_true false h = refl

-- two tests with the same consequences
pub same_test : (a b : Bool) → (a ≡ true → b ≡ true) → (b ≡ true → a ≡ true) → a ≡ b
same_test true b f g = sym (f refl)
same_test false true f g = g refl
same_test false false f g = refl

pub eqb-self : (n : ℕ) → eqb n n ≡ true
eqb-self n = eq-eqb n n refl

-- a test that implies another
pub imp : (a b : Bool) → (a ≡ true → b ≡ true) → (not a || b) ≡ true
imp true b h = h refl
imp false b h = refl

pub imp-out : (a b : Bool) → (not a || b) ≡ true → a ≡ true → b ≡ true
imp-out true b e h = e
imp-out false b e h = tf false h refl

pub is-not : (a : Bool) → a ≡ false → not a ≡ true
is-not true e = sym e
is-not false e = refl

pub nand : (a b : Bool) → (a ≡ true → b ≡ false) → not (a && b) ≡ true
nand true b h = is-not b (h refl)
nand false b h = refl

-- behind a test, only what holds where it passes matters
pub and-when : (a x y : Bool) → (a ≡ true → x ≡ y) → (a && x) ≡ (a && y)
and-when true x y e = e refl
and-when false x y e = refl

-- equality of two tests, as a test
pub same_bool : (a b : Bool) → beq a b ≡ true → a ≡ b
same_bool true true e = refl
same_bool true false e = sym e
same_bool false true e = e
same_bool false false e = refl
