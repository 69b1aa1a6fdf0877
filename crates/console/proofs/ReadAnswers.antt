-- What a read answered, and a step after a read that failed, which performs nothing. Assumes nothing.
use mathlib.Core.Path.{◌∙◌, ◌≡◌, ap, refl, subst, sym}
use mathlib.Core.Bool.{Bool, cond, false, true}
use mathlib.Core.List.{List, []}
use Prim.Native.Nat.{◌≤◌, zero-le, ℕ}
use native.Mathlib.Omega.{arith}
use lib.ListN.{length}
use Rattle.std.specs.Prelude.{Err, IsErrAnd, MatchResult, None, Ok, OnOk, Result, is_ok}
use Rattle.std.specs.Io.{ReadsAtMost}
use Rattle.console.specs.declared.ending.Failure.{Failure}
use Rattle.lists.specs.Segments.{segment}
use Rattle.lists.proofs.Bools.{tf}
use Rattle.cabinet_rules.specs.Images.{Image}
use Rattle.lines.proofs.Puts.{puts_none, puts_same}
use Rattle.listing.specs.Listing.{image_behind, listing}
use Rattle.console.specs.declared.Position.{Position}
use Rattle.console.specs.declared.Step.{Step}
use Rattle.console.specs.Readings.{Advanced, Given, Standing, gave, given_by, given_size, numbers_fit, performed, read_failed, standing}

-- ---- the answer: a number of bytes, or an error
-- a read into a part of a buffer answers at most the bytes of the part
pub size-within : {E : Type 0} (n : ℕ) (b : List ℕ) (r : Result ℕ E) → length b ≤ n → ReadsAtMost r b → given_size r ≤ n
size-within n b (Ok k) m h = omega (arith, h.0, m)
size-within n b (Err e) m h = zero-le

-- what a read gave, by its answer
pub size-ok : {E : Type 0} (r : Result ℕ E) (k : ℕ) → r ≡ Ok k → given_size r ≡ k
size-ok {E} r k e = ap (λ (x : Result ℕ E). given_size x) e

pub given-ok : {E : Type 0} (r : Result ℕ E) (k w : ℕ) (l : List ℕ) → r ≡ Ok k → gave (segment l w k) ≡ given_by r w l
given-ok {E} r k w l e = sym (ap (λ (x : Result ℕ E). given_by x w l) e)

pub given-err : {E : Type 0} (r : Result ℕ E) (x : E) (w : ℕ) (l : List ℕ) → r ≡ Err x → read_failed ≡ given_by r w l
given-err {E} r x w l e = sym (ap (λ (y : Result ℕ E). given_by y w l) e)

-- ---- what was given is the same
pub advanced-same : {s : Standing} {x y : Given} {out left b : List ℕ} {step : Step} {g : Image} → x ≡ y
    → Advanced s x out step left b g → Advanced s y out step left b g
advanced-same {s} {x} {y} {out} {left} {b} {step} {g} e a = subst (λ (z : Given). Advanced s z out step left b g) e a

-- ---- a read that failed
pub failed-step : (at : Position) (l out : List ℕ) (g : Image)
    → Advanced (standing at l g) read_failed out (record { put = 0; next = None }) out l g
unfolding performed image_behind listing
failed-step at l out g =
    let s : Standing = standing at l g in
    record {
      prints = puts_same (none (numbers_fit s read_failed)) (puts_none out 0 zero-le);
      leaves = same (numbers_fit s read_failed);
      goes = refl;
      stands = tt;
    }
  where
    none : (t : Bool) → ◌≡◌ {A = List ℕ} [] (cond t [] [])
    none true = refl
    none false = refl

    same : (t : Bool) → g ≡ cond t g g
    same true = refl
    same false = refl

pub unread : {E : Type 0} (r : Result ℕ E) (x : E) (w : ℕ) (l : List ℕ) {s : Standing} {out left b : List ℕ} {step : Step} {g : Image} → r ≡ Err x
    → Advanced s (given_by r w l) out step left b g → g ≡ s.image
unfolding performed image_behind
unread {E} r x w l {s} {out} {left} {b} {step} {g} e a =
    let h : Advanced s read_failed out step left b g = advanced-same (sym (given-err r x w l e)) a in
    h.leaves ∙ same (numbers_fit s read_failed)
  where
    same : (t : Bool) → cond t s.image s.image ≡ s.image
    same true = refl
    same false = refl

-- ---- an answer whose error is given another type
-- the answer was a number of bytes
pub is_read : {T E : Type 0} (r : Result T E) → true ≡ is_ok r → (n : T) × (r ≡ Ok n)
is_read (Ok n) e = (n, refl)
is_read (Err x) e = tf true refl e

pub of_ok : {T E P : Type 0} (r : Result T E) → OnOk r P → true ≡ is_ok r → P
of_ok (Ok n) h e = h
of_ok (Err x) h e = tf true refl e

-- the answer was the error that the run ends with
pub failed_read : {T E : Type 0} (make : E → Failure) (r : Result T E) (m : Result T Failure) (y : Failure)
    → MatchResult r (λ x. m ≡ Ok x) (λ e. IsErrAnd m (λ z. z ≡ make e)) → m ≡ Err y
    → (e : E) × (r ≡ Err e) × (y ≡ make e)
failed_read make (Ok x) m y h w = cc
failed_read {T} make (Err e) m y h w = (e, refl, subst (λ (n : Result T Failure). IsErrAnd n (λ z. z ≡ make e)) w h)
