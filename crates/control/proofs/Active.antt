-- Loops over the active placements: a test of every active mask is a test of the first `count` masks of the struct, so that the loop's
-- invariant is that those before i pass, one that fails decides, and at the end all passed. Assumes nothing.
use mathlib.Core.Path.{◌≡◌, refl, sym, ap, ◌∙◌}
use mathlib.Core.Bool.{Bool, true, false, ◌&&◌}
use Prim.Native.Nat.{ℕ, zero, suc, ◌+◌, ◌<◌}
use Rattle.lists.specs.Tests.{all_in, all_below}
use Rattle.lists.proofs.Counts.{all-fails, all_more}
use Rattle.mask.specs.Masks.{Byte, byte}
use Rattle.mask.specs.Placements.{Placement}
use Rattle.method.specs.ControlPart.{active}
use Rattle.control.specs.ControlBytes.{placements_in}
use Rattle.control.specs.Meaning.{Counted, mask_in, meaning, placement_in}
use Rattle.control.specs.declared.Control.{Control}
use Rattle.control.proofs.Struct.{active-is}

-- A test of the numbers below n, from the front and from the back.
and-swap : (a b c : Bool) → (a && (b && c)) ≡ (b && (a && c))
and-swap true true c = refl
and-swap true false c = refl
and-swap false true c = refl
and-swap false false c = refl

front : (n : ℕ) (f : ℕ → Bool) → (f 0 && all_below n (λ i. f (suc i))) ≡ all_below (suc n) f
front zero f = refl
front (suc n) f = and-swap (f 0) (f (suc n)) (all_below n (λ i. f (suc i))) ∙ ap (λ (b : Bool). f (suc n) && b) (front n f)

pub all-placements : (p : Placement → Bool) (f : ℕ → Placement) (n : ℕ) → all_in p (placements_in f n) ≡ all_below n (λ i. p (f i))
all-placements p f zero = refl
all-placements p f (suc n) = ap (λ (b : Bool). p (f 0) && b) (all-placements p (λ i. f (suc i)) n) ∙ front n (λ i. p (f i))

-- Mask i passes the test.
unfoldable pub mask_passes : (Byte → Bool) → Control → ℕ → Bool
mask_passes f k i = f (byte (mask_in k i))

module _ (f : Byte → Bool) (k : Control) (w : Counted k) where
  pub every-active : all_in (λ p. f p.mask) (active (meaning k)) ≡ all_below k.count (mask_passes f k)
  unfolding meaning mask_passes
  every-active = ap (all_in (λ (p : Placement). f p.mask)) (active-is k w) ∙ all-placements (λ p. f p.mask) (placement_in k) k.count

  -- mask i fails; mask i passes, and those before it; all passed
  pub one-fails : (i : ℕ) → i < k.count → f (byte (mask_in k i)) ≡ false → false ≡ all_in (λ p. f p.mask) (active (meaning k))
  unfolding mask_passes
  one-fails i h e = sym (every-active ∙ all-fails (mask_passes f k) k.count i h e)

  pub one_passes : (i : ℕ) → f (byte (mask_in k i)) ≡ true → all_below i (mask_passes f k) ≡ true → all_below (i + 1) (mask_passes f k) ≡ true
  unfolding mask_passes
  one_passes i e h = all_more (mask_passes f k) i e h

  pub every-passed : (i : ℕ) → k.count ≡ i → all_below i (mask_passes f k) ≡ true → true ≡ all_in (λ p. f p.mask) (active (meaning k))
  every-passed i e h = sym (every-active ∙ ap (λ (n : ℕ). all_below n (mask_passes f k)) e ∙ h)
