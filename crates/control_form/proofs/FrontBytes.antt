-- The control part that bytes show depends on the first 32 of them alone: a count of three bits reaches no mask behind them. So does what is asked of bytes
-- before the tables. Assumes nothing.
use mathlib.Core.Path.{◌≡◌, ap, ap₂, fun_ext, refl, ◌∙◌}
use mathlib.Core.Bool.{Bool, ◌&&◌, cond, false, true}
use mathlib.Core.Option.{Option, none}
use Prim.Native.Nat.{ℕ, ◌+◌, ◌-◌, ◌<◌}
use native.Mathlib.Omega.{arith}
use lib.Dec.{eqb, ltb}
use borrow.Author.Tests.{ltb-true}
use Rattle.lists.proofs.Bools.{and_r}
use Rattle.lists.proofs.Counts.{below-ext}
use Rattle.image.specs.Layout.{control_size, tran_bound}
use Rattle.mask.specs.Masks.{byte}
use Rattle.control.specs.ControlBytes.{Part, control_byte, control_of, count_in, failed_at, home_at, home_in, home_of, kept_as, last_mask_at, marks_at, masks_at}
use Rattle.control.specs.ControlBytes.{pairs_in, placement_at, placements_in, serial_at, stopped_in, working_at}
use Rattle.control.proofs.SerialLaws.{serial-same}
use Rattle.control.proofs.Struct.{placements-same}
use Rattle.control_form.specs.ControlForm.{count_ok, front_ok, part_ok, zero_fields_ok}

module _ (g h : ℕ → ℕ) (same : (n : ℕ) → n < control_size → g n ≡ h n) (t : ℕ → ℕ) where
  first : g 0 ≡ h 0
  first = same 0 (omega arith)

  marks : g marks_at ≡ h marks_at
  marks = same marks_at (omega arith)

  place_same : (i : ℕ) → masks_at + i < control_size → placement_at g t i ≡ placement_at h t i
  place_same i b = ap₂ (λ (m x : ℕ). kept_as i m x (pairs_in t i)) (same (masks_at + i) b) marks

  older-same : placements_in (placement_at g t) (count_in (g 0) - 1) ≡ placements_in (placement_at h t) (count_in (h 0) - 1)
  older-same = placements-same (placement_at g t) (placement_at h t) (count_in (g 0) - 1) (λ i b. place_same i (omega arith))
      ∙ ap (λ (x : ℕ). placements_in (placement_at h t) (count_in x - 1)) first

  newest-same : kept_as (count_in (g 0) - 1) (g (last_mask_at (count_in (g 0)))) (g marks_at) (pairs_in t (count_in (g 0) - 1))
      ≡ kept_as (count_in (h 0) - 1) (h (last_mask_at (count_in (h 0)))) (h marks_at) (pairs_in t (count_in (h 0) - 1))
  newest-same = ap₂ (λ (m x : ℕ). kept_as (count_in (g 0) - 1) m x (pairs_in t (count_in (g 0) - 1))) (same (last_mask_at (count_in (g 0))) (omega arith)) marks
      ∙ ap (λ (x : ℕ). kept_as (count_in x - 1) (h (last_mask_at (count_in x))) (h marks_at) (pairs_in t (count_in x - 1))) first

  home_same : (x : ℕ) → home_of x (g (home_at x)) ≡ home_of x (h (home_at x))
  home_same x = go (ltb 0 x && ltb x tran_bound) refl
    where
      go : (b : Bool) → (ltb 0 x && ltb x tran_bound) ≡ b → ◌≡◌ {A = Option ℕ} (cond b (home_in (g (home_at x))) none) (cond b (home_in (h (home_at x))) none)
      go true e = let l : x < tran_bound = ltb-true x tran_bound (and_r (ltb 0 x) (ltb x tran_bound) e) in ap home_in (same (home_at x) (omega arith))
      go false e = refl

  pub control-same : control_of g t ≡ control_of h t
  unfolding control_of
  control-same = λ i. record {
    stopped = stopped_in (first i);
    older = older-same i;
    newest = newest-same i;
    working = byte (same working_at (omega arith) i);
    failed = byte (same failed_at (omega arith) i);
    home = fun_ext home_same i;
    setting = tt;
    serial = serial-same (λ j. g (serial_at + j)) (λ j. h (serial_at + j)) (λ j b. same (serial_at + j) (omega arith)) i;
  }

  pub front_same : front_ok (control_of g t) g ≡ front_ok (control_of h t) h
  unfolding front_ok count_ok zero_fields_ok
  front_same = ap (λ (k : Part). front_ok k g) control-same
      ∙ ap₂ (λ (c z : Bool). c && (z && part_ok (control_of h t))) (ap (λ (x : ℕ). count_ok (λ n. x)) first)
      (below-ext control_size (λ n. eqb (g n) (control_byte (control_of h t) n)) (λ n. eqb (h n) (control_byte (control_of h t) n))
      (λ n b. ap (λ (x : ℕ). eqb x (control_byte (control_of h t) n)) (same n b)))
