-- The fields of the control bytes, a law a field: what is written there (at-..) and what is read there (shown-..). Every byte is of one field
-- (each-field), so a field more is an offset more, a law more of each kind and a case more. Assumes nothing.
use mathlib.Core.Path.{◌≡◌, refl, ap, subst, ◌∙◌}
use mathlib.Core.Logic.{⊎_elim}
use mathlib.Core.List.{List, [], ◌∷◌, ◌++◌}
use Prim.Native.Nat.{ℕ, zero, suc, ◌+◌, ◌-◌, ◌≤◌, ◌<◌}
use native.Mathlib.Omega.{arith}
use lib.ListN.{get_or, length}
use borrow.Author.Tests.{lt-ltb, le-ltb}
use Rattle.lists.proofs.Cases.{lt-or-ge}
use Rattle.image.specs.Layout.{most_active, tran_count}
use Rattle.mask.specs.Masks.{byte}
use Rattle.mask.specs.Placements.{Placement}
use Rattle.method.specs.ControlPart.{active}
use Rattle.control.specs.ControlBytes.{Part, control_byte, control_of, count_in, failed_at, first_byte, home_at, home_byte, home_of, homes_at, homes_end, serial_at, serial_end, serial_size}
use Rattle.control.specs.ControlBytes.{kept_as, last_mask_at, marks_at, marks_from, mask_bytes, masks_at, pairs_in, placement_at, placements_in, stopped_in, working_at}
use Rattle.control.specs.Serials.{serial_byte, serial_in}

-- ---- what is written
module _ (k : Part) where
  pub at_first_lem : control_byte k 0 ≡ first_byte k.stopped (suc (length k.older))
  unfolding control_byte
  at_first_lem = refl

  pub at-mask : (i : ℕ) → i < most_active → control_byte k (masks_at + i) ≡ get_or (mask_bytes (active k)) i 0
  unfolding control_byte
  at-mask i h = rw (le-ltb (masks_at + i) masks_at (omega arith), lt-ltb (masks_at + i) working_at (omega arith)) (ap (λ (j : ℕ). get_or (mask_bytes (active k)) j 0) e)
    where
      e : masks_at + i - masks_at ≡ i
      e = omega arith

  pub at-working : control_byte k working_at ≡ k.working.0
  unfolding control_byte
  at-working = refl

  pub at-failed : control_byte k failed_at ≡ k.failed.0
  unfolding control_byte
  at-failed = refl

  pub at-marks : control_byte k marks_at ≡ marks_from 0 (active k)
  unfolding control_byte
  at-marks = refl

  pub at_home : (i : ℕ) → i < tran_count → control_byte k (homes_at + i) ≡ home_byte (k.home (suc i))
  unfolding control_byte
  at_home i h =
      rw (
        le-ltb (homes_at + i) masks_at (omega arith),
        le-ltb (homes_at + i) working_at (omega arith),
        le-ltb (homes_at + i) failed_at (omega arith),
        le-ltb (homes_at + i) marks_at (omega arith),
        le-ltb (homes_at + i) homes_at (omega arith),
        lt-ltb (homes_at + i) homes_end (omega arith),
      )
      (ap (λ (j : ℕ). home_byte (k.home (suc j))) e)
    where
      e : homes_at + i - homes_at ≡ i
      e = omega arith

  pub at-serial : (i : ℕ) → i < serial_size → control_byte k (serial_at + i) ≡ serial_byte k.serial i
  unfolding control_byte
  at-serial i h =
      rw (
        le-ltb (serial_at + i) masks_at (omega arith),
        le-ltb (serial_at + i) working_at (omega arith),
        le-ltb (serial_at + i) failed_at (omega arith),
        le-ltb (serial_at + i) marks_at (omega arith),
        le-ltb (serial_at + i) homes_at (omega arith),
        le-ltb (serial_at + i) homes_end (omega arith),
        lt-ltb (serial_at + i) serial_end (omega arith),
      )
      (ap (λ (j : ℕ). serial_byte k.serial j) e)
    where
      e : serial_at + i - serial_at ≡ i
      e = omega arith

  pub at_rest : (n : ℕ) → serial_end ≤ n → control_byte k n ≡ 0
  unfolding control_byte
  at_rest n h =
      rw (
        le-ltb n masks_at (omega arith),
        le-ltb n working_at (omega arith),
        le-ltb n failed_at (omega arith),
        le-ltb n marks_at (omega arith),
        le-ltb n homes_at (omega arith),
        le-ltb n homes_end (omega arith),
        le-ltb n serial_end h,
      )

-- ---- what is read
-- The first n placements and one more.
pub placements-more : (f : ℕ → Placement) (n : ℕ) → placements_in f n ++ (f n ∷ []) ≡ placements_in f (suc n)
placements-more f zero = refl
placements-more f (suc n) = ap (λ (l : List Placement). f 0 ∷ l) (placements-more (λ i. f (suc i)) n)

module _ (g t : ℕ → ℕ) where
  pub shown-first : (control_of g t).stopped ≡ stopped_in (g 0)
  unfolding control_of
  shown-first = refl

  pub shown-older : (control_of g t).older ≡ placements_in (placement_at g t) (count_in (g 0) - 1)
  unfolding control_of
  shown-older = refl

  pub shown-working : (control_of g t).working ≡ byte (g working_at)
  unfolding control_of
  shown-working = refl

  pub shown-failed : (control_of g t).failed ≡ byte (g failed_at)
  unfolding control_of
  shown-failed = refl

  pub shown-home : (x : ℕ) → (control_of g t).home x ≡ home_of x (g (home_at x))
  unfolding control_of
  shown-home x = refl

  pub shown-serial : (control_of g t).serial ≡ serial_in (λ j. g (serial_at + j))
  unfolding control_of
  shown-serial = refl

  -- where the count is not 0, the newest is the last of the placements that the bytes show
  module _ (some : 1 ≤ count_in (g 0)) where
    pub shown-newest : (control_of g t).newest ≡ placement_at g t (count_in (g 0) - 1)
    unfolding control_of
    shown-newest = ap (λ (n : ℕ). kept_as (count_in (g 0) - 1) (g n) (g marks_at) (pairs_in t (count_in (g 0) - 1))) e
      where
        e : last_mask_at (count_in (g 0)) ≡ masks_at + (count_in (g 0) - 1)
        e = omega arith

    pub shown-active : active (control_of g t) ≡ placements_in (placement_at g t) (count_in (g 0))
    shown-active = ap (λ (p : Placement). (control_of g t).older ++ (p ∷ [])) shown-newest
        ∙ ap (λ (l : List Placement). l ++ (placement_at g t (count_in (g 0) - 1) ∷ [])) shown-older
        ∙ placements-more (placement_at g t) (count_in (g 0) - 1) ∙ ap (placements_in (placement_at g t)) e
      where
        e : suc (count_in (g 0) - 1) ≡ count_in (g 0)
        e = omega arith

-- ---- every byte
-- What holds of each field's bytes, and of the rest, holds of all.
pub each-field : (q : ℕ → Type 0) → q 0 → ((i : ℕ) → i < most_active → q (masks_at + i)) → q working_at → q failed_at → q marks_at
    → ((i : ℕ) → i < tran_count → q (homes_at + i)) → ((i : ℕ) → i < serial_size → q (serial_at + i)) → ((n : ℕ) → serial_end ≤ n → q n) → (n : ℕ) → q n
each-field q first mask working failed marks home serial rest n =
    ⊎_elim (λ (h : n < masks_at). let e : 0 ≡ n = omega arith in subst q e first)
    (λ (a : masks_at ≤ n). ⊎_elim (λ (h : n < working_at). let e : masks_at + (n - masks_at) ≡ n = omega arith in subst q e (mask (n - masks_at) (omega arith)))
    (λ (b : working_at ≤ n). ⊎_elim (λ (h : n < failed_at). let e : working_at ≡ n = omega arith in subst q e working)
    (λ (c : failed_at ≤ n). ⊎_elim (λ (h : n < marks_at). let e : failed_at ≡ n = omega arith in subst q e failed)
    (λ (d : marks_at ≤ n). ⊎_elim (λ (h : n < homes_at). let e : marks_at ≡ n = omega arith in subst q e marks)
    (λ (f : homes_at ≤ n). ⊎_elim (λ (h : n < homes_end). let e : homes_at + (n - homes_at) ≡ n = omega arith in subst q e (home (n - homes_at) (omega arith)))
    (λ (g : homes_end ≤ n). ⊎_elim (λ (h : n < serial_end). let e : serial_at + (n - serial_at) ≡ n = omega arith in subst q e (serial (n - serial_at) (omega arith)))
    (rest n) (lt-or-ge n serial_end)) (lt-or-ge n homes_end)) (lt-or-ge n homes_at)) (lt-or-ge n marks_at)) (lt-or-ge n failed_at)) (lt-or-ge n working_at)) (lt-or-ge n masks_at)
