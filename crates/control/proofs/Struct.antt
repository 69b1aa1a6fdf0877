-- What is read means what the rules read, and the struct's bytes are the rules' bytes. Assumes nothing.
use mathlib.Core.Path.{◌≡◌, refl, sym, ap, ap₂, ◌∙◌, fun_ext}
use mathlib.Core.Logic.{◌⊎◌, inl, inr, ⊎_elim}
use mathlib.Core.Bool.{Bool, true, false, ◌&&◌, cond}
use mathlib.Core.List.{List, [], ◌∷◌, ◌++◌, map}
use mathlib.Core.Option.{none, some}
use Prim.Native.Nat.{ℕ, zero, suc, ◌+◌, ◌-◌, ◌/◌, ◌%◌, ◌≤◌, ◌<◌}
use native.Mathlib.Omega.{arith}
use native.Mathlib.Nat.{mod-eq_of_lt}
use lib.Dec.{leb, ltb}
use lib.ListN.{get_or, length, length-map}
use borrow.Author.Tests.{ltb-true, lt-ltb, le-ltb}
use Rattle.lists.proofs.Bools.{split, and_l, and_r}
use Rattle.lists.proofs.Cases.{lt-or-ge}
use Rattle.lists.specs.Tabulate.{tabulate}
use Rattle.lists.proofs.Tabulate.{at-tabulate}
use Rattle.image.specs.Layout.{most_active, tran_bound, tran_count}
use Rattle.mask.specs.Masks.{byte}
use Rattle.mask.specs.Pairs.{Pairs, no_pairs}
use Rattle.mask.specs.Placements.{Choice, Placement, pairless}
use Rattle.method.specs.Slots.{is_some}
use Rattle.control.specs.ControlBytes.{Part, control_byte, control_of, count_in, failed_at, field, field_bound, first_byte, home_at, home_byte, home_in}
use Rattle.control.specs.ControlBytes.{home_of, homes_at, kept_as, last_mask_at, marks_at, marks_from, mask_bytes, masks_at, open_bit}
use Rattle.control.specs.ControlBytes.{front_part, mark_in, pairs_in, placement_at, placements_in, serial_at, serial_end, serial_size, stopped_bit, stopped_in, table_mark_in, working_at}
use Rattle.control.specs.Serials.{serial_byte, serial_in}
use Rattle.control.specs.Meaning.{row_of, struct_of, clean_marks, mask_in, newest_mask, placement_in, meaning, Counted, Is}
use Rattle.control.specs.declared.Control.{Control}
use Rattle.control.proofs.Fields.{at-failed, at_first_lem, at_home, at-marks, at-mask, at_rest, at-serial, at-working, placements-more}
use Rattle.control.proofs.Marks.{chosen-pairless, kind-kept, marks-kept}

-- The highest bit of a transaction's byte says that it is open.
pub open-bit : (n : ℕ) → leb open_bit n ≡ is_some (home_in n)
open-bit n = go (leb open_bit n)
  where
    go : (b : Bool) → b ≡ is_some (cond b (some (n / field % field_bound)) none)
    go true = refl
    go false = refl

-- ---- lists of placements: the same ones, the length, the masks
pub placements-same : (f g : ℕ → Placement) (n : ℕ) → ((i : ℕ) → i < n → f i ≡ g i) → placements_in f n ≡ placements_in g n
placements-same f g zero h = refl
placements-same f g (suc n) h =
    ap₂ (λ (p : Placement) (l : List Placement). p ∷ l) (h 0 (omega arith))
    (placements-same (λ i. f (suc i)) (λ i. g (suc i)) n (λ i k. h (suc i) (omega arith)))

pub length-placements : (f : ℕ → Placement) (n : ℕ) → length (placements_in f n) ≡ n
length-placements f zero = refl
length-placements f (suc n) = ap suc (length-placements (λ i. f (suc i)) n)

at-masks : (f : ℕ → Placement) (n i : ℕ) → i < n → get_or (mask_bytes (placements_in f n)) i 0 ≡ (f i).mask.0
at-masks f zero i h = absurd (omega arith)
at-masks f (suc n) zero h = refl
at-masks f (suc n) (suc i) h = at-masks (λ i. f (suc i)) n i (omega arith)

past-masks : (f : ℕ → Placement) (n i : ℕ) → n ≤ i → get_or (mask_bytes (placements_in f n)) i 0 ≡ 0
past-masks f zero i h = refl
past-masks f (suc n) zero h = absurd (omega arith)
past-masks f (suc n) (suc i) h = past-masks (λ i. f (suc i)) n i (omega arith)

-- ---- what is read
pub at_row : (l : List ℕ) (n a i : ℕ) → i < n → get_or (row_of l a n) i 0 ≡ get_or l (a + i) 0
at_row l zero a i h = absurd (omega arith)
at_row l (suc n) a zero h = ap (λ (j : ℕ). get_or l j 0) e
  where
    e : a ≡ a + 0
    e = omega arith
at_row l (suc n) a (suc i) h = at_row l n (suc a) i (omega arith) ∙ ap (λ (j : ℕ). get_or l j 0) e
  where
    e : suc a + i ≡ a + suc i
    e = omega arith

-- A placement without its pairs is what a mask and marks keep.
pub kept-pairless : (i mask marks : ℕ) (x : Pairs) → kept_as i mask marks no_pairs ≡ pairless (kept_as i mask marks x)
kept-pairless i mask marks x = ap (λ (c : Choice). record { mask = byte mask; choice = c }) (sym (chosen-pairless (table_mark_in marks i) (mark_in marks i) x))

map-placements : (h : Placement → Placement) (f : ℕ → Placement) (n : ℕ) → map h (placements_in f n) ≡ placements_in (λ i. h (f i)) n
map-placements h f zero = refl
map-placements h f (suc n) = ap (λ (l : List Placement). h (f 0) ∷ l) (map-placements h (λ i. f (suc i)) n)

-- What the code reads is the struct, once the serial is.
pub decoded : (l : List ℕ) (ν : ℕ) → ν ≡ serial_in (λ j. get_or l (serial_at + j) 0)
    → record {
      stopped = stopped_in (get_or l 0 0);
      count = count_in (get_or l 0 0);
      masks = row_of l masks_at most_active;
      working = get_or l working_at 0;
      failed = get_or l failed_at 0;
      marks = get_or l marks_at 0;
      homes = row_of l homes_at tran_count;
      serial = ν;
    } ≡ struct_of l
unfolding struct_of
decoded l ν e = λ i. record {
  stopped = stopped_in (get_or l 0 0);
  count = count_in (get_or l 0 0);
  masks = row_of l masks_at most_active;
  working = get_or l working_at 0;
  failed = get_or l failed_at 0;
  marks = get_or l marks_at 0;
  homes = row_of l homes_at tran_count;
  serial = e i;
}

-- The struct that is read off bytes with a count of 1 to 4 means the control part that they show, without its pairs.
pub read-means : (l : List ℕ) (t : ℕ → ℕ) → 1 ≤ count_in (get_or l 0 0) → count_in (get_or l 0 0) ≤ most_active → meaning (struct_of l) ≡ front_part (control_of (λ n. get_or l n 0) t)
unfolding meaning struct_of control_of
read-means l t lo hi = λ i. record {
  stopped = stopped_in (get_or l 0 0);
  older = old i;
  newest = new i;
  working = byte (get_or l working_at 0);
  failed = byte (get_or l failed_at 0);
  home = fun_ext homes i;
  setting = tt;
  serial = serial_in (λ j. get_or l (serial_at + j) 0);
}
  where
    n : ℕ
    n = count_in (get_or l 0 0)

    one : (i : ℕ) → i < most_active → kept_as i (get_or (row_of l masks_at most_active) i 0) (get_or l marks_at 0) no_pairs ≡ pairless (placement_at (λ n. get_or l n 0) t i)
    one i h = ap (λ (m : ℕ). kept_as i m (get_or l marks_at 0) no_pairs) (at_row l most_active masks_at i h)
        ∙ kept-pairless i (get_or l (masks_at + i) 0) (get_or l marks_at 0) (pairs_in t i)

    old : placements_in (λ i. kept_as i (get_or (row_of l masks_at most_active) i 0) (get_or l marks_at 0) no_pairs) (n - 1)
        ≡ map pairless (placements_in (placement_at (λ n. get_or l n 0) t) (n - 1))
    old = placements-same (λ i. kept_as i (get_or (row_of l masks_at most_active) i 0) (get_or l marks_at 0) no_pairs) (λ i. pairless (placement_at (λ n. get_or l n 0) t i)) (n - 1)
        (λ i h. one i (omega arith))
        ∙ sym (map-placements pairless (placement_at (λ n. get_or l n 0) t) (n - 1))

    last : masks_at + (n - 1) ≡ last_mask_at n
    last = omega arith

    new : kept_as (n - 1) (get_or (row_of l masks_at most_active) (n - 1) 0) (get_or l marks_at 0) no_pairs
        ≡ pairless (kept_as (n - 1) (get_or l (last_mask_at n) 0) (get_or l marks_at 0) (pairs_in t (n - 1)))
    new = one (n - 1) (omega arith) ∙ ap (λ (j : ℕ). pairless (kept_as (n - 1) (get_or l j 0) (get_or l marks_at 0) (pairs_in t (n - 1)))) last

    homes : (t : ℕ) → home_of t (get_or (row_of l homes_at tran_count) (t - 1) 0) ≡ home_of t (get_or l (home_at t) 0)
    homes t = go (split (ltb 0 t && ltb t tran_bound))
      where
        go : (ltb 0 t && ltb t tran_bound) ≡ true ⊎ (ltb 0 t && ltb t tran_bound) ≡ false
            → home_of t (get_or (row_of l homes_at tran_count) (t - 1) 0) ≡ home_of t (get_or l (home_at t) 0)
        go (inr e) = rw e
        go (inl e) =
            let a : 0 < t = ltb-true 0 t (and_l (ltb 0 t) (ltb t tran_bound) e) in
            let b : t < tran_bound = ltb-true t tran_bound (and_r (ltb 0 t) (ltb t tran_bound) e) in
            ap (home_of t) (at_row l tran_count homes_at (t - 1) (omega arith))

-- A struct that means the placements that bytes show has their count.
pub shown-count : (g t : ℕ → ℕ) → 1 ≤ count_in (g 0) → (k : Control) → Counted k → meaning k ≡ front_part (control_of g t) → k.count ≡ count_in (g 0)
unfolding meaning control_of
shown-count g t lo k w e =
    let same : k.count - 1 ≡ count_in (g 0) - 1 = sym (length-placements (placement_in k) (k.count - 1))
    ∙ ap (λ (p : Part). length p.older) e ∙ length-map (placements_in (placement_at g t) (count_in (g 0) - 1)) pairless
    ∙ length-placements (placement_at g t) (count_in (g 0) - 1) in
    omega (arith, w.some)

-- The newest placement's mask.
pub newest-mask-is : (k : Control) (m : ℕ) → m ≡ newest_mask k → byte m ≡ (meaning k).newest.mask
unfolding meaning
newest-mask-is k m e = ap byte e

-- Its serial, and that of the control part that the struct is.
pub serial-is : (k : Control) → k.serial ≡ (meaning k).serial
unfolding meaning
serial-is k = refl

pub is-serial : (k : Control) (p : Part) → Is k p → k.serial ≡ p.serial
is-serial k p w = serial-is k ∙ ap (λ (q : Part). q.serial) w.means

-- ---- the bytes of a struct, each as the rules give it
module _ (k : Control) (w : Counted k) where
  -- the active placements are the first `count` ones
  pub active-is : placements_in (placement_in k) (k.count - 1) ++ (placement_in k (k.count - 1) ∷ []) ≡ placements_in (placement_in k) k.count
  active-is = placements-more (placement_in k) (k.count - 1) ∙ ap (placements_in (placement_in k)) e
    where
      e : suc (k.count - 1) ≡ k.count
      e = omega (arith, w.some)

  pub byte-first : first_byte k.stopped k.count ≡ control_byte (meaning k) 0
  unfolding meaning
  byte-first = sym (at_first_lem (meaning k) ∙ ap (first_byte k.stopped) (ap suc (length-placements (placement_in k) (k.count - 1)) ∙ e))
    where
      e : suc (k.count - 1) ≡ k.count
      e = omega (arith, w.some)

  mask-byte : (i : ℕ) → i < most_active → control_byte (meaning k) (masks_at + i) ≡ get_or (mask_bytes (placements_in (placement_in k) k.count)) i 0
  unfolding meaning
  mask-byte i h = at-mask (meaning k) i h ∙ ap (λ (l : List Placement). get_or (mask_bytes l) i 0) active-is

  -- mask i, zero from the count on
  pub byte_mask : (i : ℕ) → i < most_active → i < k.count → mask_in k i < 256 → mask_in k i ≡ control_byte (meaning k) (masks_at + i)
  byte_mask i h p b = sym (mask-byte i h ∙ at-masks (placement_in k) k.count i p ∙ mod-eq_of_lt b)

  pub byte-unused : (i : ℕ) → i < most_active → k.count ≤ i → 0 ≡ control_byte (meaning k) (masks_at + i)
  byte-unused i h p = sym (mask-byte i h ∙ past-masks (placement_in k) k.count i p)

  pub byte-mask-at : (i : ℕ) → i < most_active → mask_in k i < 256 → cond (ltb i k.count) (mask_in k i) 0 ≡ control_byte (meaning k) (masks_at + i)
  byte-mask-at i h b = ⊎_elim
      (λ p. rw (lt-ltb i k.count p) (byte_mask i h p b))
      (λ p. rw (le-ltb i k.count p) (byte-unused i h p))
      (lt-or-ge i k.count)

  pub byte-working : k.working < 256 → k.working ≡ control_byte (meaning k) working_at
  unfolding meaning
  byte-working h = sym (at-working (meaning k) ∙ mod-eq_of_lt h)

  pub byte-failed : k.failed < 256 → k.failed ≡ control_byte (meaning k) failed_at
  unfolding meaning
  byte-failed h = sym (at-failed (meaning k) ∙ mod-eq_of_lt h)

  pub byte-marks : k.marks < 256 → clean_marks k.count k.marks ≡ control_byte (meaning k) marks_at
  unfolding meaning
  byte-marks h = marks-kept (placement_in k) k.count k.marks (λ i p. kind-kept k.marks i no_pairs) w.few h
      ∙ sym (at-marks (meaning k) ∙ ap (marks_from 0) active-is)

  pub byte-home : (i : ℕ) → i < tran_count → home_byte (home_in (get_or k.homes i 0)) ≡ control_byte (meaning k) (homes_at + i)
  unfolding meaning
  byte-home i h = sym (at_home (meaning k) i h
      ∙ rw (lt-ltb 0 (suc i) (omega arith), lt-ltb (suc i) tran_bound (omega arith)) (ap (λ (j : ℕ). home_byte (home_in (get_or k.homes j 0))) e))
    where
      e : suc i - 1 ≡ i
      e = omega arith

  pub byte-serial : (i : ℕ) → i < serial_size → serial_byte k.serial i ≡ control_byte (meaning k) (serial_at + i)
  unfolding meaning
  byte-serial i h = sym (at-serial (meaning k) i h)

  -- as three bytes that were made of it
  pub written-serial : (xs : List ℕ) → xs ≡ tabulate serial_size (serial_byte k.serial) → (i : ℕ) → i < serial_size → get_or xs i 0 ≡ control_byte (meaning k) (serial_at + i)
  written-serial xs e i h = ap (λ (l : List ℕ). get_or l i 0) e ∙ at-tabulate serial_size (serial_byte k.serial) i h ∙ byte-serial i h

  pub byte-rest : (n : ℕ) → serial_end ≤ n → 0 ≡ control_byte (meaning k) n
  byte-rest n h = sym (at_rest (meaning k) n h)

pub bit_le : (b : Bool) → cond b stopped_bit 0 ≤ stopped_bit
bit_le true = omega arith
bit_le false = omega arith
