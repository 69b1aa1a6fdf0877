-- Zero bytes asked as numbers: the masks from the count on, the bytes behind the serial, and the transactions' bytes
-- where none may be open. Assumes nothing.
use mathlib.Core.Path.{◌≡◌, refl, sym, ap, ap₂, ◌∙◌}
use mathlib.Core.Bool.{Bool, true, false, not, ◌&&◌, ◌||◌, beq, cond}
use mathlib.Core.List.{List}
use mathlib.Core.Option.{none, some}
use Prim.Native.Nat.{ℕ, ◌+◌, ◌-◌, ◌*◌, ◌/◌, ◌^◌, ◌≤◌, ◌<◌}
use native.Mathlib.Nat.{add_assoc}
use native.Mathlib.Omega.{arith}
use lib.Dec.{eqb, leb}
use lib.ListN.{get_or}
use Rattle.lists.specs.Bytes.{of_bytes}
use Rattle.lists.specs.Tests.{all_below}
use Rattle.lists.proofs.Bools.{imp-out, same_bool}
use Rattle.lists.proofs.Bytes.{AreBytes, bytes-behind, zero_test}
use Rattle.lists.proofs.Counts.{below_all, below-ext}
use Rattle.image.specs.Layout.{control_size, most_active}
use Rattle.mask.specs.Masks.{Byte, byte}
use Rattle.control.specs.ControlBytes.{home_byte, home_in, homes_at, homes_end, masks_at, open_bit, serial_end, working_at}
use Rattle.control_form.specs.ControlForm.{home_ok}
use Rattle.control_form.specs.Reading.{all_from, first_end, half_size, home_ok_at, is_home_at, is_zero_at, last_at, second_at, word_size}
use Rattle.control_form.proofs.Ranges.{from_all, from-below, from-cover, from-ext}

-- A closed transaction's byte is zero; where none may be open, every byte must be.
test-closed : all_below 256 (λ b. not (eqb b (home_byte (home_in b))) || beq (eqb b 0) (not (leb open_bit b))) ≡ true
test-closed = refl

closed-home : (w : Byte) (b : Bool) (h : ℕ) → not b ≡ home_ok true w (cond b (some h) none)
unfolding home_ok
closed-home w true h = refl
closed-home w false h = refl

-- Of the last word the bytes behind the serial's, which are its first ones.
abbrev serials_last : ℕ
serials_last = serial_end - last_at

last-six : (f : ℕ → ℕ) → AreBytes f → of_bytes f word_size / 65536 ≡ of_bytes (λ i. f (serials_last + i)) (control_size - serial_end)
unfolding of_bytes
last-six f p = let a : f 0 < 2 ^ 8 = p 0 in let b : f 1 < 2 ^ 8 = p 1 in omega arith

module _ (l : List ℕ) (small : (n : ℕ) → get_or l n 0 < 256) where
  -- eight bytes from an index on
  pub zeros-at : (at w : ℕ) → w ≡ of_bytes (λ i. get_or l (at + i) 0) word_size → eqb w 0 ≡ all_from at (at + word_size) (is_zero_at l)
  unfolding is_zero_at
  zeros-at at w e = ap (λ (n : ℕ). eqb n 0) e ∙ zero_test (λ i. get_or l (at + i) 0) (λ i. small (at + i)) word_size
      ∙ from-below at (is_zero_at l) word_size (at + word_size) refl

  pub masks-by : (count n : ℕ) → 1 ≤ count → count ≤ most_active → n ≡ of_bytes (λ i. get_or l (masks_at + i) 0) half_size
      → eqb (n / 2 ^ (count * 8)) 0 ≡ all_from (masks_at + count) working_at (is_zero_at l)
  unfolding is_zero_at
  masks-by count n lo hi e =
      ap (λ (m : ℕ). eqb (m / 2 ^ (count * 8)) 0) e
      ∙ ap (λ (m : ℕ). eqb m 0) (bytes-behind (λ i. get_or l (masks_at + i) 0) (λ i. small (masks_at + i)) count lo hi)
      ∙ zero_test (λ i. get_or l (masks_at + (count + i)) 0) (λ i. small (masks_at + (count + i))) (most_active - count)
      ∙ below-ext (most_active - count) (λ i. eqb (get_or l (masks_at + (count + i)) 0) 0) (λ i. is_zero_at l (masks_at + count + i))
      (λ i h. ap (λ (m : ℕ). eqb (get_or l m 0) 0) (sym (add_assoc masks_at count i)))
      ∙ from-below (masks_at + count) (is_zero_at l) (most_active - count) working_at (omega arith)

  pub tail-by : (w : ℕ) → w ≡ of_bytes (λ i. get_or l (last_at + i) 0) word_size → eqb (w / 65536) 0 ≡ all_from serial_end control_size (is_zero_at l)
  unfolding is_zero_at
  tail-by w e =
      ap (λ (m : ℕ). eqb (m / 65536) 0) e
      ∙ ap (λ (m : ℕ). eqb m 0) (last-six (λ i. get_or l (last_at + i) 0) (λ i. small (last_at + i)))
      ∙ zero_test (λ i. get_or l (last_at + (serials_last + i)) 0) (λ i. small (last_at + (serials_last + i))) (control_size - serial_end)
      ∙ below-ext (control_size - serial_end) (λ i. eqb (get_or l (last_at + (serials_last + i)) 0) 0) (λ i. is_zero_at l (serial_end + i))
      (λ i h. ap (λ (m : ℕ). eqb (get_or l m 0) 0) (sym (add_assoc last_at serials_last i)))
      ∙ from-below serial_end (is_zero_at l) (control_size - serial_end) control_size refl

  closed_at : (n : ℕ) → is_home_at l n ≡ true → is_zero_at l n ≡ home_ok_at true l n
  unfolding is_home_at is_zero_at home_ok_at
  closed_at n t =
      same_bool _ _ (imp-out _ _ (below_all 256 (λ b. not (eqb b (home_byte (home_in b))) || beq (eqb b 0) (not (leb open_bit b))) (get_or l n 0) test-closed (small n)) t)
      ∙ closed-home (byte (get_or l working_at 0)) (leb open_bit (get_or l n 0)) _

  pub open_by : (v w : ℕ) → all_from homes_at homes_end (is_home_at l) ≡ true → v ≡ of_bytes (λ i. get_or l (homes_at + i) 0) word_size → w ≡ of_bytes (λ i. get_or l (second_at + i) 0) word_size
      → (eqb v 0 && eqb w 0) ≡ all_from homes_at homes_end (home_ok_at true l)
  open_by v w t p q =
      ap₂ ◌&&◌ (zeros-at homes_at v p) (zeros-at second_at w q)
      ∙ sym (from-cover homes_at second_at first_end homes_end (is_zero_at l) (omega arith) (omega arith) (omega arith))
      ∙ from-ext homes_at homes_end (is_zero_at l) (home_ok_at true l) (λ n lo hi. closed_at n (from_all homes_at (is_home_at l) homes_end n t lo hi))
