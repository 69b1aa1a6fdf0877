-- Zero fields are zero: field by field, the bytes that can differ from those of the control part that they show. Assumes nothing.
use mathlib.Core.Path.{◌≡◌, refl, sym, ap, fun_ext, subst, ◌∙◌}
use mathlib.Core.Logic.{⊎_elim}
use mathlib.Core.Bool.{Bool, true, false, ◌&&◌}
use mathlib.Core.List.{List}
use Prim.Native.Nat.{ℕ, ◌+◌, ◌-◌, ◌*◌, ◌%◌, ◌≤◌, ◌<◌}
use native.Mathlib.Omega.{arith}
use lib.Dec.{eqb}
use lib.ListN.{get_or}
use borrow.Author.Tests.{eq-eqb, le-leb, lt-leb}
use Rattle.lists.specs.Tests.{all_below}
use Rattle.lists.proofs.Bools.{tf, and_in, same_test}
use Rattle.lists.proofs.Cases.{lt-or-ge}
use Rattle.lists.proofs.Counts.{all-below, below_all, eqb_same}
use Rattle.image.specs.Layout.{control_size, most_active, tran_count}
use Rattle.control.specs.ControlBytes.{Part, control_byte, control_of, count_in, failed_at, field, first_byte, home_byte, home_in}
use Rattle.control.specs.ControlBytes.{homes_at, homes_end, marks_at, masks_at, serial_at, serial_end, serial_size, stopped_bit, stopped_in, working_at}
use Rattle.control_form.specs.ControlForm.{count_ok, zero_fields_ok}
use Rattle.control.specs.Meaning.{struct_of, meaning, Counted}
use Rattle.control_form.specs.Reading.{all_from, is_zero_at, is_home_at, marks_ok}
use Rattle.control_form.proofs.Checks.{count-counted, means_is}
use Rattle.control_form.proofs.Ranges.{all-from, from_all, from_each}
use Rattle.control.proofs.Front.{front-byte}
use Rattle.control.proofs.Marks.{marks-clean}
use Rattle.control.proofs.Struct.{at_row, byte-first, byte_mask, byte-unused, byte-working, byte-failed, byte-marks}
use Rattle.control.proofs.Struct.{byte-home, byte-rest, byte-serial}
use Rattle.control.proofs.Fields.{each-field}
use Rattle.control.proofs.SerialLaws.{serial-byte-back}

-- ---- each byte, with the struct that was read off all
unfoldable byte_test : List ℕ → ℕ → Bool
byte_test l n = eqb (get_or l n 0) (control_byte (meaning (struct_of l)) n)

zeros-are : (l : List ℕ) (t : ℕ → ℕ) → Counted (struct_of l) → zero_fields_ok (control_of (λ n. get_or l n 0) t) (λ n. get_or l n 0) ≡ all_below control_size (byte_test l)
unfolding zero_fields_ok byte_test
zeros-are l t w = ap (λ (f : ℕ → ℕ). all_below control_size (λ n. eqb (get_or l n 0) (f n)))
    (fun_ext (λ n. sym (front-byte (control_of (λ n. get_or l n 0) t) n) ∙ ap (λ (k : Part). control_byte k n) (sym (means_is l (struct_of l) refl t w))))

-- The first byte is its highest bit and the three bits behind it where its low four bits are zero.
first_by : (b : ℕ) → b < 256 → eqb b (first_byte (stopped_in b) (count_in b)) ≡ eqb (b % field) 0
first_by b h = ⊎_elim low high (lt-or-ge b stopped_bit)
  where
    low : b < stopped_bit → eqb b (first_byte (stopped_in b) (count_in b)) ≡ eqb (b % field) 0
    low p = rw (lt-leb stopped_bit b p) (eqb_same b (0 + count_in b * field) (b % field) 0 (λ e. omega arith) (λ e. omega arith))

    high : stopped_bit ≤ b → eqb b (first_byte (stopped_in b) (count_in b)) ≡ eqb (b % field) 0
    high p = rw (le-leb stopped_bit b p) (eqb_same b (stopped_bit + count_in b * field) (b % field) 0 (λ e. omega arith) (λ e. omega arith))

-- The parts that the code tests, in its order.
abbrev pub parts : List ℕ → Bool
parts l = eqb (get_or l 0 0 % field) 0
    && (all_from (masks_at + count_in (get_or l 0 0)) working_at (is_zero_at l)
    && (marks_ok (count_in (get_or l 0 0)) (get_or l marks_at 0)
    && (all_from homes_at homes_end (is_home_at l)
    && all_from serial_end control_size (is_zero_at l))))

-- Five tests that hold together, each.
five : (a b c d e : Bool) → (a && (b && (c && (d && e)))) ≡ true → (a ≡ true) × (b ≡ true) × (c ≡ true) × (d ≡ true) × (e ≡ true)
five true true true true e h = (refl, refl, refl, refl, h)
five true true true false e h = tf false h refl
five true true false d e h = tf false h refl
five true false c d e h = tf false h refl
five false b c d e h = tf false h refl

module _ (l : List ℕ) (w : Counted (struct_of l)) (bytes : (n : ℕ) → get_or l n 0 < 256) where
  abbrev n : ℕ
  n = count_in (get_or l 0 0)

  -- each field's bytes
  test-first : byte_test l 0 ≡ eqb (get_or l 0 0 % field) 0
  unfolding byte_test struct_of
  test-first = ap (eqb (get_or l 0 0)) (sym (byte-first (struct_of l) w)) ∙ first_by (get_or l 0 0) (bytes 0)

  test-mask : (i : ℕ) → i < most_active → i < n → byte_test l (masks_at + i) ≡ true
  unfolding byte_test struct_of
  test-mask i h p =
      let r = at_row l most_active masks_at i h in
      eq-eqb (get_or l (masks_at + i) 0) (control_byte (meaning (struct_of l)) (masks_at + i)) (sym r ∙ byte_mask (struct_of l) w i h p (rw r (bytes (masks_at + i))))

  test-unused : (i : ℕ) → i < most_active → n ≤ i → byte_test l (masks_at + i) ≡ is_zero_at l (masks_at + i)
  unfolding byte_test struct_of is_zero_at
  test-unused i h p = ap (eqb (get_or l (masks_at + i) 0)) (sym (byte-unused (struct_of l) w i h p))

  test-working : byte_test l working_at ≡ true
  unfolding byte_test struct_of
  test-working = eq-eqb _ _ (byte-working (struct_of l) w (bytes working_at))

  test-failed : byte_test l failed_at ≡ true
  unfolding byte_test struct_of
  test-failed = eq-eqb _ _ (byte-failed (struct_of l) w (bytes failed_at))

  test-marks : byte_test l marks_at ≡ marks_ok n (get_or l marks_at 0)
  unfolding byte_test struct_of marks_ok
  test-marks = ap (eqb (get_or l marks_at 0)) (sym (byte-marks (struct_of l) w (bytes marks_at))) ∙ marks-clean n (get_or l marks_at 0) w.few (bytes marks_at)

  test-home : (i : ℕ) → i < tran_count → byte_test l (homes_at + i) ≡ is_home_at l (homes_at + i)
  unfolding byte_test struct_of is_home_at
  test-home i h = ap (eqb (get_or l (homes_at + i) 0))
      (sym (byte-home (struct_of l) w i h) ∙ ap (λ (b : ℕ). home_byte (home_in b)) (at_row l tran_count homes_at i h))

  test-serial : (i : ℕ) → i < serial_size → byte_test l (serial_at + i) ≡ true
  unfolding byte_test struct_of
  test-serial i h = eq-eqb (get_or l (serial_at + i) 0) (control_byte (meaning (struct_of l)) (serial_at + i))
      (sym (serial-byte-back (λ j. get_or l (serial_at + j) 0) (λ j. bytes (serial_at + j)) i h) ∙ byte-serial (struct_of l) w i h)

  test-rest : (m : ℕ) → serial_end ≤ m → byte_test l m ≡ is_zero_at l m
  unfolding byte_test is_zero_at
  test-rest m h = ap (eqb (get_or l m 0)) (sym (byte-rest (struct_of l) w m h))

  -- the masks from the count on: mask n + i
  few : n ≤ most_active
  few = unfold struct_of in w.few

  unused-at : (i : ℕ) → i < most_active - n → byte_test l (masks_at + n + i) ≡ is_zero_at l (masks_at + n + i)
  unused-at i h = let e : masks_at + (n + i) ≡ masks_at + n + i = omega arith in
      subst (λ (m : ℕ). byte_test l m ≡ is_zero_at l m) e (test-unused (n + i) (omega (arith, few)) (omega arith))

  every-part : ((m : ℕ) → m < control_size → byte_test l m ≡ true) → parts l ≡ true
  every-part h =
      and_in _ _ (sym test-first ∙ h 0 (omega arith))
      (and_in _ _ (from_each (masks_at + n) (is_zero_at l) (most_active - n) working_at (omega (arith, few)) (λ i b. sym (unused-at i b) ∙ h _ (omega (arith, few))))
      (and_in _ _ (sym test-marks ∙ h marks_at (omega arith))
      (and_in _ _ (from_each homes_at (is_home_at l) tran_count homes_end refl (λ i b. sym (test-home i b) ∙ h _ (omega arith)))
      (all-from serial_end (is_zero_at l) control_size (λ m p q. sym (test-rest m p) ∙ h m q)))))

  every_byte : parts l ≡ true → (m : ℕ) → m < control_size → byte_test l m ≡ true
  every_byte t = each-field (λ m. m < control_size → byte_test l m ≡ true)
      (λ b. test-first ∙ r.0) mask (λ b. test-working) (λ b. test-failed) (λ b. test-marks ∙ r.2)
      (λ i h b. test-home i h ∙ from_all homes_at (is_home_at l) homes_end (homes_at + i) r.3 (omega arith) (omega arith))
      (λ i h b. test-serial i h)
      (λ m h b. test-rest m h ∙ from_all serial_end (is_zero_at l) control_size m r.4 h b)
    where
      r : (eqb (get_or l 0 0 % field) 0 ≡ true) × (all_from (masks_at + n) working_at (is_zero_at l) ≡ true) × (marks_ok n (get_or l marks_at 0) ≡ true)
          × (all_from homes_at homes_end (is_home_at l) ≡ true) × (all_from serial_end control_size (is_zero_at l) ≡ true)
      r = five _ _ _ _ _ t

      mask : (i : ℕ) → i < most_active → masks_at + i < control_size → byte_test l (masks_at + i) ≡ true
      mask i h b = ⊎_elim (test-mask i h)
          (λ (p : n ≤ i). test-unused i h p ∙ from_all (masks_at + n) (is_zero_at l) working_at (masks_at + i) r.1 (omega arith) (omega arith)) (lt-or-ge i n)

pub count-few : (l : List ℕ) → count_ok (λ n. get_or l n 0) ≡ true → count_in (get_or l 0 0) ≤ most_active
unfolding struct_of
count-few l c = (count-counted l (struct_of l) refl c).few

pub count-some : (l : List ℕ) → count_ok (λ n. get_or l n 0) ≡ true → 1 ≤ count_in (get_or l 0 0)
unfolding struct_of
count-some l c = (count-counted l (struct_of l) refl c).some

-- The whole clause by these parts.
pub zero-fields-by : (l : List ℕ) (t : ℕ → ℕ) → count_ok (λ n. get_or l n 0) ≡ true → ((n : ℕ) → get_or l n 0 < 256)
    → zero_fields_ok (control_of (λ n. get_or l n 0) t) (λ n. get_or l n 0) ≡ parts l
zero-fields-by l t c bytes = zeros-are l t w ∙ same_test (all_below control_size (byte_test l)) (parts l)
    (λ t. every-part l w bytes (λ n b. below_all control_size (byte_test l) n t b))
    (λ t. all-below control_size (byte_test l) (every_byte l w bytes t))
  where
    w : Counted (struct_of l)
    w = count-counted l (struct_of l) refl c

-- So the marks are clean.
pub marks-are : (l : List ℕ) (t : ℕ → ℕ) → count_ok (λ n. get_or l n 0) ≡ true → ((n : ℕ) → get_or l n 0 < 256)
    → zero_fields_ok (control_of (λ n. get_or l n 0) t) (λ n. get_or l n 0) ≡ true → marks_ok (count_in (get_or l 0 0)) (get_or l marks_at 0) ≡ true
marks-are l t c bytes z = (five (eqb (get_or l 0 0 % field) 0) (all_from (masks_at + count_in (get_or l 0 0)) working_at (is_zero_at l)) (marks_ok (count_in (get_or l 0 0)) (get_or l marks_at 0))
    (all_from homes_at homes_end (is_home_at l)) (all_from serial_end control_size (is_zero_at l)) (sym (zero-fields-by l t c bytes) ∙ z)).2
