-- What is asked of the bytes behind the tables, placement by placement: nothing is kept for one without a mark for a table, and what is kept for one
-- with the mark are its pairs. A placement that is not there has no mark. Assumes nothing.
use mathlib.Core.Path.{◌≡◌, refl, sym, ap, fun_ext, ◌∙◌}
use mathlib.Core.Logic.{◌⊎◌, inl, inr, ⊎_elim}
use mathlib.Core.Bool.{Bool, true, false, not, ◌&&◌, ◌||◌, cond}
use mathlib.Core.List.{List, [], ◌∷◌}
use Prim.Native.Nat.{ℕ, zero, suc, ◌+◌, ◌*◌, ◌/◌, ◌%◌, ◌^◌, ◌≤◌, ◌<◌}
use borrow.Rule.Slice.PartMut.{mid_of}
use native.Mathlib.Omega.{arith}
use lib.Bits.{bit_and}
use lib.Dec.{eqb, ltb}
use lib.ListN.{get_or, length}
use borrow.Author.Tests.{eq-eqb, eqb-true, le-ltb, ne_eqb}
use Rattle.lists.specs.Tests.{all_in, all_below}
use Rattle.lists.proofs.Bools.{and_in, and_l, and_r, imp-out, not_is, same_test, split, tf}
use Rattle.lists.proofs.Cases.{lt-or-ge}
use Rattle.lists.proofs.Counts.{all-below, at_pair, below_all, below-ext}
use Rattle.lists.proofs.Segments.{get_or-segment}
use Rattle.image.specs.Layout.{block_count, most_active, pairs_size, tail_size}
use Rattle.image.proofs.Parts.{length_part, part-is}
use Rattle.mask.specs.Masks.{Byte, byte}
use Rattle.mask.specs.Pairs.{Pairs, are_pairs_of, is_pair_of, pair_at, pairs_byte}
use Rattle.mask.specs.Placements.{Placement, pairs_ok}
use Rattle.mask.proofs.PairLaws.{pair_same}
use Rattle.control.specs.ControlBytes.{chosen_by, control_of, count_in, kept_of, mark_in, marks_at, masks_at, pairs_in, placement_at, placements_in}
use Rattle.control.specs.ControlBytes.{table_mark_in, tail_byte, tail_of}
use Rattle.control.specs.Meaning.{free_marks}
use Rattle.control.proofs.Active.{all-placements}
use Rattle.control.proofs.Fields.{shown-active}
use Rattle.control.proofs.Marks.{mark-is, table-bit}
use Rattle.control.proofs.Struct.{length-placements}
use Rattle.control.proofs.Tail.{each-kept, kept-chosen, kept_in, kept-none, pairs_of_lem, tail_at}
use Rattle.control_form.specs.ControlForm.{count_ok, front_ok, kept_ok, tables_ok, zero_fields_ok}
use Rattle.control_form.specs.Reading.{kept_ok_at, marks_ok}
use Rattle.control_form.proofs.ZeroFields.{count-few, count-some, marks-are}

-- ---- marks
-- A placement that is not there has no mark for a table.
free_ok : ℕ → ℕ → Bool
free_ok n m = not (marks_ok n m) || all_below most_active (λ i. ltb i n || not (table_mark_in m i))

test-free : all_below (suc most_active) (λ n. all_below 256 (free_ok n)) ≡ true
unfolding free_ok marks_ok free_marks
test-free = refl

no_table : (n m i : ℕ) → n ≤ most_active → m < 256 → marks_ok n m ≡ true → n ≤ i → i < most_active → table_mark_in m i ≡ false
unfolding free_ok
no_table n m i few small ok p h =
    let r : all_below most_active (λ i. ltb i n || not (table_mark_in m i)) ≡ true = imp-out (marks_ok n m) _ (at_pair free_ok (suc most_active) 256 test-free n (omega arith) m small) ok in
    not_is (table_mark_in m i) (rw (le-ltb i n p) at (below_all most_active (λ i. ltb i n || not (table_mark_in m i)) i r h))

-- Where the lower half of the byte is zero there is none at all.
none_ok : ℕ → Bool
none_ok m = not (eqb (m % 16) 0) || all_below most_active (λ i. not (table_mark_in m i))

test-none : all_below 256 none_ok ≡ true
unfolding none_ok
test-none = refl

pub none-by-table : (m i : ℕ) → m < 256 → m % 16 ≡ 0 → i < most_active → table_mark_in m i ≡ false
unfolding none_ok
none-by-table m i small e h = not_is (table_mark_in m i) (below_all most_active (λ i. not (table_mark_in m i)) i
    (imp-out (eqb (m % 16) 0) _ (below_all 256 none_ok m test-none small) (eq-eqb (m % 16) 0 e)) h)

-- The code's test of the mark.
pub table-set : (m i : ℕ) → m < 256 → i < most_active → (bit_and m (8 / 2 ^ i) ≡ 0 → ⊥) → table_mark_in m i ≡ true
table-set m i small h d = sym (mark-is m (most_active + i) small (omega arith)) ∙ ap (λ (b : ℕ). not (eqb (bit_and m b) 0)) (sym (table-bit i h)) ∙ ap not (ne_eqb (bit_and m (8 / 2 ^ i)) 0 d)

pub table-clear : (m i : ℕ) → m < 256 → i < most_active → bit_and m (8 / 2 ^ i) ≡ 0 → table_mark_in m i ≡ false
table-clear m i small h e = sym (mark-is m (most_active + i) small (omega arith)) ∙ ap (λ (b : ℕ). not (eqb (bit_and m b) 0)) (sym (table-bit i h)) ∙ ap not (eq-eqb (bit_and m (8 / 2 ^ i)) 0 e)

-- ---- bytes that the code was lent: of the bytes behind the tables the pairs of placement i, or n bytes that must be zero
part_at : (l : List ℕ) (a k n j : ℕ) → k ≡ n → j < n → get_or (mid_of a k l) j 0 ≡ get_or l (a + j) 0
part_at l a k n j e h = ap (λ (p : List ℕ). get_or p j 0) (part-is a k l n e) ∙ get_or-segment l a n j h

pub part-pairs : (l : List ℕ) (i k : ℕ) (m : Byte) → k ≡ pairs_size
    → all_below block_count (λ b. is_pair_of m (pair_at (λ j. get_or (mid_of (i * pairs_size) k l) j 0) b)) ≡ are_pairs_of m (pairs_in (λ n. get_or l n 0) i)
unfolding are_pairs_of
part-pairs l i k m e =
    below-ext block_count (λ b. is_pair_of m (pair_at lent b)) (λ b. is_pair_of m (pair_at (pairs_byte (pairs_in (λ n. get_or l n 0) i)) b))
    (λ b h. ap (is_pair_of m) (pair_same lent (pairs_byte (pairs_in (λ n. get_or l n 0) i))
    (λ j p. part_at l (i * pairs_size) k pairs_size j e p ∙ sym (pairs_of_lem (λ j. get_or l (i * pairs_size + j) 0) j p)) b h))
  where
    lent : ℕ → ℕ
    lent j = get_or (mid_of (i * pairs_size) k l) j 0

pub part-zero : (l : List ℕ) (a k n : ℕ) → k ≡ n → a + n ≤ length l
    → all_below (length (mid_of a k l)) (λ j. eqb (get_or (mid_of a k l) j 0) 0) ≡ all_below n (λ j. eqb (get_or l (a + j) 0) 0)
part-zero l a k n e h = ap (λ (x : ℕ). all_below x (λ j. eqb (get_or (mid_of a k l) j 0) 0)) (length_part a k l n e h)
    ∙ below-ext n (λ j. eqb (get_or (mid_of a k l) j 0) 0) (λ j. eqb (get_or l (a + j) 0) 0) (λ j p. ap (λ (x : ℕ). eqb x 0) (part_at l a k n j e p))

-- A part up to the end has the bytes from there on, and nothing lies behind either.
pub past_end : (l : List ℕ) (n : ℕ) → length l ≤ n → get_or l n 0 ≡ 0
past_end [] n h = refl
past_end (x ∷ l) zero h = absurd (omega arith)
past_end (x ∷ l) (suc n) h = past_end l n (omega arith)

pub part_end : (l : List ℕ) (a k n : ℕ) → k ≡ n → length l ≡ a + n → ◌≡◌ {A = ℕ → ℕ} (λ j. get_or (mid_of a k l) j 0) (λ j. get_or l (a + j) 0)
part_end l a k n e long = fun_ext (λ j. ⊎_elim (part_at l a k n j e)
    (λ (p : n ≤ j). past_end (mid_of a k l) j (omega (arith, length_part a k l n e (omega (arith, long)))) ∙ sym (past_end l (a + j) (omega (arith, long)))) (lt-or-ge j n))

-- ---- one placement
module _ (l : List ℕ) (t : ℕ → ℕ) (i : ℕ) where
  abbrev table : Bool
  table = table_mark_in (get_or l marks_at 0) i

  abbrev zero_kept : ℕ → Bool
  zero_kept j = eqb (t (i * pairs_size + j)) 0

  abbrev pairs_kept : Bool
  pairs_kept = are_pairs_of (byte (get_or l (masks_at + i) 0)) (pairs_in t i)

  pub kept_table : table ≡ true → kept_ok_at l t i ≡ pairs_kept
  unfolding kept_ok_at
  kept_table e = rw e

  pub kept-bare : table ≡ false → kept_ok_at l t i ≡ all_below pairs_size zero_kept
  unfolding kept_ok_at
  kept-bare e = rw e

-- ---- all placements
module _ (l : List ℕ) (t : ℕ → ℕ) (some : 1 ≤ count_in (get_or l 0 0)) (few : count_in (get_or l 0 0) ≤ most_active) (clean : marks_ok (count_in (get_or l 0 0)) (get_or l marks_at 0) ≡ true)
    (bytes : (n : ℕ) → get_or l n 0 < 256) where
  abbrev g : ℕ → ℕ
  g n = get_or l n 0

  abbrev n : ℕ
  n = count_in (g 0)

  abbrev at : ℕ → Placement
  at = placement_at g t

  -- byte j of what is written for placement i: of its pairs where it has a table
  kept_byte_lem : (i j : ℕ) → i < most_active → j < pairs_size → tail_byte (control_of g t) (i * pairs_size + j) ≡ cond (table_mark_in (g marks_at) i) (t (i * pairs_size + j)) 0
  kept_byte_lem i j hi hj = ap (λ (p : List Placement). tail_of p (i * pairs_size + j)) (shown-active g t some) ∙ tail_at (placements_in at n) i j hj
      ∙ ⊎_elim there past (lt-or-ge i n)
    where
      there : i < n → kept_of (placements_in at n) i j ≡ cond (table_mark_in (g marks_at) i) (t (i * pairs_size + j)) 0
      there p = kept_in at n i j p ∙ kept-chosen (table_mark_in (g marks_at) i) (mark_in (g marks_at) i) (pairs_in t i) j
          ∙ ap (λ (x : ℕ). cond (table_mark_in (g marks_at) i) x 0) (pairs_of_lem (λ j. t (i * pairs_size + j)) j hj)

      past : n ≤ i → kept_of (placements_in at n) i j ≡ cond (table_mark_in (g marks_at) i) (t (i * pairs_size + j)) 0
      past p = kept-none (placements_in at n) i j (rw (length-placements at n) p) ∙ sym (rw (no_table n (g marks_at) i few (bytes marks_at) clean p hi))

  -- the pairs of placement i, where it has a table
  abbrev pairs_fit : ℕ → Bool
  pairs_fit i = pairs_ok (at i).mask (at i).choice

  tables-are : tables_ok (control_of g t) ≡ all_below n pairs_fit
  unfolding tables_ok
  tables-are = ap (all_in (λ (p : Placement). pairs_ok p.mask p.choice)) (shown-active g t some) ∙ all-placements (λ p. pairs_ok p.mask p.choice) at n

  fit-chosen : (m : Byte) (b r : Bool) (x : Pairs) → pairs_ok m (chosen_by b r x) ≡ cond b (are_pairs_of m x) true
  fit-chosen m true r x = refl
  fit-chosen m false true x = refl
  fit-chosen m false false x = refl

  fits : (i : ℕ) → pairs_fit i ≡ cond (table_mark_in (g marks_at) i) (pairs_kept l t i) true
  fits i = fit-chosen (byte (g (masks_at + i))) (table_mark_in (g marks_at) i) (mark_in (g marks_at) i) (pairs_in t i)

  taken : (b : Bool) {x : Bool} → b ≡ true → cond b x true ≡ true → x ≡ true
  taken true e h = h
  taken false e h = tf false e refl

  one : kept_ok (control_of g t) t ≡ true → tables_ok (control_of g t) ≡ true → (i : ℕ) → i < most_active → kept_ok_at l t i ≡ true
  unfolding kept_ok
  one kept tables i h = go (split (table_mark_in (g marks_at) i))
    where
      go : (table_mark_in (g marks_at) i ≡ true) ⊎ (table_mark_in (g marks_at) i ≡ false) → kept_ok_at l t i ≡ true
      go (inl e) = kept_table l t i e ∙ ⊎_elim
          (λ (p : i < n). taken (table_mark_in (g marks_at) i) e (sym (fits i) ∙ below_all n pairs_fit i (sym tables-are ∙ tables) p))
          (λ (p : n ≤ i). tf (table_mark_in (g marks_at) i) e (no_table n (g marks_at) i few (bytes marks_at) clean p h))
          (lt-or-ge i n)
      go (inr e) = kept-bare l t i e ∙ all-below pairs_size (zero_kept l t i) (λ j b. eq-eqb (t (i * pairs_size + j)) 0
          (eqb-true (t (i * pairs_size + j)) (tail_byte (control_of g t) (i * pairs_size + j))
          (below_all tail_size (λ n. eqb (t n) (tail_byte (control_of g t) n)) (i * pairs_size + j) kept (omega arith))
          ∙ kept_byte_lem i j h b ∙ rw e))

  all-kept : ((i : ℕ) → i < most_active → kept_ok_at l t i ≡ true) → kept_ok (control_of g t) t ≡ true
  unfolding kept_ok
  all-kept each = all-below tail_size (λ n. eqb (t n) (tail_byte (control_of g t) n))
      (each-kept (λ n. eqb (t n) (tail_byte (control_of g t) n) ≡ true) (λ i j hi hj. eq-eqb (t (i * pairs_size + j)) (tail_byte (control_of g t) (i * pairs_size + j))
      (go i j hi hj (split (table_mark_in (g marks_at) i)) ∙ sym (kept_byte_lem i j hi hj))))
    where
      go : (i j : ℕ) → i < most_active → j < pairs_size → (table_mark_in (g marks_at) i ≡ true) ⊎ (table_mark_in (g marks_at) i ≡ false)
          → t (i * pairs_size + j) ≡ cond (table_mark_in (g marks_at) i) (t (i * pairs_size + j)) 0
      go i j hi hj (inl e) = rw e
      go i j hi hj (inr e) = eqb-true (t (i * pairs_size + j)) 0 (below_all pairs_size (zero_kept l t i) j (sym (kept-bare l t i e) ∙ each i hi) hj) ∙ sym (rw e)

  all-tables : ((i : ℕ) → i < most_active → kept_ok_at l t i ≡ true) → tables_ok (control_of g t) ≡ true
  all-tables each = tables-are ∙ all-below n pairs_fit (λ i p. fits i ∙ go i (omega (arith, few)) (split (table_mark_in (g marks_at) i)))
    where
      go : (i : ℕ) → i < most_active → (table_mark_in (g marks_at) i ≡ true) ⊎ (table_mark_in (g marks_at) i ≡ false) → cond (table_mark_in (g marks_at) i) (pairs_kept l t i) true ≡ true
      go i h (inl e) = rw e (sym (kept_table l t i e) ∙ each i h)
      go i h (inr e) = rw e

  -- THE LAW
  behind-by : (kept_ok (control_of g t) t && tables_ok (control_of g t)) ≡ all_below most_active (kept_ok_at l t)
  behind-by = same_test (kept_ok (control_of g t) t && tables_ok (control_of g t)) (all_below most_active (kept_ok_at l t))
      (λ e. all-below most_active (kept_ok_at l t) (one (and_l (kept_ok (control_of g t) t) _ e) (and_r (kept_ok (control_of g t) t) _ e)))
      (λ e. and_in (kept_ok (control_of g t) t) (tables_ok (control_of g t)) (all-kept (λ i h. below_all most_active (kept_ok_at l t) i e h))
      (all-tables (λ i h. below_all most_active (kept_ok_at l t) i e h)))

pub behind-front : (l : List ℕ) (t : ℕ → ℕ) → ((n : ℕ) → get_or l n 0 < 256) → front_ok (control_of (λ n. get_or l n 0) t) (λ n. get_or l n 0) ≡ true
    → (kept_ok (control_of (λ n. get_or l n 0) t) t && tables_ok (control_of (λ n. get_or l n 0) t)) ≡ all_below most_active (kept_ok_at l t)
unfolding front_ok
behind-front l t bytes f =
    let count : count_ok (λ n. get_or l n 0) ≡ true = and_l (count_ok (λ n. get_or l n 0)) _ f in
    let zeros = and_l (zero_fields_ok (control_of (λ n. get_or l n 0) t) (λ n. get_or l n 0)) _ (and_r (count_ok (λ n. get_or l n 0)) _ f) in
    behind-by l t (count-some l count) (count-few l count) (marks-are l t count bytes zeros) bytes

-- Where no placement has a mark for a table, all bytes behind the tables are zero.
pub none_kept : (l : List ℕ) (t : ℕ → ℕ) → get_or l marks_at 0 < 256 → get_or l marks_at 0 % 16 ≡ 0 → all_below most_active (kept_ok_at l t) ≡ all_below tail_size (λ n. eqb (t n) 0)
none_kept l t small e = same_test (all_below most_active (kept_ok_at l t)) (all_below tail_size (λ n. eqb (t n) 0))
    (λ a. all-below tail_size (λ n. eqb (t n) 0) (each-kept (λ n. eqb (t n) 0 ≡ true) (λ i j hi hj.
    below_all pairs_size (zero_kept l t i) j (sym (kept-bare l t i (bare i hi)) ∙ below_all most_active (kept_ok_at l t) i a hi) hj)))
    (λ a. all-below most_active (kept_ok_at l t) (λ i hi. kept-bare l t i (bare i hi) ∙ all-below pairs_size (zero_kept l t i) (λ j hj.
    below_all tail_size (λ n. eqb (t n) 0) (i * pairs_size + j) a (omega arith))))
  where
    bare : (i : ℕ) → i < most_active → table_mark_in (get_or l marks_at 0) i ≡ false
    bare i h = none-by-table (get_or l marks_at 0) i small e h
