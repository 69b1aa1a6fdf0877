-- The byte of the marks: what is written of them and what is read. The two marks of a placement are its kind, a number below three; facts of one byte
-- and of four kinds are computed, all cases. Assumes nothing.
use mathlib.Core.Path.{◌≡◌, refl, sym, ap, ◌∙◌}
use mathlib.Core.Bool.{Bool, true, false, not, ◌&&◌, cond, beq}
use mathlib.Core.List.{List, [], ◌∷◌}
use mathlib.Core.Logic.{⊎_elim}
use Prim.Native.Nat.{ℕ, zero, suc, ◌+◌, ◌*◌, ◌/◌, ◌%◌, ◌^◌, ◌≤◌, ◌<◌}
use native.Mathlib.Omega.{arith}
use lib.Bits.{bit_and, bit_or}
use lib.Dec.{eqb, ltb}
use lib.ListN.{get_or, length}
use borrow.Author.Tests.{eqb-true, le-ltb, lt-ltb, ltb-true}
use Rattle.lists.specs.Tests.{all_below}
use Rattle.lists.proofs.Bools.{and_l, and_r, same_bool}
use Rattle.lists.proofs.Cases.{lt-or-ge}
use Rattle.lists.proofs.Counts.{at_pair, below_all}
use Rattle.image.specs.Layout.{card_count, most_active}
use Rattle.mask.specs.Masks.{bit_of}
use Rattle.mask.specs.Pairs.{Pairs, no_pairs}
use Rattle.mask.specs.Placements.{Choice, Placement, by_rails, by_table, chained, is_by_rails, is_by_table, pairless_choice}
use Rattle.mask.proofs.Masks.{has-byte}
use Rattle.mask.proofs.Sets.{bit_is_lem}
use Rattle.control.specs.ControlBytes.{chosen_by, mark_in, marks_from, placements_in, table_mark_in}
use Rattle.control.specs.Meaning.{clean_marks, free_marks}

-- ---- one mark
-- The code's test of a bit.
pub mark-is : (n i : ℕ) → n < 256 → i < card_count → not (eqb (bit_and n (bit_of i)) 0) ≡ mark_in n i
mark-is n i h b = bit_is_lem n i h b ∙ has-byte n i h ∙ ap (λ (x : Bool). x && mark_in n i) (lt-ltb i card_count b)

-- The code's bit of a mark for a table, and its marks of placements that are not there.
test-bits : all_below most_active (λ i. eqb (8 / 2 ^ i) (bit_of (most_active + i))) ≡ true
test-bits = refl

pub table-bit : (i : ℕ) → i < most_active → 8 / 2 ^ i ≡ bit_of (most_active + i)
table-bit i h = eqb-true _ _ (below_all most_active (λ i. eqb (8 / 2 ^ i) (bit_of (most_active + i))) i test-bits h)

test-free : all_below (suc most_active) (λ n. ltb (15 / 2 ^ n * 17) 256) ≡ true
test-free = refl

pub free-small : (n : ℕ) → n ≤ most_active → 15 / 2 ^ n * 17 < 256
free-small n h = ltb-true _ _ (below_all (suc most_active) (λ n. ltb (15 / 2 ^ n * 17) 256) n test-free (omega arith))

-- ---- kinds
-- Both marks of a placement, as one number; that of a choice; the marks of a kind, as number i.
abbrev pub kind : Bool → Bool → ℕ
kind table rails = cond table 2 (cond rails 1 0)

abbrev kind_of : Choice → ℕ
kind_of c = kind (is_by_table c) (is_by_rails c)

abbrev pub kind_in : ℕ → ℕ → ℕ
kind_in m i = kind (table_mark_in m i) (mark_in m i)

abbrev kind_marks : ℕ → ℕ → ℕ
kind_marks i k = cond (eqb k 1) (bit_of i) 0 + cond (eqb k 2) (bit_of (most_active + i)) 0

kind-few : (c : Choice) → kind_of c < 3
kind-few chained = omega arith
kind-few by_rails = omega arith
kind-few (by_table x) = omega arith

-- The choice that marks stand for has their kind, is the same for marks of one kind, and is told without its pairs too.
kind-chosen : (table rails : Bool) (x : Pairs) → kind_of (chosen_by table rails x) ≡ kind table rails
kind-chosen true rails x = refl
kind-chosen false true x = refl
kind-chosen false false x = refl

pub chosen-same : (t r u s : Bool) (x : Pairs) → kind t r ≡ kind u s → chosen_by t r x ≡ chosen_by u s x
chosen-same true r true s x e = refl
chosen-same false true false true x e = refl
chosen-same false false false false x e = refl
chosen-same true r false true x e = absurd (omega (arith, e))
chosen-same true r false false x e = absurd (omega (arith, e))
chosen-same false true true s x e = absurd (omega (arith, e))
chosen-same false false true s x e = absurd (omega (arith, e))
chosen-same false true false false x e = absurd (omega (arith, e))
chosen-same false false false true x e = absurd (omega (arith, e))

-- So of the marks in a byte.
pub marked-is : (m i : ℕ) (t r : Bool) (x : Pairs) → kind_in m i ≡ kind t r → chosen_by (table_mark_in m i) (mark_in m i) x ≡ chosen_by t r x
marked-is m i t r x e = chosen-same (table_mark_in m i) (mark_in m i) t r x e

pub marked-same : (m n i : ℕ) (x : Pairs) → kind_in m i ≡ kind_in n i → chosen_by (table_mark_in m i) (mark_in m i) x ≡ chosen_by (table_mark_in n i) (mark_in n i) x
marked-same m n i x e = chosen-same (table_mark_in m i) (mark_in m i) (table_mark_in n i) (mark_in n i) x e

pub chosen-pairless : (table rails : Bool) (x : Pairs) → pairless_choice (chosen_by table rails x) ≡ chosen_by table rails no_pairs
chosen-pairless true rails x = refl
chosen-pairless false true x = refl
chosen-pairless false false x = refl

pub chosen-rails : (table rails : Bool) (x : Pairs) → is_by_rails (chosen_by table rails x) ≡ cond table false rails
chosen-rails true rails x = refl
chosen-rails false true x = refl
chosen-rails false false x = refl

-- ---- the marks of a list of placements, by their kinds
marks-more : (i : ℕ) (p : Placement) (l : List Placement) → marks_from i (p ∷ l) ≡ kind_marks i (kind_of p.choice) + marks_from (suc i) l
marks-more i p l = go p.choice
  where
    go : (c : Choice) → cond (is_by_rails c) (bit_of i) 0 + (cond (is_by_table c) (bit_of (most_active + i)) 0 + marks_from (suc i) l) ≡ kind_marks i (kind_of c) + marks_from (suc i) l
    go chained = omega arith
    go by_rails = omega arith
    go (by_table x) = omega arith

abbrev four_marks : ℕ → ℕ → ℕ → ℕ → ℕ
four_marks a b c d = kind_marks 0 a + (kind_marks 1 b + (kind_marks 2 c + (kind_marks 3 d + 0)))

-- The kind of placement i of a list; none where there is no such.
abbrev kind_at : List Placement → ℕ → ℕ
kind_at [] i = 0
kind_at (p ∷ l) zero = kind_of p.choice
kind_at (p ∷ l) (suc i) = kind_at l i

marks-are : (l : List Placement) → length l ≤ most_active → marks_from 0 l ≡ four_marks (kind_at l 0) (kind_at l 1) (kind_at l 2) (kind_at l 3)
marks-are [] few = refl
marks-are (x ∷ []) few = marks-more 0 x []
marks-are (x ∷ y ∷ []) few = marks-more 0 x (y ∷ []) ∙ ap (λ (n : ℕ). kind_marks 0 (kind_of x.choice) + n) (marks-more 1 y [])
marks-are (x ∷ y ∷ z ∷ []) few = marks-more 0 x (y ∷ z ∷ []) ∙ ap (λ (n : ℕ). kind_marks 0 (kind_of x.choice) + n) (marks-more 1 y (z ∷ [])
    ∙ ap (λ (n : ℕ). kind_marks 1 (kind_of y.choice) + n) (marks-more 2 z []))
marks-are (x ∷ y ∷ z ∷ w ∷ []) few = marks-more 0 x (y ∷ z ∷ w ∷ []) ∙ ap (λ (n : ℕ). kind_marks 0 (kind_of x.choice) + n) (marks-more 1 y (z ∷ w ∷ [])
    ∙ ap (λ (n : ℕ). kind_marks 1 (kind_of y.choice) + n) (marks-more 2 z (w ∷ []) ∙ ap (λ (n : ℕ). kind_marks 2 (kind_of z.choice) + n) (marks-more 3 w [])))
marks-are (x ∷ y ∷ z ∷ w ∷ v ∷ l) few = absurd (omega arith)

kind-at-few : (l : List Placement) (i : ℕ) → kind_at l i < 3
kind-at-few [] i = omega arith
kind-at-few (p ∷ l) zero = kind-few p.choice
kind-at-few (p ∷ l) (suc i) = kind-at-few l i

-- ---- the marks of the first n placements that a byte shows
-- The kinds that it shows, none from n on.
abbrev kind_below : ℕ → ℕ → ℕ → ℕ
kind_below n m i = cond (ltb i n) (kind_in m i) 0

marks_kept : ℕ → ℕ → Bool
marks_kept n m = eqb (clean_marks n m) (four_marks (kind_below n m 0) (kind_below n m 1) (kind_below n m 2) (kind_below n m 3))

test-kept : all_below (suc most_active) (λ n. all_below 256 (marks_kept n)) ≡ true
unfolding marks_kept clean_marks free_marks
test-kept = refl

kind-in : (f : ℕ → Placement) (n i : ℕ) → i < n → kind_at (placements_in f n) i ≡ kind_of (f i).choice
kind-in f zero i h = absurd (omega arith)
kind-in f (suc n) zero h = refl
kind-in f (suc n) (suc i) h = kind-in (λ i. f (suc i)) n i (omega arith)

kind-out : (f : ℕ → Placement) (n i : ℕ) → n ≤ i → kind_at (placements_in f n) i ≡ 0
kind-out f zero i h = refl
kind-out f (suc n) zero h = absurd (omega arith)
kind-out f (suc n) (suc i) h = kind-out (λ i. f (suc i)) n i (omega arith)

length-in : (f : ℕ → Placement) (n : ℕ) → length (placements_in f n) ≡ n
length-in f zero = refl
length-in f (suc n) = ap suc (length-in (λ i. f (suc i)) n)

-- Placements of the kinds that the byte shows are marked by the byte, cleaned.
pub marks-kept : (f : ℕ → Placement) (n m : ℕ) → ((i : ℕ) → i < n → kind_of (f i).choice ≡ kind_in m i) → n ≤ most_active → m < 256
    → clean_marks n m ≡ marks_from 0 (placements_in f n)
unfolding marks_kept
marks-kept f n m same few h = eqb-true _ _ (at_pair marks_kept (suc most_active) 256 test-kept n (omega arith) m h)
    ∙ sym (marks-are (placements_in f n) (omega (arith, length-in f n))
    ∙ λ i. four_marks (shown 0 i) (shown 1 i) (shown 2 i) (shown 3 i))
  where
    shown : (i : ℕ) → kind_at (placements_in f n) i ≡ kind_below n m i
    shown i = ⊎_elim
        (λ (p : i < n). kind-in f n i p ∙ same i p ∙ sym (rw (lt-ltb i n p)))
        (λ (p : n ≤ i). kind-out f n i p ∙ sym (rw (le-ltb i n p)))
        (lt-or-ge i n)

-- The kind of a choice that was read off the byte.
pub kind-kept : (m i : ℕ) (x : Pairs) → kind_of (chosen_by (table_mark_in m i) (mark_in m i) x) ≡ kind_in m i
kind-kept m i x = kind-chosen (table_mark_in m i) (mark_in m i) x

-- The byte is clean exactly where no placement that is not there has a mark and none has both.
marks_clean : ℕ → ℕ → Bool
marks_clean n m = beq (eqb m (clean_marks n m)) (eqb (bit_and m (free_marks n)) 0 && eqb (bit_and (m / 16) (m % 16)) 0)

test-clean : all_below (suc most_active) (λ n. all_below 256 (marks_clean n)) ≡ true
unfolding marks_clean clean_marks free_marks
test-clean = refl

pub marks-clean : (n m : ℕ) → n ≤ most_active → m < 256 → eqb m (clean_marks n m) ≡ (eqb (bit_and m (free_marks n)) 0 && eqb (bit_and (m / 16) (m % 16)) 0)
unfolding marks_clean
marks-clean n m few h = same_bool _ _ (at_pair marks_clean (suc most_active) 256 test-clean n (omega arith) m h)

-- ---- one mark more, or one alone
-- A placement that is added has the mark that is set; the others keep their kinds.
kind_added : ℕ → ℕ → Bool
kind_added c m = eqb (kind_in (bit_or (clean_marks c m) (bit_of c)) c) 1 && (eqb (kind_in (bit_or (clean_marks c m) (bit_of (most_active + c))) c) 2
    && all_below c (λ i. eqb (kind_in (bit_or (clean_marks c m) (bit_of c)) i) (kind_in m i) && eqb (kind_in (bit_or (clean_marks c m) (bit_of (most_active + c))) i) (kind_in m i)))

test-added : all_below most_active (λ c. all_below 256 (kind_added c)) ≡ true
unfolding kind_added clean_marks free_marks
test-added = refl

module _ (c m : ℕ) (hc : c < most_active) (hm : m < 256) where
  abbrev railed : ℕ
  railed = bit_or (clean_marks c m) (bit_of c)

  abbrev tabled : ℕ
  tabled = bit_or (clean_marks c m) (bit_of (most_active + c))

  kept : ℕ → Bool
  kept i = eqb (kind_in railed i) (kind_in m i) && eqb (kind_in tabled i) (kind_in m i)

  added : (eqb (kind_in railed c) 1 && (eqb (kind_in tabled c) 2 && all_below c kept)) ≡ true
  unfolding kind_added kept
  added = at_pair kind_added most_active 256 test-added c hc m hm

  pub rails-added : kind_in railed c ≡ 1
  rails-added = eqb-true _ _ (and_l (eqb (kind_in railed c) 1) _ added)

  rest : (eqb (kind_in tabled c) 2 && all_below c kept) ≡ true
  rest = and_r (eqb (kind_in railed c) 1) _ added

  pub table-added : kind_in tabled c ≡ 2
  table-added = eqb-true _ _ (and_l (eqb (kind_in tabled c) 2) _ rest)

  both-kept : (i : ℕ) → i < c → kept i ≡ true
  both-kept i h = below_all c kept i (and_r (eqb (kind_in tabled c) 2) _ rest) h

  pub rails-kept : (i : ℕ) → i < c → kind_in railed i ≡ kind_in m i
  unfolding kept
  rails-kept i h = eqb-true _ _ (and_l (eqb (kind_in railed i) (kind_in m i)) _ (both-kept i h))

  pub table_kept : (i : ℕ) → i < c → kind_in tabled i ≡ kind_in m i
  unfolding kept
  table_kept i h = eqb-true _ _ (and_r (eqb (kind_in railed i) (kind_in m i)) _ (both-kept i h))

-- The marks of one placement.
pub kind-first : (table rails : Bool) → kind_in (cond table (bit_of most_active) (cond rails (bit_of 0) 0)) 0 ≡ kind table rails
kind-first true rails = refl
kind-first false true = refl
kind-first false false = refl

-- ---- what is written is read again
abbrev kinds_back : ℕ → ℕ → ℕ → ℕ → Bool
kinds_back a b c d =
    eqb (kind_in (four_marks a b c d) 0) a && (eqb (kind_in (four_marks a b c d) 1) b && (eqb (kind_in (four_marks a b c d) 2) c && eqb (kind_in (four_marks a b c d) 3) d))

test_back : all_below 3 (λ a. all_below 3 (λ b. all_below 3 (λ c. all_below 3 (kinds_back a b c)))) ≡ true
test_back = refl

abbrev of_four : ℕ → ℕ → ℕ → ℕ → ℕ → ℕ
of_four a b c d zero = a
of_four a b c d (suc zero) = b
of_four a b c d (suc (suc zero)) = c
of_four a b c d (suc (suc (suc i))) = d

module _ (a b c d : ℕ) (ha : a < 3) (hb : b < 3) (hc : c < 3) (hd : d < 3) where
  abbrev m : ℕ
  m = four_marks a b c d

  all_back : kinds_back a b c d ≡ true
  all_back = below_all 3 (kinds_back a b c) d (below_all 3 (λ c. all_below 3 (kinds_back a b c)) c
      (below_all 3 (λ b. all_below 3 (λ c. all_below 3 (kinds_back a b c))) b (below_all 3 (λ a. all_below 3 (λ b. all_below 3 (λ c. all_below 3 (kinds_back a b c)))) a test_back ha) hb) hc) hd

  back-0 : kind_in m 0 ≡ a
  back-0 = eqb-true _ _ (and_l (eqb (kind_in m 0) a) _ all_back)

  rest-1 : (eqb (kind_in m 1) b && (eqb (kind_in m 2) c && eqb (kind_in m 3) d)) ≡ true
  rest-1 = and_r (eqb (kind_in m 0) a) _ all_back

  back-1 : kind_in m 1 ≡ b
  back-1 = eqb-true _ _ (and_l (eqb (kind_in m 1) b) _ rest-1)

  rest-2 : (eqb (kind_in m 2) c && eqb (kind_in m 3) d) ≡ true
  rest-2 = and_r (eqb (kind_in m 1) b) _ rest-1

  back-2 : kind_in m 2 ≡ c
  back-2 = eqb-true _ _ (and_l (eqb (kind_in m 2) c) _ rest-2)

  back-3 : kind_in m 3 ≡ d
  back-3 = eqb-true _ _ (and_r (eqb (kind_in m 2) c) _ rest-2)

  back-all : (i : ℕ) → i < most_active → kind_in m i ≡ of_four a b c d i
  back-all zero h = back-0
  back-all (suc zero) h = back-1
  back-all (suc (suc zero)) h = back-2
  back-all (suc (suc (suc zero))) h = back-3
  back-all (suc (suc (suc (suc i)))) h = absurd (omega arith)

pub mark-back : (l : List Placement) (i : ℕ) → length l ≤ most_active → i < length l → kind_in (marks_from 0 l) i ≡ kind_at l i
mark-back l i few h = ap (λ (m : ℕ). kind_in m i) (marks-are l few)
    ∙ back-all (kind_at l 0) (kind_at l 1) (kind_at l 2) (kind_at l 3) (kind-at-few l 0) (kind-at-few l 1) (kind-at-few l 2) (kind-at-few l 3) i (omega arith)
    ∙ four i (omega arith)
  where
    four : (i : ℕ) → i < most_active → of_four (kind_at l 0) (kind_at l 1) (kind_at l 2) (kind_at l 3) i ≡ kind_at l i
    four zero h = refl
    four (suc zero) h = refl
    four (suc (suc zero)) h = refl
    four (suc (suc (suc zero))) h = refl
    four (suc (suc (suc (suc i)))) h = absurd (omega arith)

kind-at : (l : List Placement) (i : ℕ) (p : Placement) → i < length l → kind_at l i ≡ kind_of (get_or l i p).choice
kind-at [] i p h = absurd (omega arith)
kind-at (x ∷ l) zero p h = refl
kind-at (x ∷ l) (suc i) p h = kind-at l i p (omega arith)

-- The choice that is read again, where its pairs are.
pub choice-back : (c : Choice) (t r : Bool) (x : Pairs) → kind t r ≡ kind_of c → ((y : Pairs) → c ≡ by_table y → x ≡ y) → chosen_by t r x ≡ c
choice-back chained t r x e f = chosen-same t r false false x e
choice-back by_rails t r x e f = chosen-same t r false true x e
choice-back (by_table y) t r x e f = chosen-same t r true false x e ∙ ap by_table (f y refl)

pub chosen-back : (l : List Placement) (i : ℕ) (p : Placement) (x : Pairs) → length l ≤ most_active → i < length l → ((y : Pairs) → (get_or l i p).choice ≡ by_table y → x ≡ y)
    → chosen_by (table_mark_in (marks_from 0 l) i) (mark_in (marks_from 0 l) i) x ≡ (get_or l i p).choice
chosen-back l i p x few h f = choice-back (get_or l i p).choice (table_mark_in (marks_from 0 l) i) (mark_in (marks_from 0 l) i) x (mark-back l i few h ∙ kind-at l i p h) f
