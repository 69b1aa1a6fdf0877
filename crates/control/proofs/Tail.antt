-- The bytes behind the tables: byte j of placement i stands at i × 48 + j, so each law is of a placement and a place in its bytes. Assumes nothing.
use mathlib.Core.Path.{◌≡◌, refl, sym, ap, ap₂, ◌∙◌}
use mathlib.Core.HLevel.{Σ_prop_path}
use mathlib.Core.Bool.{Bool, true, false, ◌&&◌, cond}
use mathlib.Core.List.{List, [], ◌∷◌, ◌++◌}
use mathlib.Core.Logic.{⊎_elim}
use Prim.Native.Nat.{ℕ, zero, suc, ◌+◌, ◌-◌, ◌*◌, ◌/◌, ◌%◌, ◌≤◌, ◌<◌}
use native.Mathlib.Nat.{ℕ_set}
use native.Mathlib.Omega.{arith}
use lib.Dec.{leb, ltb}
use lib.ListN.{get_or, length}
use lib.Seq.{ext_get_or}
use borrow.Author.Tests.{le-leb, le-ltb, lt-leb, lt-ltb, ne_eqb}
use Rattle.lists.proofs.Bools.{tf}
use Rattle.lists.proofs.Cases.{by_place, lt-or-ge}
use Rattle.lists.proofs.Tabulate.{at-tabulate}
use Rattle.image.specs.Layout.{most_active, pairs_size, tail_size}
use Rattle.mask.specs.Pairs.{Pairs, pairs_byte, pairs_of}
use Rattle.mask.specs.Placements.{Choice, Placement, by_rails, by_table, chained, is_by_table}
use Rattle.control.specs.ControlBytes.{chosen_by, kept_byte, kept_of, mark_in, marks_at, pairs_in, placement_at, placements_in, table_mark_in, tail_of}
use Rattle.control.specs.Meaning.{only_pairs}

-- ---- pairs as bytes
pub pairs-path : (x y : Pairs) → ((j : ℕ) → j < pairs_size → pairs_byte x j ≡ pairs_byte y j) → x ≡ y
pairs-path x y same = Σ_prop_path (λ l. ℕ_set (length l) pairs_size) (ext_get_or 0 x.0 y.0 (x.1 ∙ sym y.1) (λ j h. same j (omega (arith, x.1))))

-- the bytes that a function gives
pub pairs_of_lem : (f : ℕ → ℕ) (j : ℕ) → j < pairs_size → pairs_byte (pairs_of f) j ≡ f j
pairs_of_lem f j h = at-tabulate pairs_size f j h

pub pairs-in : (t : ℕ → ℕ) (i : ℕ) (y : Pairs) → ((j : ℕ) → j < pairs_size → t (i * pairs_size + j) ≡ pairs_byte y j) → pairs_in t i ≡ y
pairs-in t i y same = pairs-path (pairs_in t i) y (λ j h. pairs_of_lem (λ j. t (i * pairs_size + j)) j h ∙ same j h)

-- ---- byte j of placement i
pub tail_at : (l : List Placement) (i j : ℕ) → j < pairs_size → tail_of l (i * pairs_size + j) ≡ kept_of l i j
unfolding tail_of
tail_at l i j h = ap₂ (kept_of l) a b
  where
    a : (i * pairs_size + j) / pairs_size ≡ i
    a = omega arith

    b : (i * pairs_size + j) % pairs_size ≡ j
    b = omega arith

-- what holds of each of these bytes holds of all
pub each-kept : (q : ℕ → Type 0) → ((i j : ℕ) → i < most_active → j < pairs_size → q (i * pairs_size + j)) → (n : ℕ) → n < tail_size → q n
each-kept q h n b = rw e at (h (n / pairs_size) (n % pairs_size) (omega arith) (omega arith))
  where
    e : n / pairs_size * pairs_size + n % pairs_size ≡ n
    e = omega arith

-- ---- placement i of a list
pub kept_at : (l : List Placement) (i j : ℕ) (p : Placement) → i < length l → kept_of l i j ≡ kept_byte (get_or l i p).choice j
kept_at [] i j p h = absurd (omega arith)
kept_at (x ∷ l) zero j p h = refl
kept_at (x ∷ l) (suc i) j p h = kept_at l i j p (omega arith)

pub kept-none : (l : List Placement) (i j : ℕ) → length l ≤ i → kept_of l i j ≡ 0
kept-none [] i j h = refl
kept-none (x ∷ l) zero j h = absurd (omega arith)
kept-none (x ∷ l) (suc i) j h = kept-none l i j (omega arith)

pub kept_in : (f : ℕ → Placement) (n i j : ℕ) → i < n → kept_of (placements_in f n) i j ≡ kept_byte (f i).choice j
kept_in f zero i j h = absurd (omega arith)
kept_in f (suc n) zero j h = refl
kept_in f (suc n) (suc i) j h = kept_in (λ i. f (suc i)) n i j (omega arith)

pub kept_out : (f : ℕ → Placement) (n i j : ℕ) → n ≤ i → kept_of (placements_in f n) i j ≡ 0
kept_out f zero i j h = refl
kept_out f (suc n) zero j h = absurd (omega arith)
kept_out f (suc n) (suc i) j h = kept_out (λ i. f (suc i)) n i j (omega arith)

-- one placement more
pub kept-before : (l m : List Placement) (i j : ℕ) → i < length l → kept_of (l ++ m) i j ≡ kept_of l i j
kept-before [] m i j h = absurd (omega arith)
kept-before (x ∷ l) m zero j h = refl
kept-before (x ∷ l) m (suc i) j h = kept-before l m i j (omega arith)

pub kept-last : (l : List Placement) (p : Placement) (j : ℕ) → kept_of (l ++ (p ∷ [])) (length l) j ≡ kept_byte p.choice j
kept-last [] p j = refl
kept-last (x ∷ l) p j = kept-last l p j

pub kept-past : (l : List Placement) (p : Placement) (i j : ℕ) → length l < i → kept_of (l ++ (p ∷ [])) i j ≡ 0
kept-past [] p zero j h = absurd (omega arith)
kept-past [] p (suc i) j h = refl
kept-past (x ∷ l) p zero j h = absurd (omega arith)
kept-past (x ∷ l) p (suc i) j h = kept-past l p i j (omega arith)

-- a placement without a table keeps nothing, so that one more leaves the bytes
pub kept-bare : (c : Choice) (j : ℕ) → is_by_table c ≡ false → kept_byte c j ≡ 0
kept-bare chained j e = refl
kept-bare by_rails j e = refl
kept-bare (by_table x) j e = tf true refl e

pub kept_more : (l : List Placement) (p : Placement) (i j : ℕ) → is_by_table p.choice ≡ false → kept_of (l ++ (p ∷ [])) i j ≡ kept_of l i j
kept_more [] p zero j e = kept-bare p.choice j e
kept_more [] p (suc i) j e = refl
kept_more (x ∷ l) p zero j e = refl
kept_more (x ∷ l) p (suc i) j e = kept_more l p i j e

pub tail_more : (l : List Placement) (p : Placement) (n : ℕ) → is_by_table p.choice ≡ false → tail_of (l ++ (p ∷ [])) n ≡ tail_of l n
unfolding tail_of
tail_more l p n e = kept_more l p (n / pairs_size) (n % pairs_size) e

-- the same of the bytes: of the placements before, behind the last, and behind one more
pub tail-before : (l m : List Placement) (n : ℕ) → n < length l * pairs_size → tail_of (l ++ m) n ≡ tail_of l n
unfolding tail_of
tail-before l m n h = kept-before l m (n / pairs_size) (n % pairs_size) (omega arith)

pub tail_none : (l : List Placement) (n : ℕ) → length l * pairs_size ≤ n → tail_of l n ≡ 0
unfolding tail_of
tail_none l n h = kept-none l (n / pairs_size) (n % pairs_size) (omega arith)

pub tail-past : (l : List Placement) (p : Placement) (n : ℕ) → length l * pairs_size + pairs_size ≤ n → tail_of (l ++ (p ∷ [])) n ≡ 0
unfolding tail_of
tail-past l p n h = kept-past l p (n / pairs_size) (n % pairs_size) (omega arith)

-- ---- what marks and pairs keep
pub kept-chosen : (table rails : Bool) (x : Pairs) (j : ℕ) → kept_byte (chosen_by table rails x) j ≡ cond table (pairs_byte x j) 0
kept-chosen true rails x j = refl
kept-chosen false true x j = refl
kept-chosen false false x j = refl

-- ---- no placement by table
-- Marks without one for a table.
pub no-tables : (m i : ℕ) → m % 16 ≡ 0 → i < most_active → table_mark_in m i ≡ false
no-tables m zero e h = ne_eqb (m / 8 % 2) 1 (λ q. omega arith)
no-tables m (suc zero) e h = ne_eqb (m / 4 % 2) 1 (λ q. omega arith)
no-tables m (suc (suc zero)) e h = ne_eqb (m / 2 % 2) 1 (λ q. omega arith)
no-tables m (suc (suc (suc zero))) e h = ne_eqb (m / 1 % 2) 1 (λ q. omega arith)
no-tables m (suc (suc (suc (suc i)))) e h = absurd (omega arith)

-- Then the placements that are shown keep nothing.
pub bare-tail : (g t : ℕ → ℕ) (count n : ℕ) → count ≤ most_active → g marks_at % 16 ≡ 0 → tail_of (placements_in (placement_at g t) count) n ≡ 0
unfolding tail_of
bare-tail g t count n few e = ⊎_elim
    (λ (h : n / pairs_size < count). kept_in (placement_at g t) count (n / pairs_size) (n % pairs_size) h
    ∙ kept-chosen (table_mark_in (g marks_at) (n / pairs_size)) (mark_in (g marks_at) (n / pairs_size)) (pairs_in t (n / pairs_size)) (n % pairs_size)
    ∙ rw (no-tables (g marks_at) (n / pairs_size) e (omega arith)))
    (λ (h : count ≤ n / pairs_size). kept_out (placement_at g t) count (n / pairs_size) (n % pairs_size) h)
    (lt-or-ge (n / pairs_size) count)

-- ---- placements that come and go
-- The pairs of the newest placement, moved to the front, are what is kept where it is alone.
pub retired-tail : (l : List Placement) (p : Placement) (n : ℕ) → n < tail_size → only_pairs (tail_of (l ++ (p ∷ []))) (length l) n ≡ tail_of (p ∷ []) n
unfolding only_pairs
retired-tail l p n b = ⊎_elim front rest (lt-or-ge n pairs_size)
  where
    front : n < pairs_size → cond (ltb n pairs_size) (tail_of (l ++ (p ∷ [])) (length l * pairs_size + n)) 0 ≡ tail_of (p ∷ []) n
    front h =
        let e : 0 * pairs_size + n ≡ n = omega arith in
        rw (lt-ltb n pairs_size h) (tail_at (l ++ (p ∷ [])) (length l) n h ∙ kept-last l p n ∙ sym (tail_at (p ∷ []) 0 n h) ∙ ap (tail_of (p ∷ [])) e)

    rest : pairs_size ≤ n → cond (ltb n pairs_size) (tail_of (l ++ (p ∷ [])) (length l * pairs_size + n)) 0 ≡ tail_of (p ∷ []) n
    rest h = rw (le-ltb n pairs_size h) (sym (tail_none (p ∷ []) n (omega arith)))

-- A placement by table that is added keeps its pairs behind those of the others.
module _ (l : List Placement) (p : Placement) (x : Pairs) (n : ℕ) where
  abbrev a : ℕ
  a = length l * pairs_size

  abbrev more : ℕ
  more = cond (leb a n && ltb n (a + pairs_size)) (pairs_byte x (n - a)) (tail_of l n)

  pub placed-tail : length l < most_active → n < tail_size → p.choice ≡ by_table x → tail_of (l ++ (p ∷ [])) n ≡ more
  placed-tail few b e = by_place (tail_of (l ++ (p ∷ [])) n ≡ more) n a pairs_size before its behind
    where
      before : n < a → tail_of (l ++ (p ∷ [])) n ≡ more
      before h = rw (lt-leb a n h) (tail-before l (p ∷ []) n h)

      its : a ≤ n → n < a + pairs_size → tail_of (l ++ (p ∷ [])) n ≡ more
      its h k =
          let q : n ≡ a + (n - a) = omega arith in
          rw (le-leb a n h, lt-ltb n (a + pairs_size) k) (ap (tail_of (l ++ (p ∷ []))) q
          ∙ tail_at (l ++ (p ∷ [])) (length l) (n - a) (omega arith) ∙ kept-last l p (n - a) ∙ ap (λ (c : Choice). kept_byte c (n - a)) e)

      behind : a + pairs_size ≤ n → tail_of (l ++ (p ∷ [])) n ≡ more
      behind h = rw (le-leb a n (omega arith), le-ltb n (a + pairs_size) h) (tail-past l p n h ∙ sym (tail_none l n (omega arith)))
