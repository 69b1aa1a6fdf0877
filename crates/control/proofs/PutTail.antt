-- Images with other bytes behind the tables: an image is such a one where it agrees before the bytes and in them (`put-tail-ext`), so that what the code
-- writes is compared byte by byte. Assumes nothing.
use mathlib.Core.Path.{◌≡◌, refl, sym, ap, ◌∙◌}
use mathlib.Core.Bool.{◌&&◌, cond}
use mathlib.Core.List.{List, [], ◌∷◌, ◌++◌}
use mathlib.Core.Logic.{◌⊎◌, inl, inr, ⊎_elim}
use Prim.Native.Nat.{ℕ, ◌+◌, ◌-◌, ◌*◌, ◌<◌, ◌≤◌}
use native.Mathlib.Omega.{arith}
use lib.Dec.{leb, ltb}
use lib.ListN.{get_or, length}
use lib.Seq.{ext_get_or}
use borrow.Author.Tests.{le-leb, le-ltb, lt-leb, lt-ltb}
use Rattle.lists.specs.Segments.{segment, splice}
use Rattle.lists.specs.Tabulate.{tabulate}
use Rattle.lists.proofs.Cases.{by_place, lt-or-ge}
use Rattle.lists.proofs.Segments.{get_or-after, get_or-before, get_or-in, get_or-segment, length-segment, length-splice, splice-ext}
use Rattle.lists.proofs.Tabulate.{at-tabulate, length-tabulate}
use Rattle.image.specs.Layout.{most_active, pairs_size, tail_size, tail_start}
use Rattle.image.specs.Parts.{Whole, zeros}
use Rattle.image.proofs.Zeros.{length-zeros, zeros-at}
use Rattle.mask.specs.Pairs.{Pairs}
use Rattle.mask.specs.Placements.{Placement, by_table}
use Rattle.control.specs.ControlBytes.{tail_at, tail_of}
use Rattle.control.specs.Meaning.{only_pairs, put_tail}
use Rattle.control.proofs.Tail.{placed-tail, retired-tail}

pub put-tail-ext : (image m : List ℕ) (f : ℕ → ℕ) → Whole image → length m ≡ length image → ((n : ℕ) → n < tail_start → get_or m n 0 ≡ get_or image n 0)
    → ((n : ℕ) → n < tail_size → tail_at m n ≡ f n) → m ≡ put_tail image f
unfolding put_tail
put-tail-ext image m f w e before its =
    let t : length (tabulate tail_size f) ≡ tail_size = length-tabulate tail_size f in
    splice-ext image tail_start (tabulate tail_size f) m (omega arith) e before
    (λ n h. let k : n < tail_size = omega arith in its n k ∙ sym (at-tabulate tail_size f n k))
    (λ n h k. absurd (omega arith))

-- Only those bytes count.
pub put-tail-same : (image : List ℕ) (f h : ℕ → ℕ) → ((n : ℕ) → n < tail_size → f n ≡ h n) → put_tail image f ≡ put_tail image h
unfolding put_tail
put-tail-same image f h same = ap (splice image tail_start) (ext_get_or 0 (tabulate tail_size f) (tabulate tail_size h)
    (length-tabulate tail_size f ∙ sym (length-tabulate tail_size h)) (λ n k.
    let b : n < tail_size = omega (arith, k, length-tabulate tail_size f) in
    at-tabulate tail_size f n b ∙ same n b ∙ sym (at-tabulate tail_size h n b)))

-- Those that the image has are put back.
pub put-tail-kept : (image : List ℕ) (f : ℕ → ℕ) → Whole image → ((n : ℕ) → n < tail_size → tail_at image n ≡ f n) → image ≡ put_tail image f
put-tail-kept image f w same = put-tail-ext image image f w refl (λ n h. refl) same

-- ---- as the code writes them
-- The pairs of placement i are written: the others stay.
module _ (image : List ℕ) (i : ℕ) (xs : List ℕ) (w : Whole image) (few : i < most_active) (long : length xs ≡ pairs_size) where
  abbrev a : ℕ
  a = i * pairs_size

  abbrev with-pairs : ℕ → ℕ
  with-pairs n = cond (leb a n && ltb n (a + pairs_size)) (get_or xs (n - a) 0) (tail_at image n)

  pub put-pairs : splice image (tail_start + i * pairs_size) xs ≡ put_tail image with-pairs
  put-pairs = put-tail-ext image m with-pairs w (length-splice image (tail_start + a) xs (omega arith))
      (λ n h. get_or-before image (tail_start + a) xs n (omega arith) (omega arith))
      (λ n h. by_place (tail_at m n ≡ with-pairs n) n a pairs_size (before n) (its n) (behind n))
    where
      m : List ℕ
      m = splice image (tail_start + a) xs

      before : (n : ℕ) → n < a → tail_at m n ≡ with-pairs n
      before n h = rw (lt-leb a n h) (get_or-before image (tail_start + a) xs (tail_start + n) (omega arith) (omega arith))

      its : (n : ℕ) → a ≤ n → n < a + pairs_size → tail_at m n ≡ with-pairs n
      its n h k =
          let e : tail_start + n - (tail_start + a) ≡ n - a = omega arith in
          rw (le-leb a n h, lt-ltb n (a + pairs_size) k)
          (get_or-in image (tail_start + a) xs (tail_start + n) (omega arith) (omega arith) (omega arith) ∙ ap (λ (j : ℕ). get_or xs j 0) e)

      behind : (n : ℕ) → a + pairs_size ≤ n → tail_at m n ≡ with-pairs n
      behind n h = rw (le-leb a n (omega arith), le-ltb n (a + pairs_size) h) (get_or-after image (tail_start + a) xs (tail_start + n) (omega arith) (omega arith))

-- The pairs of placement i are written at the front, and zeros behind them.
module _ (image : List ℕ) (i : ℕ) (xs : List ℕ) (w : Whole image) (few : i < most_active) (is : xs ≡ segment image (tail_start + i * pairs_size) pairs_size) where
  long : length xs ≡ pairs_size
  long = ap length is ∙ length-segment image (tail_start + i * pairs_size) pairs_size (omega arith)

  abbrev front : List ℕ
  front = splice image tail_start xs

  abbrev nothing : List ℕ
  nothing = zeros (tail_size - pairs_size)

  pub length_front : length front ≡ length image
  length_front = length-splice image tail_start xs (omega (arith, long))

  length-nothing : length nothing ≡ tail_size - pairs_size
  length-nothing = length-zeros (tail_size - pairs_size)

  front-byte : (n : ℕ) → n < pairs_size → tail_at front n ≡ tail_at image (i * pairs_size + n)
  front-byte n h =
      let e : tail_start + n - tail_start ≡ n = omega arith in
      let d : tail_start + i * pairs_size + n ≡ tail_start + (i * pairs_size + n) = omega arith in
      get_or-in image tail_start xs (tail_start + n) (omega (arith, long)) (omega arith) (omega (arith, long))
      ∙ ap (λ (j : ℕ). get_or xs j 0) e ∙ ap (λ (l : List ℕ). get_or l n 0) is ∙ get_or-segment image (tail_start + i * pairs_size) pairs_size n h ∙ ap (λ (j : ℕ). get_or image j 0) d

  pub put-retired : splice front (tail_start + pairs_size) nothing ≡ put_tail image (only_pairs (tail_at image) i)
  unfolding only_pairs
  put-retired = put-tail-ext image (splice front (tail_start + pairs_size) nothing) (only_pairs (tail_at image) i) w
      (length-splice front (tail_start + pairs_size) nothing (omega (arith, length_front, length-nothing)) ∙ length_front)
      (λ n h. get_or-before front (tail_start + pairs_size) nothing n (omega (arith, length_front, length-nothing)) (omega arith)
      ∙ get_or-before image tail_start xs n (omega (arith, long)) h)
      (λ n h. ⊎_elim
      (λ (k : n < pairs_size). get_or-before front (tail_start + pairs_size) nothing (tail_start + n) (omega (arith, length_front, length-nothing)) (omega arith)
      ∙ front-byte n k ∙ sym (rw (lt-ltb n pairs_size k)))
      (λ (k : pairs_size ≤ n).
      get_or-in front (tail_start + pairs_size) nothing (tail_start + n) (omega (arith, length_front, length-nothing)) (omega arith) (omega (arith, length-nothing))
      ∙ zeros-at (tail_size - pairs_size) (tail_start + n - (tail_start + pairs_size)) (omega arith) ∙ sym (rw (le-ltb n pairs_size k)))
      (lt-or-ge n pairs_size))

-- ---- of an image that keeps the pairs of these placements
module _ (image : List ℕ) (l : List Placement) (p : Placement) (few : length l < most_active) where
  -- only the last remains
  pub retired-put : ((n : ℕ) → n < tail_size → tail_at image n ≡ tail_of (l ++ (p ∷ [])) n) → put_tail image (only_pairs (tail_at image) (length l)) ≡ put_tail image (tail_of (p ∷ []))
  unfolding only_pairs
  retired-put same = put-tail-same image (only_pairs (tail_at image) (length l)) (tail_of (p ∷ [])) (λ n h. moved n (lt-or-ge n pairs_size) ∙ retired-tail l p n h)
    where
      moved : (n : ℕ) → (n < pairs_size) ⊎ (pairs_size ≤ n) → only_pairs (tail_at image) (length l) n ≡ only_pairs (tail_of (l ++ (p ∷ []))) (length l) n
      moved n (inl h) = ap (λ (b : ℕ). cond (ltb n pairs_size) b 0) (same (length l * pairs_size + n) (omega arith))
      moved n (inr h) = rw (le-ltb n pairs_size h)

  -- one by table is added
  pub placed-put : Whole image → (x : Pairs) → p.choice ≡ by_table x → ((n : ℕ) → n < tail_size → tail_at image n ≡ tail_of l n)
      → splice image (tail_start + length l * pairs_size) x.0 ≡ put_tail image (tail_of (l ++ (p ∷ [])))
  placed-put w x e same = put-pairs image (length l) x.0 w few x.1 ∙ put-tail-same image (with-pairs image (length l) x.0 w few x.1) (tail_of (l ++ (p ∷ [])))
      (λ n h. ap (λ (b : ℕ). cond (leb (length l * pairs_size) n && ltb n (length l * pairs_size + pairs_size)) (get_or x.0 (n - length l * pairs_size) 0) b) (same n h)
      ∙ sym (placed-tail l p x n few h e))
