-- Laws of segment and splice: the lens through which bytes are read and written. Assumes nothing.
use mathlib.Core.Path.{◌≡◌, refl, sym, ap, ◌∙◌}
use mathlib.Core.List.{List, [], ◌∷◌, ◌++◌}
use mathlib.Core.Logic.{⊎_elim}
use Prim.Native.Nat.{ℕ, ◌+◌, ◌-◌, ◌≤◌, ◌<◌}
use Rattle.lists.specs.Segments.{segment, splice}
use Rattle.lists.proofs.Cases.{lt-or-ge}
use native.Mathlib.Omega.{arith}
use lib.ListN.{length, take, get_or, set, length-append, length-take, length-drop, length-set, get_or-append}
use native.Mathlib.Numerals.{add-one}
use native.Mathlib.Nat.{not-suc-le-zero}
use lib.Seq.{set_split, get_or-set_same, get_or-set_other, get_or-take, get_or-drop, ext_get_or, get_or-append-add}

pub length-segment : (l : List ℕ) (a n : ℕ) → a + n ≤ length l → length (segment l a n) ≡ n
unfolding segment
length-segment l a n h = simp (length-take, length-drop) (omega arith)

pub get_or-segment : (l : List ℕ) (a n i : ℕ) → i < n → get_or (segment l a n) i 0 ≡ get_or l (a + i) 0
unfolding segment
get_or-segment l a n i h = rw (get_or-take, get_or-drop)

pub length-splice : (l : List ℕ) (a : ℕ) (xs : List ℕ) → a + length xs ≤ length l → length (splice l a xs) ≡ length l
unfolding splice
length-splice l a xs h = simp (length-append, length-take, length-drop) (omega arith)

-- what follows a prefix of known length
after : (p q : List ℕ) (n i : ℕ) → length p ≡ n → n ≤ i → get_or (p ++ q) i 0 ≡ get_or q (i - n) 0
after p q n i e h =
    let f : i ≡ length p + (i - n) = omega arith in
    ap (λ (k : ℕ). get_or (p ++ q) k 0) f ∙ get_or-append-add p q (i - n) 0

-- an element of a splice: before it, in it and after it
pub get_or-before : (l : List ℕ) (a : ℕ) (xs : List ℕ) (i : ℕ) → a + length xs ≤ length l → i < a → get_or (splice l a xs) i 0 ≡ get_or l i 0
unfolding splice
get_or-before l a xs i h k =
    let p : i < length (take a l) = simp length-take (omega arith) in
    get_or-append (take a l) _ 0 i p ∙ get_or-take a l i 0 k

pub get_or-in : (l : List ℕ) (a : ℕ) (xs : List ℕ) (i : ℕ) → a + length xs ≤ length l → a ≤ i → i < a + length xs → get_or (splice l a xs) i 0 ≡ get_or xs (i - a) 0
unfolding splice
get_or-in l a xs i h k j =
    after (take a l) _ a i (simp length-take (omega arith)) k ∙ get_or-append xs _ 0 (i - a) (omega arith)

pub get_or-after : (l : List ℕ) (a : ℕ) (xs : List ℕ) (i : ℕ) → a + length xs ≤ length l → a + length xs ≤ i → get_or (splice l a xs) i 0 ≡ get_or l i 0
unfolding splice
get_or-after l a xs i h k =
    let e : a + length xs + (i - a - length xs) ≡ i = omega arith in
    after (take a l) _ a i (simp length-take (omega arith)) (omega arith)
    ∙ after xs _ (length xs) (i - a) refl (omega arith)
    ∙ get_or-drop (a + length xs) l (i - a - length xs) 0
    ∙ ap (λ (m : ℕ). get_or l m 0) e

-- get of put at the same place
pub get-put : (l : List ℕ) (a n : ℕ) (xs : List ℕ) → length xs ≡ n → a + n ≤ length l → segment (splice l a xs) a n ≡ xs
get-put l a n xs e h =
    let s : length (splice l a xs) ≡ length l = length-splice l a xs (omega arith) in
    let t : length (segment (splice l a xs) a n) ≡ n = length-segment (splice l a xs) a n (omega arith) in
    ext_get_or 0 _ _ (omega arith) (λ i k.
    let u : a + i - a ≡ i = omega arith in
    get_or-segment (splice l a xs) a n i (omega arith) ∙ get_or-in l a xs (a + i) (omega arith) (omega arith) (omega arith) ∙ ap (λ (m : ℕ). get_or xs m 0) u)

-- get of put before it, and after it
pub get-put-before : (l : List ℕ) (a : ℕ) (xs : List ℕ) (b n : ℕ) → a + length xs ≤ length l → b + n ≤ a → segment (splice l a xs) b n ≡ segment l b n
get-put-before l a xs b n h k =
    let s : length (splice l a xs) ≡ length l = length-splice l a xs h in
    let t : length (segment (splice l a xs) b n) ≡ n = length-segment (splice l a xs) b n (omega arith) in
    let v : length (segment l b n) ≡ n = length-segment l b n (omega arith) in
    ext_get_or 0 _ _ (omega arith) (λ i j.
    get_or-segment (splice l a xs) b n i (omega arith) ∙ get_or-before l a xs (b + i) h (omega arith) ∙ sym (get_or-segment l b n i (omega arith)))

pub get-put-after : (l : List ℕ) (a : ℕ) (xs : List ℕ) (b n : ℕ) → a + length xs ≤ length l → a + length xs ≤ b → b + n ≤ length l → segment (splice l a xs) b n ≡ segment l b n
get-put-after l a xs b n h k m =
    let s : length (splice l a xs) ≡ length l = length-splice l a xs h in
    let t : length (segment (splice l a xs) b n) ≡ n = length-segment (splice l a xs) b n (omega arith) in
    let v : length (segment l b n) ≡ n = length-segment l b n (omega arith) in
    ext_get_or 0 _ _ (omega arith) (λ i j.
    get_or-segment (splice l a xs) b n i (omega arith) ∙ get_or-after l a xs (b + i) h (omega arith) ∙ sym (get_or-segment l b n i (omega arith)))

-- a list equals a splice where it agrees with it at each index: the one way to show such an equation
pub splice-ext : (l : List ℕ) (a : ℕ) (xs m : List ℕ) → a + length xs ≤ length l → length m ≡ length l
    → ((i : ℕ) → i < a → get_or m i 0 ≡ get_or l i 0)
    → ((i : ℕ) → i < length xs → get_or m (a + i) 0 ≡ get_or xs i 0)
    → ((i : ℕ) → a + length xs ≤ i → i < length l → get_or m i 0 ≡ get_or l i 0)
    → m ≡ splice l a xs
splice-ext l a xs m h e before in-it behind =
    let s : length (splice l a xs) ≡ length l = length-splice l a xs h in
    ext_get_or 0 m (splice l a xs) (omega arith) (λ i k.
    ⊎_elim
    (λ (p : i < a). before i p ∙ sym (get_or-before l a xs i h p))
    (λ (p : a ≤ i).
    ⊎_elim
    (λ (q : i < a + length xs).
    let u : i ≡ a + (i - a) = omega arith in
    ap (λ (j : ℕ). get_or m j 0) u ∙ in-it (i - a) (omega arith) ∙ sym (get_or-in l a xs i h p q))
    (λ (q : a + length xs ≤ i). behind i q (omega arith) ∙ sym (get_or-after l a xs i h q))
    (lt-or-ge i (a + length xs)))
    (lt-or-ge i a))

-- put of get
pub put-get : (l : List ℕ) (a n : ℕ) → a + n ≤ length l → splice l a (segment l a n) ≡ l
put-get l a n h =
    let t : length (segment l a n) ≡ n = length-segment l a n h in
    sym (splice-ext l a (segment l a n) l (omega arith) refl (λ i k. refl) (λ i k. sym (get_or-segment l a n i (omega arith))) (λ i k j. refl))

-- a segment of a segment
pub get-get : (l : List ℕ) (a n b m : ℕ) → a + n ≤ length l → b + m ≤ n → segment (segment l a n) b m ≡ segment l (a + b) m
get-get l a n b m h k =
    let t : length (segment l a n) ≡ n = length-segment l a n h in
    let u : length (segment (segment l a n) b m) ≡ m = length-segment (segment l a n) b m (omega arith) in
    let v : length (segment l (a + b) m) ≡ m = length-segment l (a + b) m (omega arith) in
    ext_get_or 0 _ _ (omega arith) (λ i j.
    let e : a + (b + i) ≡ a + b + i = omega arith in
    get_or-segment (segment l a n) b m i (omega arith) ∙ get_or-segment l a n (b + i) (omega arith)
    ∙ ap (λ (o : ℕ). get_or l o 0) e ∙ sym (get_or-segment l (a + b) m i (omega arith)))

-- a put within a part that is put back: a part that was lent, and written in
pub put-put : (l : List ℕ) (a n b : ℕ) (xs : List ℕ) → a + n ≤ length l → b + length xs ≤ n → splice l a (splice (segment l a n) b xs) ≡ splice l (a + b) xs
put-put l a n b xs h k =
    let t : length (segment l a n) ≡ n = length-segment l a n h in
    let u : length (splice (segment l a n) b xs) ≡ n = length-splice (segment l a n) b xs (omega arith) ∙ t in
    let s : length (splice l a (splice (segment l a n) b xs)) ≡ length l = length-splice l a (splice (segment l a n) b xs) (omega arith) in
    let q : List ℕ = segment l a n in
    splice-ext l (a + b) xs (splice l a (splice q b xs)) (omega arith) s
    (λ i j. ⊎_elim
    (λ (p : i < a). get_or-before l a (splice q b xs) i (omega arith) p)
    (λ (p : a ≤ i).
    let e : a + (i - a) ≡ i = omega arith in
    get_or-in l a (splice q b xs) i (omega arith) p (omega arith) ∙ get_or-before q b xs (i - a) (omega arith) (omega arith)
    ∙ get_or-segment l a n (i - a) (omega arith) ∙ ap (λ (o : ℕ). get_or l o 0) e)
    (lt-or-ge i a))
    (λ i j.
    let e : a + b + i - a - b ≡ i = omega arith in
    get_or-in l a (splice q b xs) (a + b + i) (omega arith) (omega arith) (omega arith)
    ∙ get_or-in q b xs (a + b + i - a) (omega arith) (omega arith) (omega arith) ∙ ap (λ (o : ℕ). get_or xs o 0) e)
    (λ i j m. ⊎_elim
    (λ (p : i < a + n).
    let e : a + (i - a) ≡ i = omega arith in
    get_or-in l a (splice q b xs) i (omega arith) (omega arith) (omega arith) ∙ get_or-after q b xs (i - a) (omega arith) (omega arith)
    ∙ get_or-segment l a n (i - a) (omega arith) ∙ ap (λ (o : ℕ). get_or l o 0) e)
    (λ (p : a + n ≤ i). get_or-after l a (splice q b xs) i (omega arith) (omega arith))
    (lt-or-ge i (a + n)))

-- a store is a splice of one
pub set-splice : (l : List ℕ) (i v : ℕ) → i < length l → set l i v ≡ splice l i (v ∷ [])
unfolding splice
set-splice l i v h = rw add-one (set_split l i v h)

-- two puts at one place
pub put-again : (l : List ℕ) (a : ℕ) (xs ys : List ℕ) → length xs ≡ length ys → a + length xs ≤ length l → splice (splice l a xs) a ys ≡ splice l a ys
put-again l a xs ys e h =
    let s : length (splice l a xs) ≡ length l = length-splice l a xs h in
    let t : length (splice (splice l a xs) a ys) ≡ length l = length-splice (splice l a xs) a ys (omega arith) ∙ s in
    splice-ext l a ys _ (omega arith) t
    (λ i j. get_or-before (splice l a xs) a ys i (omega arith) j ∙ get_or-before l a xs i h j)
    (λ i j.
    let u : a + i - a ≡ i = omega arith in
    get_or-in (splice l a xs) a ys (a + i) (omega arith) (omega arith) (omega arith) ∙ ap (λ (o : ℕ). get_or ys o 0) u)
    (λ i j m. get_or-after (splice l a xs) a ys i (omega arith) j ∙ get_or-after l a xs i h (omega arith))

-- a put behind a put
pub put_then : (l : List ℕ) (a : ℕ) (xs ys : List ℕ) → a + length xs + length ys ≤ length l
    → splice (splice l a xs) (a + length xs) ys ≡ splice l a (xs ++ ys)
put_then l a xs ys h =
    let n : length (xs ++ ys) ≡ length xs + length ys = length-append xs ys in
    let m : List ℕ = splice l a xs in
    let b : ℕ = a + length xs in
    let s : length m ≡ length l = length-splice l a xs (omega arith) in
    let t : length (splice m b ys) ≡ length m = length-splice m b ys (omega arith) in
    splice-ext l a (xs ++ ys) (splice m b ys) (omega arith) (t ∙ s)
    (λ i p. get_or-before m b ys i (omega arith) (omega arith) ∙ get_or-before l a xs i (omega arith) p)
    (λ i p. ⊎_elim
    (λ (q : i < length xs).
    let e : a + i - a ≡ i = omega arith in
    get_or-before m b ys (a + i) (omega arith) (omega arith) ∙ get_or-in l a xs (a + i) (omega arith) (omega arith) (omega arith)
    ∙ ap (λ (o : ℕ). get_or xs o 0) e ∙ sym (get_or-append xs ys 0 i q))
    (λ (q : length xs ≤ i).
    let e : length xs + (a + i - b) ≡ i = omega arith in
    get_or-in m b ys (a + i) (omega arith) (omega arith) (omega arith) ∙ sym (get_or-append-add xs ys (a + i - b) 0)
    ∙ ap (λ (o : ℕ). get_or (xs ++ ys) o 0) e)
    (lt-or-ge i (length xs)))
    (λ i p q. get_or-after m b ys i (omega arith) (omega arith) ∙ get_or-after l a xs i (omega arith) (omega arith))

-- ---- a splice that is filled from the front, one store a turn

pub splice-none : (l : List ℕ) (a : ℕ) → a ≤ length l → splice l a [] ≡ l
splice-none l a h =
    sym (splice-ext l a [] l (omega arith) refl (λ i k. refl) (λ i k. absurd (not-suc-le-zero k)) (λ i k j. refl))

pub splice-more : (l : List ℕ) (a : ℕ) (xs : List ℕ) (i : ℕ) → a + length xs ≤ length l → i < length xs
    → set (splice l a (take i xs)) (a + i) (get_or xs i 0) ≡ splice l a (take (i + 1) xs)
splice-more l a xs i h k =
    let n : length (take i xs) ≡ i = simp length-take (omega arith) in
    let m : length (take (i + 1) xs) ≡ i + 1 = simp length-take (omega arith) in
    let s : length (splice l a (take i xs)) ≡ length l = length-splice l a (take i xs) (omega arith) in
    let t : List ℕ = splice l a (take i xs) in
    let v : ℕ = get_or xs i 0 in
    splice-ext l a (take (i + 1) xs) (set t (a + i) v) (omega arith) (length-set t (a + i) v ∙ s)
    (λ j p. get_or-set_other t (a + i) j v 0 (omega arith) ∙ get_or-before l a (take i xs) j (omega arith) p)
    (λ j p. ⊎_elim
    (λ (q : j < i).
    let e : a + j - a ≡ j = omega arith in
    get_or-set_other t (a + i) (a + j) v 0 (omega arith) ∙ get_or-in l a (take i xs) (a + j) (omega arith) (omega arith) (omega arith)
    ∙ ap (λ (o : ℕ). get_or (take i xs) o 0) e ∙ get_or-take i xs j 0 q ∙ sym (get_or-take (i + 1) xs j 0 (omega arith)))
    (λ (q : i ≤ j).
    let e : j ≡ i = omega arith in
    ap (λ (o : ℕ). get_or (set t (a + i) v) (a + o) 0) e
    ∙ get_or-set_same t (a + i) v 0 (omega arith) ∙ sym (get_or-take (i + 1) xs i 0 (omega arith)) ∙ ap (λ (o : ℕ). get_or (take (i + 1) xs) o 0) (sym e))
    (lt-or-ge j i))
    (λ j p q. get_or-set_other t (a + i) j v 0 (omega arith) ∙ get_or-after l a (take i xs) j (omega arith) (omega arith))

-- a list whose elements are f's below i, after a store of f's at i
pub fill_more : (f : ℕ → ℕ) (l : List ℕ) (i : ℕ) → i < length l → ((k : ℕ) → k < i → get_or l k 0 ≡ f k)
    → (k : ℕ) → k < i + 1 → get_or (set l i (f i)) k 0 ≡ f k
fill_more f l i h old k j =
    ⊎_elim
    (λ (p : k < i). get_or-set_other l i k (f i) 0 (omega arith) ∙ old k p)
    (λ (p : i ≤ k).
    let e : k ≡ i = omega arith in
    ap (λ (o : ℕ). get_or (set l i (f i)) o 0) e ∙ get_or-set_same l i (f i) 0 h ∙ ap f (sym e))
    (lt-or-ge k i)
