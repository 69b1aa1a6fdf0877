-- Laws of tests over lists, and of membership. Assumes nothing.
use mathlib.Core.Path.{◌≡◌, ap, refl, sym, ◌∙◌}
use mathlib.Core.Logic.{◌⊎◌, inl, inr}
use mathlib.Core.Bool.{Bool, ◌||◌, true, false, cond, or_assoc}
use mathlib.Core.List.{List, [], ◌∷◌, ◌++◌, append_assoc, append-nil, map, reverse, reverse-cons, reverse_aux}
use Prim.Native.Nat.{◌+◌, ◌<◌, suc, zero, ℕ}
use native.Mathlib.Nat.{suc-add, zero-add}
use native.Mathlib.Omega.{arith}
use lib.Dec.{eqb}
use lib.ListN.{get_or, length}
use borrow.Author.Tests.{eqb-true}
use Rattle.lists.specs.Tests.{any_in, all_in, keep_if, concat_map, In, elem}
use Rattle.lists.proofs.Bools.{tf, and_l, and_r, and_in, or_cases, or_l, or_r, never_true, same_test, eqb-self}

module _ {A : Type 0} where
  pub any-in : (f : A → Bool) (l : List A) (x : A) → In x l → f x ≡ true → any_in f l ≡ true
  any-in f [] x m e = absurd m
  any-in f (y ∷ l) x (inl p) e = or_l (f y) (any_in f l) (rw p at e)
  any-in f (y ∷ l) x (inr m) e = or_r (f y) (any_in f l) (any-in f l x m e)

  pub any_out : (f : A → Bool) (l : List A) → any_in f l ≡ true → (x : A) × In x l × (f x ≡ true)
  any_out f [] e = tf false e refl
  any_out f (y ∷ l) e = go (or_cases (f y) (any_in f l) e) (any_out f l)
    where
      go : (f y ≡ true) ⊎ (any_in f l ≡ true) → (any_in f l ≡ true → (x : A) × In x l × (f x ≡ true)) → (x : A) × In x (y ∷ l) × (f x ≡ true)
      go (inl p) ih = (y, inl refl, p)
      go (inr p) ih = ((ih p).0, inr (ih p).1, (ih p).2)

  pub any_none : (f : A → Bool) (l : List A) (x : A) → any_in f l ≡ false → In x l → f x ≡ false
  any_none f l x e m = never_true (f x) (λ p. tf (any_in f l) (any-in f l x m p) e)

  pub all-out : (f : A → Bool) (l : List A) (x : A) → all_in f l ≡ true → In x l → f x ≡ true
  all-out f [] x e m = absurd m
  all-out f (y ∷ l) x e (inl p) = rw p (and_l (f y) (all_in f l) e)
  all-out f (y ∷ l) x e (inr m) = all-out f l x (and_r (f y) (all_in f l) e) m

  pub in_left : (l m : List A) (x : A) → In x l → In x (l ++ m)
  in_left [] m x h = absurd h
  in_left (y ∷ l) m x (inl p) = inl p
  in_left (y ∷ l) m x (inr h) = inr (in_left l m x h)

  pub in_right : (l m : List A) (x : A) → In x m → In x (l ++ m)
  in_right [] m x h = h
  in_right (y ∷ l) m x h = inr (in_right l m x h)

  pub in-cases : (l m : List A) (x : A) → In x (l ++ m) → In x l ⊎ In x m
  in-cases [] m x h = inr h
  in-cases (y ∷ l) m x (inl p) = inl (inl p)
  in-cases (y ∷ l) m x (inr h) = go (in-cases l m x h)
    where
      go : In x l ⊎ In x m → In x (y ∷ l) ⊎ In x m
      go (inl q) = inl (inr q)
      go (inr q) = inr q

  -- an element that is kept passes the test and was there
  pub in-keep : (f : A → Bool) (l : List A) (x : A) → In x (keep_if f l) → (f x ≡ true) × In x l
  in-keep f [] x m = absurd m
  in-keep f (y ∷ l) x m = go (f y) refl m (in-keep f l x)
    where
      go : (t : Bool) → f y ≡ t → In x (cond t (y ∷ keep_if f l) (keep_if f l)) → (In x (keep_if f l) → (f x ≡ true) × In x l) → (f x ≡ true) × In x (y ∷ l)
      go true e (inl p) ih = (rw p e, inl p)
      go true e (inr h) ih = ((ih h).0, inr (ih h).1)
      go false e h ih = ((ih h).0, inr (ih h).1)

  -- one that was there and passes is kept
  pub keep-in : (f : A → Bool) (l : List A) (x : A) → f x ≡ true → In x l → In x (keep_if f l)
  keep-in f [] x p m = m
  keep-in f (y ∷ l) x p (inl e) = go (f y) (rw e at p)
    where
      go : (t : Bool) → t ≡ true → In x (cond t (y ∷ keep_if f l) (keep_if f l))
      go true q = inl e
      go false q = tf false q refl
  keep-in f (y ∷ l) x p (inr m) = go (f y) (keep-in f l x p m)
    where
      go : (t : Bool) → In x (keep_if f l) → In x (cond t (y ∷ keep_if f l) (keep_if f l))
      go true h = inr h
      go false h = h

pub elem_in : (c : ℕ) (l : List ℕ) → elem c l ≡ true → In c l
elem_in c [] e = tf false e refl
elem_in c (x ∷ l) e = go (or_cases (eqb c x) (elem c l) e) (elem_in c l)
  where
    go : (eqb c x ≡ true) ⊎ (elem c l ≡ true) → (elem c l ≡ true → In c l) → In c (x ∷ l)
    go (inl p) ih = inl (eqb-true c x p)
    go (inr p) ih = inr (ih p)

pub in-elem : (c : ℕ) (l : List ℕ) → In c l → elem c l ≡ true
in-elem c l m = any-in (eqb c) l c m (eqb-self c)

pub elem-keep : (f : ℕ → Bool) (c : ℕ) (l : List ℕ) → elem c (keep_if f l) ≡ true → (f c ≡ true) × (elem c l ≡ true)
elem-keep f c l e = let h = in-keep f l c (elem_in c (keep_if f l) e) in (h.0, in-elem c l h.1)

pub keep-elem : (f : ℕ → Bool) (c : ℕ) (l : List ℕ) → f c ≡ true → elem c l ≡ true → elem c (keep_if f l) ≡ true
keep-elem f c l p e = in-elem c (keep_if f l) (keep-in f l c p (elem_in c l e))

-- all the members of a list that is not empty have one value
pub any_same : (f : ℕ → Bool) (b : Bool) (l : List ℕ) (c : ℕ) → elem c l ≡ true → ((x : ℕ) → elem x l ≡ true → f x ≡ b) → any_in f l ≡ b
any_same f b l c m h = same_test (any_in f l) b up down
  where
    up : any_in f l ≡ true → b ≡ true
    up e = let t = any_out f l e in sym (h t.0 (in-elem t.0 l t.1)) ∙ t.2

    down : b ≡ true → any_in f l ≡ true
    down e = any-in f l c (elem_in c l m) (h c m ∙ e)

module _ {A : Type 0} where
  pub all_in_lem : (f : A → Bool) (l : List A) → ((x : A) → In x l → f x ≡ true) → all_in f l ≡ true
  all_in_lem f [] h = refl
  all_in_lem f (x ∷ l) h = and_in (f x) (all_in f l) (h x (inl refl)) (all_in_lem f l (λ y m. h y (inr m)))

-- of lists with the same elements all pass a test or none does
pub all_same : (f : ℕ → Bool) (l m : List ℕ) → ((c : ℕ) → elem c l ≡ elem c m) → all_in f l ≡ all_in f m
all_same f l m e = same_test (all_in f l) (all_in f m) (one l m e) (one m l (λ c. sym (e c)))
  where
    one : (l m : List ℕ) → ((c : ℕ) → elem c l ≡ elem c m) → all_in f l ≡ true → all_in f m ≡ true
    one l m e h = all_in_lem f m (λ x i. all-out f l x h (elem_in x l (e x ∙ in-elem x m i)))

module _ {A : Type 0} where
  -- of two lists, one behind the other, the kept elements stand so too
  pub keep_append : (f : A → Bool) (l m : List A) → keep_if f (l ++ m) ≡ keep_if f l ++ keep_if f m
  keep_append f [] m = refl
  keep_append f (x ∷ l) m = go (f x) (keep_append f l m)
    where
      go : (t : Bool) → keep_if f (l ++ m) ≡ keep_if f l ++ keep_if f m → cond t (x ∷ keep_if f (l ++ m)) (keep_if f (l ++ m)) ≡ cond t (x ∷ keep_if f l) (keep_if f l) ++ keep_if f m
      go true e = ap (λ (r : List A). x ∷ r) e
      go false e = e

  -- some element of them passes a test
  pub any_append : (f : A → Bool) (l m : List A) → any_in f (l ++ m) ≡ (any_in f l || any_in f m)
  any_append f [] m = refl
  any_append f (x ∷ l) m = ap (λ (t : Bool). f x || t) (any_append f l m) ∙ sym (or_assoc (f x) (any_in f l) (any_in f m))

  -- an element does not depend on what stands for none
  pub any-default : (l : List A) (i : ℕ) (d e : A) → i < length l → get_or l i d ≡ get_or l i e
  any-default [] i d e h = absurd (omega arith)
  any-default (x ∷ l) zero d e h = refl
  any-default (x ∷ l) (suc i) d e h = any-default l i d e (omega arith)

  -- an element of the second of two lists
  pub get_or-behind : (l m : List A) (i : ℕ) (d : A) → get_or (l ++ m) (length l + i) d ≡ get_or m i d
  get_or-behind [] m i d = ap (λ (k : ℕ). get_or m k d) (zero-add i)
  get_or-behind (x ∷ l) m i d = ap (λ (k : ℕ). get_or (x ∷ (l ++ m)) k d) (suc-add (length l) i) ∙ get_or-behind l m i d

  pub in-reverse : (l : List A) (x : A) → In x (reverse l) → In x l
  in-reverse [] x m = m
  in-reverse (y ∷ l) x m = go (in-cases (reverse l) (y ∷ []) x (rw (reverse-cons y l) at m)) (in-reverse l x)
    where
      go : In x (reverse l) ⊎ In x (y ∷ []) → (In x (reverse l) → In x l) → In x (y ∷ l)
      go (inl h) ih = inr (ih h)
      go (inr (inl e)) ih = inl e
      go (inr (inr e)) ih = absurd e

module _ {A B : Type 0} (f : A → List B) where
  -- an element of the lists that f gives, one behind the other, is in one of them
  pub concat-out : (l : List A) (c : B) → In c (concat_map f l) → (p : A) × In p l × In c (f p)
  concat-out [] c m = absurd m
  concat-out (p ∷ l) c m = go (in-cases (f p) (concat_map f l) c m) (concat-out l c)
    where
      go : In c (f p) ⊎ In c (concat_map f l) → (In c (concat_map f l) → (q : A) × In q l × In c (f q)) → (q : A) × In q (p ∷ l) × In c (f q)
      go (inl i) ih = (p, inl refl, i)
      go (inr i) ih = ((ih i).0, inr (ih i).1, (ih i).2)

  -- and an element of one of them is in all of them together
  pub concat-in : (l : List A) (c : B) (p : A) → In p l → In c (f p) → In c (concat_map f l)
  concat-in [] c p m e = absurd m
  concat-in (q ∷ l) c p (inl i) e = in_left (f q) (concat_map f l) c (rw i at e)
  concat-in (q ∷ l) c p (inr i) e = in_right (f q) (concat_map f l) c (concat-in l c p i e)

  -- of a list with one more element behind it
  pub concat-more : (l : List A) (x : A) → concat_map f (l ++ (x ∷ [])) ≡ concat_map f l ++ f x
  concat-more [] x = append-nil (f x)
  concat-more (y ∷ l) x = ap (λ (r : List B). f y ++ r) (concat-more l x) ∙ sym (append_assoc (f y) (concat_map f l) (f x))

-- the list of what f gives of each element
module _ {A B : Type 0} (f : A → B) where
  pub any-map : (g : B → Bool) (l : List A) → any_in g (map f l) ≡ any_in (λ x. g (f x)) l
  any-map g [] = refl
  any-map g (x ∷ l) = ap (λ (t : Bool). g (f x) || t) (any-map g l)

  pub map-in : (l : List A) (x : A) → In x l → In (f x) (map f l)
  map-in [] x m = absurd m
  map-in (y ∷ l) x (inl p) = inl (ap f p)
  map-in (y ∷ l) x (inr m) = inr (map-in l x m)

  pub in_map : (l : List A) (y : B) → In y (map f l) → (x : A) × In x l × (y ≡ f x)
  in_map [] y m = absurd m
  in_map (x ∷ l) y (inl p) = (x, inl refl, p)
  in_map (x ∷ l) y (inr m) = let z = in_map l y m in (z.0, inr z.1, z.2)

  pub map-reverse : (l : List A) → map f (reverse l) ≡ reverse (map f l)
  map-reverse l = onto l []
    where
      onto : (l m : List A) → map f (reverse_aux l m) ≡ reverse_aux (map f l) (map f m)
      onto [] m = refl
      onto (x ∷ l) m = onto l (x ∷ m)
