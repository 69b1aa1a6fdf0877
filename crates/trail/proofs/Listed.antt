-- What the code keeps of a list of holders, as cards are added at its end: the first stays the first, and the mask has
-- one card more. Assumes nothing.
use Prim.Native.Nat.{◌+◌, ◌<◌, ℕ}
use borrow.Author.Tests.{lt-ltb}
use lib.Dec.{eqb}
use lib.ListN.{get_or, length, take}
use lib.Seq.{take-suc}
use mathlib.Core.Bool.{Bool, ◌||◌, false, true}
use mathlib.Core.List.{List, [], ◌++◌, ◌∷◌, append_assoc, append-nil}
use mathlib.Core.Logic.{◌≢◌}
use mathlib.Core.Path.{◌∙◌, ◌≡◌, ap, refl, subst, sym}
use native.Mathlib.Numerals.{add-one}
use Rattle.lists.specs.Tests.{elem, keep_if}
use Rattle.lists.proofs.Bools.{eqb-self, or_l, tf}
use Rattle.lists.proofs.Lists.{any_append, keep_append}
use Rattle.image.specs.Layout.{card_count}
use Rattle.mask.specs.Masks.{Byte, byte, has_card, with_card}
use Rattle.mask.proofs.Masks.{has-card, has-none, has-with}
use Rattle.mask.proofs.MaskSites.{some-card}
use Rattle.trail.specs.declared.Holders.{Holders}
use Rattle.trail.specs.Trail.{Adds, Lists, first_in}
use Rattle.std.specs.Prelude.{None, Some, unwrap_or}
use Rattle.image.specs.declared.Card.{Card}

-- ---- no holder, and some
head_in : (x : ℕ) (l : List ℕ) → elem x (x ∷ l) ≡ true
head_in x l = or_l (eqb x x) (elem x l) (eqb-self x)

pub list-none : (h : Holders) → h.cards ≡ 0 → h.first ≡ None → Lists h []
list-none h z f = record { cards-are = λ c. ap (λ (n : ℕ). has_card (byte n) c) z ∙ has-none c; first-is = f }

-- With no first the list is empty.
pub no-first : (l : List ℕ) → None ≡ first_in l → l ≡ []
no-first [] e = refl
no-first (x ∷ l) e = cc

module _ {h : Holders} where
  -- the mask 0 is of no holder
  pub none-listed : {l : List ℕ} → Lists h l → h.cards ≡ 0 → l ≡ []
  none-listed {l = []} lists z = refl
  none-listed {l = x ∷ l} lists z = tf (elem x (x ∷ l)) (head_in x l) (sym (lists.cards-are x) ∙ ap (λ (n : ℕ). has_card (byte n) x) z ∙ has-none x)

  -- and no other one is
  pub some-listed : {l : List ℕ} → Lists h l → h.cards < 256 → h.cards ≢ 0 → l ≢ []
  some-listed lists small d e =
      let some = some-card h.cards small d in
      tf (has_card (byte h.cards) some.0) some.1 (lists.cards-are some.0 ∙ ap (elem some.0) e)

  -- the first is a card
  pub first-card : {l : List ℕ} → Lists h l → (c : Card) → h.first ≡ Some c → c.0 < card_count
  first-card {l = []} lists c e = cc (lists.first-is, e)
  first-card {l = x ∷ l} lists c e =
      let same : x ≡ c.0 = cc (lists.first-is, e) in
      rw (sym same) (has-card (byte h.cards) x (lists.cards-are x ∙ head_in x l))

  -- ---- the first, once card c is added
  first-now : (c : Card) → (l : List ℕ) → Lists h l → Some (unwrap_or h.first c) ≡ first_in (l ++ (c.0 ∷ []))
  first-now c [] lists = rw lists.first-is refl
  first-now c (x ∷ l) lists = rw lists.first-is refl

  -- ---- one card
  pub push-yes : (f : ℕ → Bool) (c : Card) (r : Holders) → c.0 < card_count → f c.0 ≡ true → r.first ≡ Some (unwrap_or h.first c)
      → byte r.cards ≡ with_card (byte h.cards) c.0 → Adds h f (c.0 ∷ []) r
  push-yes f c r hc on first e l lists = rw on (record { cards-are = cards; first-is = first ∙ first-now c l lists })
    where
      swap : (a b : Bool) → (a || b) ≡ (b || (a || false))
      swap true true = refl
      swap true false = refl
      swap false true = refl
      swap false false = refl

      cards : (x : ℕ) → has_card (byte r.cards) x ≡ elem x (l ++ (c.0 ∷ []))
      cards x = ap (λ (b : Byte). has_card b x) e ∙ has-with (byte h.cards) c.0 x (lt-ltb c.0 card_count hc)
          ∙ ap (λ (t : Bool). eqb x c.0 || t) (lists.cards-are x) ∙ swap (eqb x c.0) (elem x l) ∙ sym (any_append (eqb x) l (c.0 ∷ []))

  pub push-no : (f : ℕ → Bool) (c : ℕ) → f c ≡ false → Adds h f (c ∷ []) h
  push-no f c off l lists = rw off (subst (Lists h) (sym (append-nil l)) lists)

-- ---- the cards of a list, one after the other
pub add_none : (f : ℕ → Bool) (h : Holders) → Adds h f [] h
add_none f h l lists = subst (Lists h) (sym (append-nil l)) lists

pub add-more : (f : ℕ → Bool) (s : List ℕ) (i c : ℕ) → i < length s → c ≡ get_or s i 0 → (h m r : Holders) → Adds h f (take i s) m → Adds m f (c ∷ []) r → Adds h f (take (i + 1) s) r
add-more f s i c long is h m r before one l lists = subst (Lists r)
    (append_assoc l (keep_if f (take i s)) (keep_if f (c ∷ []))
    ∙ ap (λ (z : List ℕ). l ++ z) (sym (keep_append f (take i s) (c ∷ [])) ∙ ap (keep_if f) taken))
    (one (l ++ keep_if f (take i s)) (before l lists))
  where
    taken : take i s ++ (c ∷ []) ≡ take (i + 1) s
    taken = ap (λ (x : ℕ). take i s ++ (x ∷ [])) is ∙ sym (take-suc s i 0 long) ∙ ap (λ (n : ℕ). take n s) (sym (add-one i))
