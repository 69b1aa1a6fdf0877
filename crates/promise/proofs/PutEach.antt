-- What is done to each card of a list in turn, as by a loop over the members of a mask; and of it one block put on each card: card by card it is the write of
-- the rules. Assumes nothing.
use Prim.Native.Nat.{◌<◌, ℕ}
use lib.Dec.{eqb}
use mathlib.Core.Bool.{Bool, ◌&&◌, ◌||◌, and-false, cond, false, true}
use mathlib.Core.List.{List, [], ◌∷◌}
use mathlib.Core.Option.{Option, none, some}
use mathlib.Core.Path.{◌∙◌, ◌≡◌, ap, refl, sym}
use Rattle.lists.specs.Tests.{elem}
use Rattle.lists.proofs.Bools.{eqb-self, or_l, or_r}
use Rattle.image.specs.Layout.{block_count, card_count}
use Rattle.image.specs.Parts.{Whole, put_block}
use Rattle.slot.specs.Blocks.{BlockBytes}
use Rattle.method.specs.Rules.{updated}
use Rattle.cabinet_rules.specs.Images.{Image, Writes, block_in}
use Rattle.promise.specs.Laid.{laid}
use Rattle.promise.proofs.Laid.{laid_none, laid-put, laid_same, put_one}

-- ---- the loop: what f does at one card is done at each of a list
unfoldable pub each : (ℕ → Image → Image) → List ℕ → Image → Image
each f [] g = g
each f (c ∷ l) g = each f l (f c g)

module _ (f : ℕ → Image → Image) (image : Image) where
  -- the first of the cards that are left is taken
  pub each-turn : (out : Image) (left rest : List ℕ) (c : ℕ) → left ≡ c ∷ rest → out ≡ f c image → each f rest out ≡ each f left image
  unfolding each
  each-turn out left rest c e eo = ap (each f rest) eo ∙ sym (ap (λ (l : List ℕ). each f l image) e)

  -- none is left
  pub each-end : (left : List ℕ) → left ≡ [] → each f left image ≡ image
  unfolding each
  each-end left e = ap (λ (l : List ℕ). each f l image) e

-- one block is put on each
abbrev pub put_each : ℕ → List ℕ → List ℕ → Image → Image
put_each b xs = each (λ c g. put_block g c b xs)

-- ---- what is written: the block on the cards that f picks
abbrev pub put_writes : Writes → ℕ → BlockBytes → (ℕ → Bool) → Writes
put_writes w b x f d e = cond (eqb e b && f d) (some x) (w d e)

put-list : (g : Image) (b : ℕ) → b < block_count → (x : BlockBytes) (l : List ℕ) → ((c : ℕ) → elem c l ≡ true → c < card_count) → (w : Writes)
    → put_each b x.0 l (laid w g) ≡ laid (put_writes w b x (λ c. elem c l)) g
unfolding each
put-list g b hb x [] cards w = laid_same w g (put_writes w b x (λ c. false)) (λ d e hd he. ap (λ (t : Bool). updated (cond t (some x) (w d e)) (block_in g d e)) (sym (and-false (eqb e b))))
put-list g b hb x (c ∷ l) cards w = ap (put_each b x.0 l) (laid-put w g c b (cards c (or_l (eqb c c) (elem c l) (eqb-self c))) hb x)
    ∙ put-list g b hb x l (λ d h. cards d (or_r (eqb d c) (elem d l) h)) (put_one w c b x)
    ∙ laid_same (put_writes (put_one w c b x) b x (λ d. elem d l)) g (put_writes w b x (λ d. elem d (c ∷ l)))
    (λ d e hd he. ap (λ (o : Option BlockBytes). updated o (block_in g d e)) (join (eqb e b) (eqb d c) (elem d l) (w d e)))
  where
    join : (p q r : Bool) (o : Option BlockBytes) → cond (p && r) (some x) (cond (q && p) (some x) o) ≡ cond (p && (q || r)) (some x) o
    join true true true o = refl
    join true true false o = refl
    join true false r o = refl
    join false true r o = refl
    join false false r o = refl

-- the cards of a list
pub put-cards : (g : Image) → Whole g → (b : ℕ) → b < block_count → (x : BlockBytes) (l : List ℕ) → ((c : ℕ) → elem c l ≡ true → c < card_count)
    → (f : ℕ → Bool) → ((c : ℕ) → elem c l ≡ f c) → put_each b x.0 l g ≡ laid (put_writes (λ d e. none) b x f) g
put-cards g w b hb x l cards f are = ap (put_each b x.0 l) (laid_none (λ d e. none) g w (λ d e hd he. refl))
    ∙ put-list g b hb x l cards (λ d e. none)
    ∙ laid_same (put_writes (λ d e. none) b x (λ c. elem c l)) g (put_writes (λ d e. none) b x f)
    (λ d e hd he. ap (λ (t : Bool). updated (cond (eqb e b && t) (some x) none) (block_in g d e)) (are d))
