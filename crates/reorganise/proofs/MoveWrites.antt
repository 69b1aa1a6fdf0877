-- What a move writes on one card: the sites that lack the block and then the origin, each written or left, are the rules' write. Assumes nothing.
use Prim.Native.Nat.{◌+◌, ◌<◌, ◌≤◌, ℕ}
use borrow.Author.Tests.{eqb-true}
use lib.Dec.{eqb}
use lib.ListN.{length}
use mathlib.Core.Bool.{Bool, ◌&&◌, cond, false, not, true}
use mathlib.Core.List.{List, [], ◌∷◌}
use mathlib.Core.Logic.{◌≢◌, ◌⊎◌, inl, inr}
use mathlib.Core.Option.{Option, none, some}
use mathlib.Core.Path.{◌∙◌, ◌≡◌, ap, refl, sym}
use native.Mathlib.Omega.{arith}
use Rattle.lists.specs.Tests.{count_not, elem, keep_if, one_if}
use Rattle.lists.proofs.Bools.{eqb-self, split}
use Rattle.image.specs.Layout.{block_count, block_size, card_count}
use Rattle.image.specs.Parts.{Whole, put_block}
use Rattle.image.proofs.Blocks.{put_other, whole-put}
use Rattle.mask.specs.Masks.{Byte, has_card}
use Rattle.slot.specs.Blocks.{BlockBytes, empty_block, is_held, of_list}
use Rattle.method.specs.Rules.{View, move_writes, newest_sites, updated}
use Rattle.control.specs.ControlBytes.{Part}
use Rattle.cabinet_rules.specs.Cabinet.{cabinet}
use Rattle.cabinet_rules.specs.Images.{Image, Writes, block_in}
use Rattle.promise.specs.Laid.{laid}
use Rattle.promise.proofs.Laid.{laid-put, laid_same, put_one, of-block}
use Rattle.promise.proofs.PutEach.{each, put_each, put_writes}
use Rattle.trail.specs.Trail.{holds_at}

-- a block that may be put
abbrev pub fill_one : Bool → Writes → ℕ → ℕ → BlockBytes → Writes
fill_one has w s b x d e = cond (eqb e b) (cond (eqb d s) (cond has (w d e) (some x)) (w d e)) (w d e)

pub fill-laid : (has : Bool) (w : Writes) (g : Image) (s b : ℕ) → s < card_count → b < block_count → (x : BlockBytes)
    → cond has (laid w g) (put_block (laid w g) s b x.0) ≡ laid (fill_one has w s b x) g
fill-laid true w g s b hs hb x = laid_same w g (fill_one true w s b x) (λ d e hd he. ap (λ (o : Option BlockBytes). updated o (block_in g d e)) (idle (eqb e b) (eqb d s) (w d e)))
  where
    idle : (p q : Bool) (o : Option BlockBytes) → o ≡ cond p (cond q o o) o
    idle true true o = refl
    idle true false o = refl
    idle false q o = refl
fill-laid false w g s b hs hb x = laid-put w g s b hs hb x
    ∙ laid_same (put_one w s b x) g (fill_one false w s b x) (λ d e hd he. ap (λ (o : Option BlockBytes). updated o (block_in g d e)) (swap (eqb e b) (eqb d s) (w d e)))
  where
    swap : (p q : Bool) (o : Option BlockBytes) → cond (q && p) (some x) o ≡ cond p (cond q (some x) o) o
    swap true true o = refl
    swap true false o = refl
    swap false true o = refl
    swap false false o = refl

-- ---- the loop over the sites: those that lack the block get it
abbrev pub lacking : (ℕ → Bool) → List ℕ → List ℕ
lacking f l = keep_if (λ c. not (f c)) l

module _ (f : ℕ → Bool) (b : ℕ) (xs : List ℕ) (image : Image) where
  one-turn : (has : Bool) (x : ℕ) (l : List ℕ) → put_each b xs l (cond has image (put_block image x b xs)) ≡ put_each b xs (cond (not has) (x ∷ l) l) image
  unfolding each
  one-turn true x l = refl
  one-turn false x l = refl

  -- the first of the sites that are left is looked at
  pub fill-turn : (out : Image) (left rest : List ℕ) (c : ℕ) → left ≡ c ∷ rest → (has : Bool) → has ≡ f c
      → out ≡ cond has image (put_block image c b xs) → put_each b xs (lacking f rest) out ≡ put_each b xs (lacking f left) image
  fill-turn out left rest c e has eh eo =
      ap (put_each b xs (lacking f rest)) (eo ∙ ap (λ (t : Bool). cond t image (put_block image c b xs)) eh)
      ∙ one-turn (f c) c (lacking f rest) ∙ sym (ap (λ (l : List ℕ). put_each b xs (lacking f l) image) e)

-- and counts as one where it lacks the block
pub count_turn : (f : ℕ → Bool) (left rest : List ℕ) (c : ℕ) → left ≡ c ∷ rest → (has : Bool) → has ≡ f c
    → (n : ℕ) → n ≡ one_if (not has) → n + count_not f rest ≡ count_not f left
count_turn f left rest c e has eh n en = ap (λ (i : ℕ). i + count_not f rest) (en ∙ ap (λ (t : Bool). one_if (not t)) eh) ∙ sym (ap (count_not f) e)

pub count-le : (f : ℕ → Bool) (l : List ℕ) → count_not f l ≤ length l
count-le f [] = omega arith
count-le f (x ∷ l) = go (not (f x)) (count-le f l)
  where
    go : (t : Bool) → count_not f l ≤ length l → one_if t + count_not f l ≤ length (x ∷ l)
    go true h = omega arith
    go false h = omega arith

-- what another card holds is as it was
pub still-holds : (g : Image) → Whole g → (working : Byte) (b c d : ℕ) → b < block_count → c < card_count → d < card_count → d ≢ c → (xs : List ℕ) → length xs ≡ block_size
    → (has : Bool) → holds_at (cond has g (put_block g c b xs)) working b d ≡ holds_at g working b d
still-holds g w working b c d hb hc hd n xs long true = refl
still-holds g w working b c d hb hc hd n xs long false = unfold holds_at in ap (λ (x : BlockBytes). has_card working d && is_held x)
    (sym (of-block (put_block g c b xs) (whole-put g w c hc b hb xs long) d b hd hb) ∙ ap of_list (put_other g w c hc b hb xs long d hd b hb (inl n)) ∙ of-block g w d b hd hb)

-- ---- what is written on one card, by tests: whether it is a site, holds the block, is the origin; whether the origin is a site
pick : (x y : Option BlockBytes) (site has own stays : Bool) → (own ≡ true → stays ≡ site)
    → cond own (cond stays (cond (site && not has) x none) y) (cond (site && not has) x none) ≡ cond site (cond has none x) (cond own y none)
pick x y true true true stays s = rw (s refl)
pick x y true false true stays s = rw (s refl)
pick x y true true false stays s = refl
pick x y true false false stays s = refl
pick x y false has true stays s = rw (s refl)
pick x y false has false stays s = refl

module _ (g : Image) (k : Part) (v : View cabinet) (c b : ℕ) (seen : v c b ≡ block_in g c b) where
  -- the sites that lack the block, and then the origin
  abbrev pub sites_filled : Writes
  sites_filled = put_writes (λ d e. none) b (block_in g c b) (λ d. elem d (newest_sites cabinet k b) && not (is_held (v d b)))

  abbrev pub all_filled : Writes
  all_filled = fill_one (elem c (newest_sites cabinet k b)) sites_filled c b empty_block

  -- the rules' write
  pub filled_is : (d e : ℕ) → all_filled d e ≡ move_writes cabinet k v c b d e
  unfolding move_writes
  filled_is d e = go (split (eqb e b))
    where
      here : all_filled d b ≡ move_writes cabinet k v c b d b
      here = rw (eqb-self b, seen)
          (pick (some (block_in g c b)) (some empty_block) (elem d (newest_sites cabinet k b)) (is_held (v d b)) (eqb d c) (elem c (newest_sites cabinet k b))
          (λ p. ap (λ (i : ℕ). elem i (newest_sites cabinet k b)) (sym (eqb-true d c p))))

      go : (eqb e b ≡ true) ⊎ (eqb e b ≡ false) → all_filled d e ≡ move_writes cabinet k v c b d e
      go (inl p) = rw (eqb-true e b p) here
      go (inr p) = rw p
