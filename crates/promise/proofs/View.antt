-- What the rules see of an image that has the control form. Assumes nothing.
use Prim.Native.Nat.{◌<◌, ℕ}
use borrow.Author.Tests.{lt-ltb}
use mathlib.Core.Bool.{Bool, ◌&&◌, cond, false, true}
use mathlib.Core.Logic.{◌⊎◌, inl, inr}
use mathlib.Core.Path.{◌∙◌, ◌≡◌, ap, refl}
use Rattle.lists.proofs.Bools.{split}
use Rattle.image.specs.Layout.{block_count, card_count}
use Rattle.mask.specs.Masks.{has_card}
use Rattle.mask.proofs.Masks.{has-card}
use Rattle.slot.specs.Blocks.{empty_block, is_held}
use Rattle.slot.proofs.Blocks.{held-empty}
use Rattle.method.specs.Rules.{look}
use Rattle.cabinet_rules.specs.Cabinet.{cabinet}
use Rattle.cabinet_rules.specs.Images.{Image, block_in, control_in, state_by, state_in}
-- the laws of the control part
pub use Rattle.cabinet_rules.proofs.FormLaws.{known_member, newest-site-works, newest-usable, not-lost, site-works, usable-active, works-not-failed}

module _ (g : Image) where
  -- ---- the tables: blocks of working cards
  pub look-on : (c b : ℕ) → has_card (control_in g).working c ≡ true → b < block_count → look cabinet (state_in g) c b ≡ block_in g c b
  unfolding look state_by
  look-on c b on h = rw (on, lt-ltb b block_count h, lt-ltb c card_count (has-card (control_in g).working c on))

  pub look-off : (c b : ℕ) → has_card (control_in g).working c ≡ false → look cabinet (state_in g) c b ≡ empty_block
  unfolding look state_by
  look-off c b off = rw off

  pub look_is : (c b : ℕ) → b < block_count → look cabinet (state_in g) c b ≡ cond (has_card (control_in g).working c) (block_in g c b) empty_block
  look_is c b h = go (split (has_card (control_in g).working c))
    where
      go : (has_card (control_in g).working c ≡ true) ⊎ (has_card (control_in g).working c ≡ false)
          → look cabinet (state_in g) c b ≡ cond (has_card (control_in g).working c) (block_in g c b) empty_block
      go (inl e) = look-on c b e h ∙ rw e
      go (inr e) = look-off c b e ∙ rw e

  pub held-look : (c b : ℕ) → b < block_count → is_held (look cabinet (state_in g) c b) ≡ (has_card (control_in g).working c && is_held (block_in g c b))
  held-look c b h = ap is_held (look_is c b h) ∙ go (has_card (control_in g).working c)
    where
      go : (t : Bool) → is_held (cond t (block_in g c b) empty_block) ≡ (t && is_held (block_in g c b))
      go true = refl
      go false = held-empty
