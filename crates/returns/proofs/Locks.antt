-- What the end of every lock on one card leaves is what the rules write there: they read the tables as they are, so a failed card's blocks are those
-- of the image. Assumes nothing.
use Prim.Native.Nat.{◌<◌, ℕ}
use borrow.Author.Tests.{lt-ltb}
use lib.Dec.{eqb}
use mathlib.Core.Bool.{Bool, ◌&&◌, ◌||◌, cond, false, or-false}
use mathlib.Core.Option.{none, some}
use mathlib.Core.Path.{◌∙◌, ◌≡◌, ap, ap₂, sym}
use Rattle.image.specs.Layout.{block_count, card_count}
use Rattle.mask.specs.Masks.{Byte, has_card, no_cards, with_card}
use Rattle.mask.proofs.Masks.{has-none, has-with}
use Rattle.slot.specs.Blocks.{end_slots, in_set, is_held}
use Rattle.method.specs.Returning.{drop_locks, is_lock}
use Rattle.method.specs.Rules.{updated}
use Rattle.cabinet_rules.specs.Cabinet.{cabinet}
use Rattle.cabinet_rules.specs.Images.{Image, block_in, control_in, state_by, state_in}
use Rattle.promise.specs.Laid.{laid}
use Rattle.promise.proofs.Laid.{laid_same}
use Rattle.tables.specs.Tables.{end_writes, set_of}
use Rattle.tables.proofs.Ends.{ends_same}
use Rattle.tables.proofs.Sets.{in-set-of}

module _ (g : Image) (c : ℕ) (hc : c < card_count) where
  alone : (x : ℕ) → has_card (with_card no_cards c) x ≡ eqb x c
  alone x = has-with no_cards c x (lt-ltb c card_count hc) ∙ ap (λ (b : Bool). eqb x c || b) (has-none x) ∙ or-false (eqb x c)

  drops : laid (end_writes (with_card no_cards c) false is_lock g) g ≡ laid (drop_locks cabinet (control_in g) (state_in g).block c) g
  unfolding end_writes drop_locks state_by
  drops = laid_same (end_writes (with_card no_cards c) false is_lock g) g (drop_locks cabinet (control_in g) (state_in g).block c) (λ x b hx hb.
      ap (λ (t : Bool). updated (cond (t && is_held (block_in g x b)) (some (end_slots false is_lock (block_in g x b))) none) (block_in g x b)) (alone x)
      ∙ sym (rw (lt-ltb x card_count hx, lt-ltb b block_count hb)))

  pub drops-every : {m : Byte} {set : ℕ} → m ≡ with_card no_cards c → set ≡ set_of is_lock
      → laid (end_writes m false (in_set set) g) g ≡ laid (drop_locks cabinet (control_in g) (state_in g).block c) g
  drops-every e s = ap₂ (λ (m : Byte) (set : ℕ). laid (end_writes m false (in_set set) g) g) e s
      ∙ ends_same (with_card no_cards c) false (in_set (set_of is_lock)) is_lock (in-set-of is_lock) g ∙ drops
