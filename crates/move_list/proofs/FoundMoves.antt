-- From what the code finds, block by block, to the moves of the rules. Assumes nothing.
use Prim.Native.Nat.{◌+◌, ◌<◌, suc, zero, ℕ}
use lib.ListN.{get_or, length, length-append, length-map}
use mathlib.Core.Bool.{Bool, ◌&&◌, false, true}
use mathlib.Core.List.{List, ◌++◌, map}
use mathlib.Core.Path.{◌∙◌, ◌≡◌, ap, ap₂, fun_ext, refl, sym}
use native.Mathlib.Numerals.{add-one}
use native.Mathlib.Omega.{arith}
use Rattle.lists.specs.Tests.{any_in, any_below, concat_map, keep_if, numbers_below}
use Rattle.std.specs.Prelude.{Some, None}
use Rattle.lists.proofs.Bools.{and_l, and-when}
use Rattle.lists.proofs.Counts.{any_below_lem}
use Rattle.lists.proofs.Lists.{any-map, concat-more}
use Rattle.lists.proofs.Numbers.{any-concat-below, any-keep-below}
use Rattle.image.specs.Layout.{block_count, card_count}
use Rattle.mask.specs.Masks.{AreMembers, byte, has_card, members, size}
use Rattle.mask.specs.Placements.{is_site}
use Rattle.mask.specs.SiteMasks.{MasksBelow}
use Rattle.mask.proofs.Masks.{elem-members, size-members}
use Rattle.slot.specs.Blocks.{some_locked, is_held}
use Rattle.method.specs.MoveList.{Entry, any_move_locked, entry_at, is_origin, move_list, moves_of}
use Rattle.method.proofs.MoveList.{origin-holds}
use Rattle.method.specs.Rules.{any_locked, newest_sites}
use Rattle.control.specs.declared.Control.{Control}
use Rattle.cabinet_rules.specs.Cabinet.{cabinet}
use Rattle.cabinet_rules.specs.Images.{Image, block_in, control_in}
use Rattle.cabinet_rules.specs.MoveLists.{moves_on}
use Rattle.promise.specs.Given.{Given, view_of}
use Rattle.promise.proofs.View.{held-look, look-on}
use Rattle.trail.specs.Trail.{holds_at}
use Rattle.trail.proofs.Holding.{holds-seen}
use Rattle.method.specs.Rules.{settled_by}
use Rattle.method.specs.MoveList.{origin_by}
use Rattle.move_list.specs.Plans.{Finds, moves_at, moves_in}
use Rattle.move_list.proofs.OriginMasks.{same-origins}

-- The cards that block b of an image must move from, and its moves, by the rules.
abbrev pub origin : Image → ℕ → ℕ → Bool
origin g b = is_origin cabinet (control_in g) (view_of g) b

abbrev pub moves_of_block : Image → ℕ → List Entry
moves_of_block g b = moves_of cabinet (control_in g) (view_of g) b

-- ---- one block
module _ (k : Control) (g : Image) (is : Given k g) where
  -- the code's sites and holders are the rules'
  pub origin-is : (b sites : ℕ) → b < block_count → AreMembers sites (is_site (control_in g).newest b)
      → (c : ℕ) → origin_by card_count (members (byte sites)) (holds_at g (byte k.working) b) c ≡ origin g b c
  unfolding origin_by settled_by
  origin-is b sites h s c = ap (λ (f : ℕ → Bool). origin_by card_count (members (byte sites)) f c) (fun_ext (λ x. holds-seen k g is b x h))
      ∙ same-origins (members (byte sites)) (newest_sites cabinet (control_in g) b) (λ x. elem-members (byte sites) x ∙ s x) (λ x. is_held (view_of g x b)) c

module _ (g : Image) (b from : ℕ) (hb : b < block_count) (m : AreMembers from (origin g b)) where
  -- its moves are of the members of the mask
  pub moves-are-members : moves_of_block g b ≡ map (entry_at b) (members (byte from))
  unfolding moves_of members
  moves-are-members = ap (λ (f : ℕ → Bool). map (entry_at b) (keep_if f (numbers_below card_count))) (fun_ext (λ c. sym (m c)))

  pub count-of-block : length (moves_of_block g b) ≡ size (byte from)
  count-of-block = ap length moves-are-members ∙ length-map (members (byte from)) (entry_at b) ∙ size-members (byte from)

  -- one is locked where a member's copy has a locked slot
  pub locked-of-block : any_below card_count (λ c. has_card (byte from) c && some_locked (block_in g c b)) ≡ any_in (λ e. any_locked cabinet (view_of g e.card e.block)) (moves_of_block g b)
  unfolding moves_of some_locked any_locked
  locked-of-block = sym (any-map (entry_at b) (λ (e : Entry). any_locked cabinet (view_of g e.card e.block)) (keep_if (origin g b) (numbers_below card_count))
      ∙ any-keep-below (origin g b) (λ c. any_locked cabinet (view_of g c b)) card_count
      ∙ ap (any_below card_count)
      (fun_ext (λ c. and-when (origin g b c) (any_locked cabinet (view_of g c b)) (some_locked (block_in g c b)) (seen c) ∙ ap (λ (t : Bool). t && some_locked (block_in g c b)) (sym (m c)))))
    where
      seen : (c : ℕ) → origin g b c ≡ true → any_locked cabinet (view_of g c b) ≡ some_locked (block_in g c b)
      seen c e = ap (any_locked cabinet) (look-on g c b (and_l _ _ (sym (held-look g c b hb) ∙ origin-holds cabinet (control_in g) (view_of g) b c e)) hb)

-- ---- all blocks
-- The moves of the first n blocks, and whether one of block b is locked.
unfoldable pub moves_below : Image → ℕ → List Entry
moves_below g n = concat_map (moves_of_block g) (numbers_below n)

unfoldable pub locked_block : Image → ℕ → Bool
locked_block g b = any_in (λ e. any_locked cabinet (view_of g e.card e.block)) (moves_of_block g b)

pub count_none : (g : Image) → 0 ≡ length (moves_below g 0)
unfolding moves_below
count_none g = refl

pub count-more : (g : Image) (b from : ℕ) → b < block_count → AreMembers from (origin g b) → length (moves_below g b) + size (byte from) ≡ length (moves_below g (b + 1))
unfolding moves_below
count-more g b from hb m = sym (ap (λ (n : ℕ). length (concat_map (moves_of_block g) (numbers_below n))) (add-one b)
    ∙ ap length (concat-more (moves_of_block g) (numbers_below b) b) ∙ length-append (concat_map (moves_of_block g) (numbers_below b)) (moves_of_block g b)
    ∙ ap (λ (n : ℕ). length (concat_map (moves_of_block g) (numbers_below b)) + n) (count-of-block g b from hb m))

pub block-locked : (g : Image) (b from : ℕ) → b < block_count → AreMembers from (origin g b)
    → any_below card_count (λ c. has_card (byte from) c && some_locked (block_in g c b)) ≡ locked_block g b
unfolding locked_block
block-locked = locked-of-block

-- some move is locked where one of a block is
any-locked-is : (g : Image) → any_move_locked cabinet (control_in g) (view_of g) ≡ any_below block_count (locked_block g)
unfolding any_move_locked move_list locked_block
any-locked-is g = any-concat-below (moves_of_block g) (λ e. any_locked cabinet (view_of g e.card e.block)) block_count

some-locked : (g : Image) (b : ℕ) → b < block_count → locked_block g b ≡ true → true ≡ any_move_locked cabinet (control_in g) (view_of g)
some-locked g b h e = sym (any-locked-is g ∙ any_below_lem block_count (locked_block g) b h e)

none-locked : (g : Image) (n : ℕ) → n ≡ block_count → any_below n (locked_block g) ≡ false → false ≡ any_move_locked cabinet (control_in g) (view_of g)
none-locked g n e h = sym (any-locked-is g ∙ ap (λ (m : ℕ). any_below m (locked_block g)) (sym e) ∙ h)

-- the masks of all blocks stand for the moves of the image
all-moves : (g : Image) (origins : List ℕ) (n : ℕ) → n ≡ block_count → MasksBelow (origin g) origins n → moves_in origins ≡ moves_on g
unfolding moves_in move_list
all-moves g origins n e below = concat-below block_count (λ b h. sym (moves-are-members g b (get_or origins b 0) h (below b (omega arith))))
  where
    concat-below : (m : ℕ) → ((b : ℕ) → b < m → moves_at origins b ≡ moves_of_block g b) → concat_map (moves_at origins) (numbers_below m) ≡ concat_map (moves_of_block g) (numbers_below m)
    concat-below zero h = refl
    concat-below (suc m) h = concat-more (moves_at origins) (numbers_below m) m ∙ ap₂ ◌++◌ (concat-below m (λ b l. h b (omega arith))) (h m (omega arith))
        ∙ sym (concat-more (moves_of_block g) (numbers_below m) m)

all-counted : (g : Image) (n count : ℕ) → n ≡ block_count → count ≡ length (moves_below g n) → count ≡ length (moves_on g)
unfolding moves_below move_list
all-counted g n count e c = c ∙ ap (λ (m : ℕ). length (concat_map (moves_of_block g) (numbers_below m))) e

-- ---- what is found
pub finds-locked : (g : Image) (b : ℕ) → b < block_count → locked_block g b ≡ true → Finds g None
finds-locked g b h e = record { locked-is = some-locked g b h e; moves-are = tt; count-is = tt }

pub finds-moves : (g : Image) (o : List ℕ) (n count : ℕ) → n ≡ block_count → count ≡ length (moves_below g n) → MasksBelow (origin g) o n
    → any_below n (locked_block g) ≡ false → Finds g (Some (record { count = count; origins = o }))
finds-moves g o n count e c below free = record {
  locked-is = none-locked g n e free;
  moves-are = all-moves g o n e below;
  count-is = all-counted g n count e c;
}
