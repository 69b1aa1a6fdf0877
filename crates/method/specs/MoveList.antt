-- The moves that let settle succeed, for the service tablet (request A.3): the list, and what its call answers.
-- Assumes nothing.
use Rattle.std.specs.Prelude.{◌<◌, ℕ, ltb, length, Bool, ◌&&◌, cond, not, true, List, map, ◌≡◌}
use Rattle.lists.specs.Tests.{any_in, any_below, concat_map, elem, keep_if, numbers_below}
use Rattle.method.specs.Changes.{Control}
use Rattle.method.specs.Parameters.{Parameters}
use Rattle.method.specs.Rules.{Call, View, any_locked, move, newest_sites, settled_by}

-- An entry of the list: the card that a block moves from, and the block.
pub record Entry : Type 0 where
  pub card : ℕ
  pub block : ℕ

abbrev pub entry_at : ℕ → ℕ → Entry
entry_at b c = record { card = c; block = b }

-- What the call answers: the number of moves, 'none', or a refusal.
pub data ListAnswer : Type 0 where
  listed : ℕ → ListAnswer
  no_list : ListAnswer
  not_listed : ℕ → ListAnswer

-- ---- the cards that a block must still move from, of its sites and of the cards that hold it
-- The card holds the block and is none of its sites; the card is the lowest that holds it.
abbrev pub stray_by : List ℕ → (ℕ → Bool) → ℕ → Bool
stray_by sites holds c = holds c && not (elem c sites)

abbrev pub lowest_by : (ℕ → Bool) → ℕ → Bool
lowest_by holds c = holds c && not (any_below c holds)

-- A block that is not settled must move from every card that is none of its sites. Where only sites hold it one of them
-- sends: the lowest.
unfoldable pub origin_by : ℕ → List ℕ → (ℕ → Bool) → ℕ → Bool
origin_by cards sites holds c =
    not (settled_by cards sites holds) && cond (any_below cards (stray_by sites holds)) (stray_by sites holds c) (lowest_by holds c)

module _ (P : Parameters) where
  open P use {cards, blocks, held}

  -- A block that must still move, since settle's condition is not met by it, moves from the card.
  abbrev pub is_origin : Control P → View P → ℕ → ℕ → Bool
  is_origin k v b = origin_by cards (newest_sites P k b) (λ c. held (v c b))

  -- The moves of a block, cards rising.
  unfoldable pub moves_of : Control P → View P → ℕ → List Entry
  moves_of k v b = map (entry_at b) (keep_if (is_origin k v b) (numbers_below cards))

  -- The list: blocks rising and then cards rising.
  unfoldable pub move_list : Control P → View P → List Entry
  move_list k v = concat_map (moves_of k v) (numbers_below (blocks k.setting))

  -- A card that a block would move from has a locked record in that block.
  unfoldable pub any_move_locked : Control P → View P → Bool
  any_move_locked k v = any_in (λ e. any_locked P (v e.card e.block)) (move_list k v)

  -- 'none' where one is locked, whatever the length of the lent list; a lent list shorter than needed is refused 16.
  unfoldable pub list_answer : Control P → View P → ℕ → ListAnswer
  list_answer k v room =
      cond (any_move_locked k v) no_list (
      cond (ltb room (length (move_list k v))) (not_listed 16) (listed (length (move_list k v))))

  -- The call that an entry stands for.
  abbrev pub as_move : Entry → Call P
  as_move e = move e.card e.block

  -- ---- what the statements say of it
  -- Of a block that is not settled, one of the copies that would move has a locked record.
  pub record LockedMove (k : Control P) (v : View P) : Type 0 where
    pub card : ℕ
    pub block : ℕ
    pub is-card : card < cards
    pub is_block : block < blocks k.setting
    pub moves_from : is_origin k v block card ≡ true
    pub locked-there : any_locked P (v card block) ≡ true
