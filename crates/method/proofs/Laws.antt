-- What is asked of the parameters: all that the theorem needs to know of them. Of sites only that they are as many as copies, all
-- members and all different. Assumes nothing.
use Prim.Native.Nat.{◌<◌, ◌≤◌, suc, ℕ}
use lib.Dec.{eqb, ltb}
use lib.ListN.{length}
use mathlib.Core.Bool.{Bool, ◌&&◌, ◌||◌, cond, false, not, true}
use mathlib.Core.Option.{Option, none, some}
use mathlib.Core.Path.{◌≡◌}
use Rattle.lists.specs.Tests.{count_below, distinct, elem}
use Rattle.method.specs.Changes.{added_by, started_by}
use Rattle.method.specs.ControlPart.{ControlPart, only_newest}
use Rattle.method.specs.Parameters.{Parameters}
use Rattle.method.specs.Slots.{blank, ended, locked}

module _ (P : Parameters) where
  open P use {Mask, Placement, Setting, Serial, Block, StartArgument, PlaceArgument, cards, transactions, slots}
  open P use {copies, blocks, tran_in_range, rec_in_range, value_in_range, block_of, place_of, has, no_cards}
  open P use {insert, remove, mask, sites, without, usable, starts, start_setting, start_refusal, places}
  open P use {place_refusal, place_limit, numbered, empty, fresh, held, slot, lock_slot, end_slots, Stamp, same_stamp, stamp_of}

  abbrev Control : Type 0
  Control = ControlPart Mask Placement Setting Serial

  pub record Laws : Type 0 where
    -- numbers: 0 is no transaction, and a record is told by its block and its place
    pub tran-some : tran_in_range 0 ≡ false
    pub tran-below : (t : ℕ) → tran_in_range t ≡ true → t < transactions
    pub rec-block : (σ : Setting) (r : ℕ) → rec_in_range σ r ≡ true → ltb (block_of r) (blocks σ) ≡ true
    pub rec-inj : (r q : ℕ) → block_of r ≡ block_of q → place_of r ≡ place_of q → r ≡ q
    pub rec-at : (b p : ℕ) → p < slots → (r : ℕ) × (block_of r ≡ b) × (place_of r ≡ p)
    -- sets of cards
    pub has-card : (m : Mask) (c : ℕ) → has m c ≡ true → c < cards
    pub has-none : (c : ℕ) → has no_cards c ≡ false
    pub has-insert : (m : Mask) (c x : ℕ) → ltb c cards ≡ true → has (insert m c) x ≡ (eqb x c || has m x)
    pub has-remove : (m : Mask) (c x : ℕ) → has (remove m c) x ≡ (has m x && not (eqb x c))
    -- sites: as many as copies, all members, all different
    pub site-count : (σ : Setting) (p : Placement) (b : ℕ) → usable σ p → ltb b (blocks σ) ≡ true → length (sites σ p b) ≡ copies σ
    pub site-member : (σ : Setting) (p : Placement) (b c : ℕ) → usable σ p → ltb b (blocks σ) ≡ true
        → elem c (sites σ p b) ≡ true → has (mask p) c ≡ true
    pub site-distinct : (σ : Setting) (p : Placement) (b : ℕ) → usable σ p → ltb b (blocks σ) ≡ true → distinct (sites σ p b) ≡ true
    -- the placement that follows a failure
    pub has-without : (p : Placement) (c x : ℕ) → has (mask (without p c)) x ≡ (has (mask p) x && not (eqb x c))
    pub usable-without : (σ : Setting) (p : Placement) (c : ℕ) → copies σ ≤ count_below cards (has (mask (without p c))) → usable σ (without p c)
    -- accepted arguments of start and place: a usable placement with members enough, all of them working
    pub start-usable : (a : StartArgument) → start_refusal a ≡ 0 → usable (start_setting a) (starts a)
    pub start-many : (a : StartArgument) → start_refusal a ≡ 0 → copies (start_setting a) ≤ count_below cards (has (mask (starts a)))
    pub start-some : (a : StartArgument) → start_refusal a ≡ 0 → 0 < copies (start_setting a)
    pub place-usable : (k : Control) (a : PlaceArgument) → place_refusal k a ≡ 0 → usable k.setting (places k.newest a)
    pub place-many : (k : Control) (a : PlaceArgument) → place_refusal k a ≡ 0
        → copies k.setting ≤ count_below cards (has (mask (places k.newest a)))
    pub place-works : (k : Control) (a : PlaceArgument) (c : ℕ) → place_refusal k a ≡ 0
        → has (mask (places k.newest a)) c ≡ true → has k.working c ≡ true
    pub limit-some : (σ : Setting) → 0 < place_limit σ
    pub place-room : (k : Control) (a : PlaceArgument) → place_refusal k a ≡ 0 → suc (suc (length k.older)) ≤ place_limit k.setting
    -- serials: what is asked of them holds at a start and stays
    pub numbered-start : (a : StartArgument) → start_refusal a ≡ 0 → numbered (started_by P a)
    pub numbered-same : (j k : Control) → j.older ≡ k.older → j.newest ≡ k.newest → j.serial ≡ k.serial → numbered j → numbered k
    pub numbered-place : (k : Control) (a : PlaceArgument) → place_refusal k a ≡ 0 → numbered k → numbered (added_by P k (places k.newest a))
    pub numbered-fail : (k : Control) (c : ℕ) → has (mask k.newest) c ≡ true → numbered k → numbered (added_by P k (without k.newest c))
    pub numbered-settle : (k : Control) → numbered k → numbered (only_newest k)
    -- stamps: a stamp is the same as itself, and newest placement and serial tell it
    pub same_refl : (m : Stamp) → same_stamp m m ≡ true
    pub stamp-same : (j k : Control) → j.newest ≡ k.newest → j.serial ≡ k.serial → stamp_of j ≡ stamp_of k
    -- blocks: the empty one is not held, a fresh one is held and blank, and a change of slots is seen slot by slot
    pub held-empty : held empty ≡ false
    pub held-fresh : held fresh ≡ true
    pub slot-fresh : (r : ℕ) → slot fresh (place_of r) ≡ blank
    pub held-lock : (x : Block) (p t : ℕ) (v : Option ℕ) → held (lock_slot x p t v) ≡ held x
    pub slot-store : (x : Block) (r t n q : ℕ) → tran_in_range t ≡ true → value_in_range n ≡ true
        → slot (lock_slot x (place_of r) t (some n)) (place_of q)
        ≡ cond (eqb (place_of q) (place_of r)) (locked t (some n) (slot x (place_of r))) (slot x (place_of q))
    pub slot-delete : (x : Block) (r t q : ℕ) → tran_in_range t ≡ true
        → slot (lock_slot x (place_of r) t none) (place_of q)
        ≡ cond (eqb (place_of q) (place_of r)) (locked t none (slot x (place_of r))) (slot x (place_of q))
    pub held-end : (take : Bool) (f : ℕ → Bool) (x : Block) → held (end_slots take f x) ≡ held x
    pub slot-end : (take : Bool) (f : ℕ → Bool) (x : Block) (r : ℕ) → slot (end_slots take f x) (place_of r) ≡ ended take f (slot x (place_of r))
