-- The rules of the store, call by call: RULES, "Sites, trail, holders" and "The calls". Assumes nothing.
use Rattle.std.specs.Prelude.{suc, zero, ℕ, eqb, leb, ltb, length, Bool, ◌&&◌, ◌||◌, cond, false, not, true, List, [], ◌∷◌}
use Rattle.std.proofs.Math.Option.{Option, none, some}
use Rattle.lists.specs.Tests.{all_in, all_below, any_in, any_below, concat_map, count_below, count_not, elem, keep_if, sum_below}
use Rattle.method.specs.Changes.{Control, added_by, marked, replaced, started_by}
use Rattle.method.specs.ControlPart.{active, begun_at, closed, halted, is_open, only_newest, opened, with_cards}
use Rattle.method.specs.Parameters.{Parameters}
use Rattle.method.specs.Slots.{Slot, blank, is_none, is_some, locked_by_other, read_by}

-- A row of the refusal table: its number where its condition applies, else what the rows below it say. 0 is accepted.
abbrev pub row : ℕ → Bool → ℕ → ℕ
row n true below = n
row n false below = below

-- A refused call leaves what it found. The number is its refusal.
abbrev pub unless_refused : {A : Type 0} → ℕ → A → A → A
unless_refused zero found changed = changed
unless_refused (suc n) found changed = found

-- A block as a call leaves it: what it writes there, else as found.
abbrev pub updated : {A : Type 0} → Option A → A → A
updated none x = x
updated (some y) x = y

-- The calls. The argument of start is an S, that of place an A.
pub data CallOf (S A : Type 0) : Type 0 where
  start : S → CallOf S A
  -- transaction, home card
  begin : ℕ → ℕ → CallOf S A
  -- transaction, record; store also a value
  get : ℕ → ℕ → CallOf S A
  store : ℕ → ℕ → ℕ → CallOf S A
  delete : ℕ → ℕ → CallOf S A
  -- transaction
  commit : ℕ → CallOf S A
  rollback : ℕ → CallOf S A
  -- card
  fit : ℕ → CallOf S A
  withdraw : ℕ → CallOf S A
  place : A → CallOf S A
  fail : ℕ → CallOf S A
  -- card, block
  move : ℕ → ℕ → CallOf S A
  settle : CallOf S A
  state : CallOf S A
  load : ℕ → CallOf S A

-- Start is the one call that examines nothing of older contents.
abbrev pub is_start : {S A : Type 0} → CallOf S A → Bool
is_start (start m) = true
is_start (begin t h) = false
is_start (get t r) = false
is_start (store t r n) = false
is_start (delete t r) = false
is_start (commit t) = false
is_start (rollback t) = false
is_start (fit c) = false
is_start (withdraw c) = false
is_start (place m) = false
is_start (fail c) = false
is_start (move c b) = false
is_start settle = false
is_start state = false
is_start (load c) = false

-- The answers. A set of cards is an M.
pub data AnswerOf (M : Type 0) : Type 0 where
  ok : AnswerOf M
  value : ℕ → AnswerOf M
  absent : AnswerOf M
  placed : M → AnswerOf M
  unplaced : AnswerOf M
  stops : AnswerOf M
  copied : ℕ → AnswerOf M
  retired : ℕ → AnswerOf M
  protected : AnswerOf M
  unprotected : AnswerOf M
  loaded : ℕ → AnswerOf M
  refused : ℕ → AnswerOf M

-- ---- the sites of a block beside the cards that hold it
-- Card c does not hold the block, or is a site of it and all its sites hold it; every card is so.
abbrev pub card_settled : List ℕ → (ℕ → Bool) → ℕ → Bool
card_settled sites holds c = not (holds c) || (elem c sites && all_in holds sites)

unfoldable pub settled_by : ℕ → List ℕ → (ℕ → Bool) → Bool
settled_by cards sites holds = all_below cards (card_settled sites holds)

module _ (P : Parameters) where
  open P use {Mask, Placement, Setting, Serial, Block, Stamp, StartArgument, PlaceArgument, cards, transactions, slots}
  open P use {copies, blocks, tran_in_range, rec_in_range, value_in_range, block_of, place_of, has, insert, remove}
  open P use {mask, sites, without, start_refusal, places, place_in_range, place_refusal, empty, fresh, held}
  open P use {slot, lock_slot, end_slots, no_stamp, stamp_of, marks_while_stopped}

  abbrev pub Call : Type 0
  Call = CallOf StartArgument PlaceArgument

  abbrev pub Answer : Type 0
  Answer = AnswerOf Mask

  -- The card tables: the block of a card.
  abbrev pub View : Type 0
  View = ℕ → ℕ → Block

  pub record State : Type 0 where
    pub control : Control P
    pub block : View
    pub stamp : ℕ → Stamp

  -- ---- what a call may read
  -- A card that does not work is not read, nor a block above the setting: such a block is as one that is not held.
  abbrev pub visible : Control P → ℕ → ℕ → Bool
  visible k c b = has k.working c && ltb b (blocks k.setting)

  unfoldable pub look : State → View
  look s c b = cond (visible s.control c b) (s.block c b) empty

  -- ---- sites and trail
  abbrev pub newest_sites : Control P → ℕ → List ℕ
  newest_sites k b = sites k.setting k.newest b

  -- The trail of a block: its sites by each active placement, from the oldest to the newest, but no failed card.
  unfoldable pub trail : Control P → ℕ → List ℕ
  trail k b = keep_if (λ c. not (has k.failed c)) (concat_map (λ p. sites k.setting p b) (active k))

  -- The holders: the cards of the trail that hold the block.
  unfoldable pub holders : Control P → View → ℕ → List ℕ
  holders k v b = keep_if (λ c. held (v c b)) (trail k b)

  -- The first holder's slot; with no holder the record is absent.
  abbrev pub first_slot : View → ℕ → List ℕ → Slot
  first_slot v r [] = blank
  first_slot v r (c ∷ l) = slot (v c (block_of r)) (place_of r)

  abbrev pub seen_slot : Control P → View → ℕ → Slot
  seen_slot k v r = first_slot v r (holders k v (block_of r))

  -- ---- conditions that the calls name
  -- The slot of some holder is locked, by a number other than t, open or not.
  abbrev pub locked_out : Control P → View → ℕ → ℕ → Bool
  locked_out k v t r = any_in (λ c. locked_by_other t (slot (v c (block_of r)) (place_of r))) (holders k v (block_of r))

  -- The card is in an active placement.
  abbrev pub in_active : Control P → ℕ → Bool
  in_active k c = any_in (λ p. has (mask p) c) (active k)

  -- The stop rule of a placement with this mask: as many failed members as copies, or fewer working members than
  -- copies.
  unfoldable pub lost_of : Setting → Mask → Mask → Mask → Bool
  lost_of σ working failed m =
      leb (copies σ) (count_below cards (λ c. has m c && has failed c))
      || ltb (count_below cards (λ c. has m c && has working c)) (copies σ)

  abbrev pub lost : Control P → Placement → Bool
  lost k p = lost_of k.setting k.working k.failed (mask p)

  -- With the card marked failed, some active placement is lost.
  unfoldable pub stopping : Control P → ℕ → Bool
  stopping k c = any_in (lost (marked P k c)) (active k)

  -- Some slot of the block is locked.
  unfoldable pub any_locked : Block → Bool
  any_locked x = any_below slots (λ p. not (eqb (slot x p).lock 0))

  -- The block lies on all its newest sites and on no further working card, or no working card holds it.
  abbrev pub settled_at : Control P → View → ℕ → Bool
  settled_at k v b = settled_by cards (newest_sites k b) (λ c. held (v c b))

  unfoldable pub settled : Control P → View → Bool
  settled k v = all_below (blocks k.setting) (settled_at k v)

  -- Protected: there is no working card whose failure would stop the store (request A.2).
  unfoldable pub is_protected : Control P → Bool
  is_protected k = all_below cards (λ c. not (has k.working c && stopping k c))

  -- ---- the refusal table from 3 on: the lowest number that applies, 0 where none does
  -- Row 3: a number is out of range.
  abbrev pub out_of_range : Call → Control P → Bool
  out_of_range (start a) k = false
  out_of_range (begin t h) k = not (tran_in_range t && ltb h cards)
  out_of_range (get t r) k = not (tran_in_range t && rec_in_range k.setting r)
  out_of_range (store t r n) k = not (tran_in_range t && rec_in_range k.setting r && value_in_range n)
  out_of_range (delete t r) k = not (tran_in_range t && rec_in_range k.setting r)
  out_of_range (commit t) k = not (tran_in_range t)
  out_of_range (rollback t) k = not (tran_in_range t)
  out_of_range (fit c) k = not (ltb c cards)
  out_of_range (withdraw c) k = not (ltb c cards)
  out_of_range (place a) k = not (place_in_range a)
  out_of_range (fail c) k = not (ltb c cards)
  out_of_range (move c b) k = not (ltb c cards && ltb b (blocks k.setting))
  out_of_range settle k = false
  out_of_range state k = false
  out_of_range (load c) k = not (ltb c cards)

  -- The rows from 5 on.
  abbrev pub later_rows : Call → Control P → View → ℕ
  later_rows (start a) k v = start_refusal a
  later_rows (begin t h) k v = row 6 (is_open k t) (row 8 (not (has (mask k.newest) h)) 0)
  later_rows (get t r) k v = row 5 (not (is_open k t)) (row 7 (locked_out k v t r) 0)
  later_rows (store t r n) k v = row 5 (not (is_open k t)) (row 7 (locked_out k v t r) 0)
  later_rows (delete t r) k v = row 5 (not (is_open k t)) (row 7 (locked_out k v t r) 0)
  later_rows (commit t) k v = row 5 (not (is_open k t)) 0
  later_rows (rollback t) k v = row 5 (not (is_open k t)) 0
  later_rows (fit c) k v = row 8 (has k.working c || in_active k c) 0
  later_rows (withdraw c) k v =
      row 8 (not (has k.working c) || in_active k c) (row 14 (any_below transactions (begun_at k c)) 0)
  later_rows (place a) k v = place_refusal k a
  later_rows (fail c) k v = row 8 (not (has k.working c)) 0
  later_rows (move c b) k v =
      row 8 (not (has k.working c)) (row 11 (not (held (v c b))) (row 12 (any_locked (v c b)) 0))
  later_rows settle k v = row 13 (not (settled k v)) 0
  later_rows state k v = 0
  later_rows (load c) k v = row 8 (not (has k.working c)) 0

  -- Row 4: a stopped store refuses every call but start, and but fail where it still marks cards.
  abbrev pub is_halted : Call → Control P → Bool
  is_halted (start a) k = false
  is_halted (begin t h) k = k.stopped
  is_halted (get t r) k = k.stopped
  is_halted (store t r n) k = k.stopped
  is_halted (delete t r) k = k.stopped
  is_halted (commit t) k = k.stopped
  is_halted (rollback t) k = k.stopped
  is_halted (fit c) k = k.stopped
  is_halted (withdraw c) k = k.stopped
  is_halted (place a) k = k.stopped
  is_halted (fail c) k = k.stopped && not marks_while_stopped
  is_halted (move c b) k = k.stopped
  is_halted settle k = k.stopped
  is_halted state k = k.stopped
  is_halted (load c) k = k.stopped

  unfoldable pub refusal : Call → Control P → View → ℕ
  refusal c k v = row 3 (out_of_range c k) (row 4 (is_halted c k) (later_rows c k v))

  -- ---- what an accepted call answers and leaves
  -- The answer, the control part after it, and for each card and block what is written there, if anything.
  pub record Plan : Type 0 where
    pub answer : Answer
    pub after : Control P
    pub write : ℕ → ℕ → Option Block
    pub stamps : ℕ → Option Stamp

  -- A plan that writes no block, and one that writes some.
  abbrev pub unwritten : Answer → Control P → Plan
  unwritten a k = record { answer = a; after = k; write = λ c b. none; stamps = λ c. none }

  abbrev pub writing : Answer → Control P → (ℕ → ℕ → Option Block) → Plan
  writing a k w = record { answer = a; after = k; write = w; stamps = λ c. none }

  -- The same plan, and stamps are written.
  abbrev pub stamping : Plan → (ℕ → Option Stamp) → Plan
  stamping p m = record { answer = p.answer; after = p.after; write = p.write; stamps = m }

  -- A new placement's stamp goes to every working card; a card's stamp is zeroed.
  unfoldable pub stamp_all : Control P → ℕ → Option Stamp
  stamp_all k c = cond (has k.working c) (some (stamp_of k)) none

  unfoldable pub clear_stamp : ℕ → ℕ → Option Stamp
  clear_stamp out c = cond (eqb c out) (some no_stamp) none

  -- Every card's stamp after that.
  unfoldable pub stamped : Control P → (ℕ → Stamp) → ℕ → Stamp
  stamped k m c = updated (stamp_all k c) (m c)

  -- get: a value, or absent.
  abbrev pub reply : Option ℕ → Answer
  reply none = absent
  reply (some n) = value n

  -- The slot of each holder gets the lock and the pending state.
  unfoldable pub lock_holders : Control P → View → ℕ → ℕ → Option ℕ → ℕ → ℕ → Option Block
  lock_holders k v t r x c b =
      cond (eqb b (block_of r)) (cond (elem c (holders k v b)) (some (lock_slot (v c b) (place_of r) t x)) none) none

  -- With no holder the block is made at all its newest sites: held, and zero but for this slot.
  unfoldable pub lay_block : Control P → ℕ → ℕ → Option ℕ → ℕ → ℕ → Option Block
  lay_block k t r x c b =
      cond (eqb b (block_of r) && elem c (newest_sites k b)) (some (lock_slot fresh (place_of r) t x)) none

  abbrev pub store_writes : Control P → View → ℕ → ℕ → ℕ → List ℕ → ℕ → ℕ → Option Block
  store_writes k v t r n [] = lay_block k t r (some n)
  store_writes k v t r n (h ∷ l) = lock_holders k v t r (some n)

  -- commit, rollback: wherever a working card holds a block, the slots of the transactions that f picks take or drop
  -- what is pending.
  unfoldable pub end_held : Bool → (ℕ → Bool) → View → ℕ → ℕ → Option Block
  end_held take f v c b = cond (held (v c b)) (some (end_slots take f (v c b))) none

  -- fail: those that f picks are rolled back on the cards that still work.
  unfoldable pub drop_held : (ℕ → Bool) → ℕ → View → ℕ → ℕ → Option Block
  drop_held f out v c b = cond (held (v c b) && not (eqb c out)) (some (end_slots false f (v c b))) none

  -- fit, withdraw: the card's table is zeroed.
  unfoldable pub clear_card : ℕ → ℕ → ℕ → Option Block
  clear_card out c b = cond (eqb c out) (some empty) none

  -- move: a copy goes to the newest sites that lack the block. A site that has one keeps it; an origin that is no site
  -- drops its own.
  unfoldable pub move_writes : Control P → View → ℕ → ℕ → ℕ → ℕ → Option Block
  move_writes k v origin m c b =
      cond (eqb b m) (
      cond (elem c (newest_sites k b))
      (cond (held (v c b)) none (some (v origin b)))
      (cond (eqb c origin) (some empty) none)) none

  -- fail, the store goes on: the new placement's mask, or 'unplaced'.
  abbrev pub fail_answer : Control P → ℕ → Answer
  fail_answer k c = cond (has (mask k.newest) c) (placed (mask (without k.newest c))) unplaced

  -- fail, the store goes on: the whole plan.
  abbrev pub fail_plan : Control P → View → ℕ → Plan
  fail_plan k v c =
      stamping (writing (fail_answer k c) (replaced P k c) (drop_held (begun_at k c) c v))
      (λ x. cond (has (mask k.newest) c) (stamp_all (replaced P k c) x) none)

  -- fail, the store stops: all open transactions are rolled back on the cards that still work.
  abbrev pub stop_plan : Control P → View → ℕ → Plan
  stop_plan k v c = writing stops (halted (marked P k c)) (drop_held (is_open k) c v)

  -- load: how many records are committed present in the card's held blocks.
  abbrev pub committed_in : Block → ℕ
  committed_in x = cond (held x) (count_below slots (λ i. is_some (slot x i).committed)) 0

  unfoldable pub act : Call → Control P → View → Plan
  act (start a) k v =
      stamping (writing ok (started_by P a) (λ c b. some empty)) (λ c. some (stamped (started_by P a) (λ c. no_stamp) c))
  act (begin t h) k v = unwritten ok (opened k t h)
  act (get t r) k v = unwritten (reply (read_by t (seen_slot k v r))) k
  act (store t r n) k v = writing ok k (store_writes k v t r n (holders k v (block_of r)))
  act (delete t r) k v =
      cond (is_none (read_by t (seen_slot k v r))) (unwritten absent k) (writing ok k (lock_holders k v t r none))
  act (commit t) k v = writing ok (closed k (λ x. eqb x t)) (end_held true (λ x. eqb x t) v)
  act (rollback t) k v = writing ok (closed k (λ x. eqb x t)) (end_held false (λ x. eqb x t) v)
  act (fit c) k v =
      stamping (writing ok (with_cards k (insert k.working c) (remove k.failed c)) (clear_card c)) (clear_stamp c)
  act (withdraw c) k v = stamping (writing ok (with_cards k (remove k.working c) k.failed) (clear_card c)) (clear_stamp c)
  act (place a) k v =
      stamping (unwritten ok (added_by P k (places k.newest a))) (stamp_all (added_by P k (places k.newest a)))
  act (fail c) k v = cond k.stopped (unwritten stops (marked P k c)) (cond (stopping k c) (stop_plan k v c) (fail_plan k v c))
  act (move c b) k v = writing (copied (count_not (λ x. held (v x b)) (newest_sites k b))) k (move_writes k v c b)
  act settle k v = unwritten (retired (length k.older)) (only_newest k)
  act state k v = unwritten (cond (is_protected k) protected unprotected) k
  act (load c) k v = unwritten (loaded (sum_below (blocks k.setting) (λ b. committed_in (v c b)))) k

  -- ---- the whole call: refused and nothing changed, or done
  abbrev pub guarded : ℕ → Control P → Plan → Plan
  guarded zero k p = p
  guarded (suc n) k p = unwritten (refused (suc n)) k

  unfoldable pub plan : Call → Control P → View → Plan
  plan c k v = guarded (refusal c k v) k (act c k v)

  unfoldable pub apply : Plan → State → State
  apply p s = record {
    control = p.after;
    block = λ c b. updated (p.write c b) (s.block c b);
    stamp = λ c. updated (p.stamps c) (s.stamp c);
  }

  unfoldable pub answer_of : Call → State → Answer
  answer_of c s = (plan c s.control (look s)).answer

  unfoldable pub next_state : Call → State → State
  next_state c s = apply (plan c s.control (look s)) s
