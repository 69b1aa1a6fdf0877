-- The loop that ends the slots of a block one by one. Assumes nothing.
use mathlib.Core.Path.{◌≡◌, refl, sym, ap, ◌∙◌}
use mathlib.Core.Bool.{Bool, true, false, cond}
use mathlib.Core.List.{List}
use Prim.Native.Nat.{ℕ, zero, suc, ◌+◌, ◌-◌, ◌≤◌, ◌<◌}
use native.Mathlib.Omega.{arith}
use lib.Dec.{ltb}
use lib.ListN.{length}
use borrow.Author.Tests.{lt-ltb, le-ltb, le-leb, lt-leb}
use Rattle.lists.proofs.Cases.{by_place}
use Rattle.image.specs.Layout.{block_size, slot_count, slot_size, slot_start}
use Rattle.slot.specs.declared.Slot.{Slot}
use Rattle.slot.specs.Words.{slot_of, word_of, freed_slot}
use Rattle.slot.specs.Blocks.{BlockBytes, any_picked, byte_in, block_of_bytes, is_held, of_list, byte_of, slot_at, put_slot, ended_byte, end_slots, ended_block, ended_slot}
use Rattle.slot.proofs.Blocks.{block-ext, byte-in, end_none, of-list, word_same, in_slot, put-at, ended_at}
use Rattle.slot.proofs.Steps.{list_ext, byte-of-list}

module _ (take : Bool) (f : ℕ → Bool) (x : BlockBytes) where
  -- The slots below i have ended.
  unfoldable pub up_to : ℕ → BlockBytes
  up_to i = block_of_bytes (λ j. cond (ltb j (slot_start i)) (ended_byte take f x j) (byte_in x j))

  up_at : (i j : ℕ) → j < block_size → byte_in (up_to i) j ≡ cond (ltb j (slot_start i)) (ended_byte take f x j) (byte_in x j)
  unfolding up_to
  up_at i j h = byte-in _ j h

  -- A byte before slot i, and one from slot i on.
  up_done : (i j : ℕ) → j < block_size → j < slot_start i → byte_in (up_to i) j ≡ ended_byte take f x j
  up_done i j h k = up_at i j h ∙ rw (lt-ltb j (slot_start i) k)

  up-later : (i j : ℕ) → j < block_size → slot_start i ≤ j → byte_in (up_to i) j ≡ byte_in x j
  up-later i j h k = up_at i j h ∙ rw (le-ltb j (slot_start i) k)

  none_yet : up_to 0 ≡ x
  unfolding ended_byte
  none_yet = block-ext (up_to 0) x go
    where
      go : (j : ℕ) → j < block_size → byte_in (up_to 0) j ≡ byte_in x j
      go zero h = up_done 0 0 h (omega arith)
      go (suc j) h = up-later 0 (suc j) h (omega arith)

  pub all_done : up_to slot_count ≡ end_slots take f x
  unfolding end_slots
  all_done = block-ext (up_to slot_count) (end_slots take f x) (λ j h. up_done slot_count j h (omega arith) ∙ sym (byte-in (ended_byte take f x) j h))

  -- One turn: slot i ends, or stays.
  module _ (i : ℕ) (hi : i < slot_count) where
    slot-now : slot_at (up_to i) i ≡ slot_at x i
    slot-now = ap slot_of (word_same (up_to i) x i (λ k l. up-later i (slot_start i + k) (omega arith) (omega arith)))

    here : (j : ℕ) → j < block_size → slot_start i ≤ j → j < slot_start i + slot_size
        → byte_in (up_to (i + 1)) j ≡ cond (f (slot_at x i).lock) (byte_of (word_of (freed_slot take (slot_at x i))) (j - slot_start i)) (byte_in x j)
    here j h p q = up_done (i + 1) j h (omega arith) ∙ ended_at take f x i j p q

    turn-kept : f (slot_at x i).lock ≡ false → up_to i ≡ up_to (i + 1)
    turn-kept off = block-ext (up_to i) (up_to (i + 1)) (λ j h. by_place (byte_in (up_to i) j ≡ byte_in (up_to (i + 1)) j) j (slot_start i) slot_size
        (λ p. up_done i j h p ∙ sym (up_done (i + 1) j h (omega arith)))
        (λ p q. up-later i j h p ∙ sym (here j h p q ∙ rw off))
        (λ p. up-later i j h (omega arith) ∙ sym (up-later (i + 1) j h (omega arith))))

    turn-ended : f (slot_at x i).lock ≡ true → put_slot (up_to i) i (freed_slot take (slot_at x i)) ≡ up_to (i + 1)
    turn-ended on = block-ext (put_slot (up_to i) i s) (up_to (i + 1)) (λ j h. put-at (up_to i) i s j h ∙ by_place (goal j) j (slot_start i) slot_size
        (λ p. rw (lt-leb (slot_start i) j p) (up_done i j h p ∙ sym (up_done (i + 1) j h (omega arith))))
        (λ p q. rw (le-leb (slot_start i) j p, lt-ltb j (slot_start i + slot_size) q) (sym (here j h p q ∙ rw on)))
        (λ p. rw (le-leb (slot_start i) j (omega arith), le-ltb j (slot_start i + slot_size) p) (up-later i j h (omega arith) ∙ sym (up-later (i + 1) j h (omega arith)))))
      where
        s : Slot
        s = freed_slot take (slot_at x i)

        goal : ℕ → Type 0
        goal j = cond (in_slot i j) (byte_of (word_of s) (j - slot_start i)) (byte_in (up_to i) j) ≡ byte_in (up_to (i + 1)) j

    pub turn : (l : List ℕ) → l ≡ (up_to i).0 → ended_slot take f i l ≡ (up_to (i + 1)).0
    turn l e =
        ap (ended_slot take f i) e
        ∙ ap (λ (b : BlockBytes). cond (f (slot_at b i).lock) (put_slot b i (freed_slot take (slot_at b i))).0 (up_to i).0) (of-list (up_to i))
        ∙ ap (λ (s : Slot). cond (f s.lock) (put_slot (up_to i) i (freed_slot take s)).0 (up_to i).0) slot-now
        ∙ go (f (slot_at x i).lock) refl
      where
        go : (t : Bool) → f (slot_at x i).lock ≡ t → cond t (put_slot (up_to i) i (freed_slot take (slot_at x i))).0 (up_to i).0 ≡ (up_to (i + 1)).0
        go true p = ap (λ (b : BlockBytes). b.0) (turn-ended p)
        go false p = ap (λ (b : BlockBytes). b.0) (turn-kept p)

-- Before the first turn.
pub start : (take : Bool) (f : ℕ → Bool) (l : List ℕ) → length l ≡ block_size → l ≡ (up_to take f (of_list l) 0).0
start take f l n =
    list_ext l (of_list l).0 n (of_list l).1 (λ j h. sym (byte-of-list l j h)) ∙ ap (λ (b : BlockBytes). b.0) (sym (none_yet take f (of_list l)))

-- ---- a whole block: it is held, or not; or it is held and none of them locks a slot

pub length-ended : (take : Bool) (f : ℕ → Bool) (l : List ℕ) → length l ≡ block_size → length (ended_block take f l) ≡ block_size
unfolding ended_block
length-ended take f l n = go (is_held (of_list l))
  where
    go : (h : Bool) → length (cond h (end_slots take f (of_list l)).0 l) ≡ block_size
    go true = (end_slots take f (of_list l)).1
    go false = n

module _ (take : Bool) (f : ℕ → Bool) (l : List ℕ) where
  pub ended_held : is_held (of_list l) ≡ true → (end_slots take f (of_list l)).0 ≡ ended_block take f l
  unfolding ended_block
  ended_held h = rw h

  pub ended-bare : is_held (of_list l) ≡ false → l ≡ ended_block take f l
  unfolding ended_block
  ended-bare h = rw h

  pub ended-idle : length l ≡ block_size → any_picked f (of_list l) ≡ false → l ≡ ended_block take f l
  unfolding ended_block
  ended-idle n p = go (is_held (of_list l))
    where
      same : l ≡ (end_slots take f (of_list l)).0
      same = sym (ap (λ (b : BlockBytes). b.0) (end_none take f (of_list l) p ∙ of-list (l, n)))

      go : (h : Bool) → l ≡ cond h (end_slots take f (of_list l)).0 l
      go true = same
      go false = refl
