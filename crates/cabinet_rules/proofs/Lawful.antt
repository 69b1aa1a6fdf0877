-- This cabinet meets the laws that the theorem asks of its parameters. Assumes nothing.
use Prim.Native.Nat.{◌%◌, ◌*◌, ◌+◌, ◌/◌, ◌<◌, ◌≤◌, suc, ℕ}
use borrow.Author.Tests.{leb-false, lt-ltb, ltb-false, ltb-true}
use lib.Dec.{eqb, leb, ltb}
use lib.ListN.{length, length-append, take}
use mathlib.Core.Bool.{Bool, ◌||◌, cond, false, not, true}
use mathlib.Core.List.{[], ◌++◌, ◌∷◌}
use mathlib.Core.Option.{Option, none, some}
use mathlib.Core.Path.{◌∙◌, ◌≡◌, ap, refl, sym}
use native.Mathlib.Omega.{arith}
use Rattle.lists.specs.Tests.{distinct, elem}
use Rattle.lists.proofs.Bools.{and_r, imp-out, nor-l, nor-r, not-not-is}
use Rattle.lists.proofs.Counts.{below_all}
use Rattle.image.specs.Layout.{block_count, card_count, control_size, copy_count, least_members, most_placed, record_count, slot_count, tran_bound, value_bound}
use Rattle.mask.specs.Masks.{Byte, has_card, is_within, size, without_card}
use Rattle.mask.proofs.Masks.{has-card, has-none, has-with, has-without}
use Rattle.mask.specs.Placements.{placed}
use Rattle.mask.proofs.SiteLaws.{placed-sites, placed-usable, site-count, site-distinct, site-member}
use Rattle.slot.specs.Blocks.{BlockBytes, end_slots, fresh_block, lock_slot, slot_at}
use Rattle.slot.specs.Words.{entry_of, freed_slot, locked_slot, slot_of, state_of}
use Rattle.slot.specs.declared.Slot.{Slot as Fields}
use Rattle.slot.proofs.Blocks.{held-empty, held-end, held-fresh, held-lock, slot-end, slot-fresh, slot-lock}
use Rattle.method.specs.Changes.{added_by, started_by}
use Rattle.method.specs.ControlPart.{ControlPart, active, only_newest}
use Rattle.method.specs.Slots.{Slot, blank, ended, freed, locked}
use Rattle.method.proofs.Capacity.{ControlInv}
use Rattle.method.proofs.Invariant.{Form}
use Rattle.method.proofs.Laws.{Laws}
use Rattle.method.proofs.Legal.{Legal}
use Rattle.method.proofs.Refusals.{row-clear}
use Rattle.method.proofs.Stopped.{Rests}
use Rattle.cabinet_rules.specs.Cabinet.{place_rows, rules_of, slot_seen, start_row, tran_ok}
use Rattle.control.specs.ControlBytes.{Setting}
use Rattle.cabinet_rules.specs.Delivery.{Delivery, PartOf}
use Rattle.cabinet_rules.specs.Places.{never_spent, placed_row}
use Rattle.cabinet_rules.specs.Retired.{again_marked, railed}

-- ---- slots, as the rules see them
-- what the rules see of a slot's fields
abbrev seen : Fields → Slot
seen s = record { committed = state_of s.committed; lock = s.lock; pending = state_of s.pending }

seen-cond : (b : Bool) (s r : Fields) → seen (cond b s r) ≡ cond b (seen s) (seen r)
seen-cond true s r = refl
seen-cond false s r = refl

state-entry : (v : Option ℕ) → state_of (entry_of v) ≡ v
state-entry none = refl
state-entry (some n) = refl

seen-locked : (t : ℕ) (v : Option ℕ) (s : Fields) → seen (locked_slot t v s) ≡ locked t v (seen s)
seen-locked t v s = λ i. record { committed = state_of s.committed; lock = t; pending = state-entry v i }

seen-freed : (take : Bool) (s : Fields) → seen (freed_slot take s) ≡ freed take (seen s)
seen-freed true s = λ i. record { committed = state-entry (state_of s.pending) i; lock = 0; pending = none }
seen-freed false s = refl

-- the slot at any place, after a lock
lock-seen : (x : BlockBytes) (r t q : ℕ) (v : Option ℕ) → tran_ok t ≡ true → (entry_of v).value < value_bound
    → slot_seen (lock_slot x (r % slot_count) t v) (q % slot_count)
    ≡ cond (eqb (q % slot_count) (r % slot_count)) (locked t v (slot_seen x (r % slot_count))) (slot_seen x (q % slot_count))
lock-seen x r t q v ht hv =
    ap seen (slot-lock x (r % slot_count) (q % slot_count) t v (omega arith) (omega arith) (tran-lt t ht) hv)
    ∙ seen-cond (eqb (q % slot_count) (r % slot_count)) (locked_slot t v (slot_at x (r % slot_count))) (slot_at x (q % slot_count))
    ∙ ap (λ (s : Slot). cond (eqb (q % slot_count) (r % slot_count)) s (slot_seen x (q % slot_count))) (seen-locked t v (slot_at x (r % slot_count)))
  where
    tran-lt : (t : ℕ) → tran_ok t ≡ true → t < tran_bound
    tran-lt t e = ltb-true t tran_bound (and_r (ltb 0 t) (ltb t tran_bound) e)

end_seen : (take : Bool) (f : ℕ → Bool) (x : BlockBytes) (r : ℕ) → slot_seen (end_slots take f x) (r % slot_count) ≡ ended take f (slot_seen x (r % slot_count))
end_seen take f x r =
    ap seen (slot-end take f x (r % slot_count) (omega arith))
    ∙ seen-cond (f s.lock) (freed_slot take s) s
    ∙ ap (λ (y : Slot). cond (f s.lock) y (seen s)) (seen-freed take s)
  where
    s : Fields
    s = slot_at x (r % slot_count)

fresh-seen : (r : ℕ) → slot_seen fresh_block (r % slot_count) ≡ blank
unfolding slot_of
fresh-seen r = ap seen (slot-fresh (r % slot_count) (omega arith))

-- ---- arguments of start and place
start-members : (m : Byte) → start_row m ≡ 0 → copy_count ≤ size m
unfolding start_row
start-members m e = ltb-false (size m) least_members (row-clear (ltb (size m) least_members) 8 e).0

-- ---- what is asked of a delivery
-- Serials fit the placements after a start, and calls keep this.
pub record NumberLaws (D : Delivery) : Type 0 where
  pub numbered-start : (m : Byte) → start_row m ≡ 0 → D.numbered (started_by (rules_of D) m)
  pub numbered-same : (j k : PartOf D) → j.older ≡ k.older → j.newest ≡ k.newest → j.serial ≡ k.serial → D.numbered j → D.numbered k
  pub numbered-place : (k : PartOf D) (a : D.PlaceArgument) → D.place_refusal k a ≡ 0 → D.numbered k → D.numbered (added_by (rules_of D) k (D.places k.newest a))
  pub numbered-fail : (k : PartOf D) (c : ℕ) → has_card (D.mask k.newest) c ≡ true → D.numbered k
      → D.numbered (added_by (rules_of D) k (D.from_mask (without_card (D.mask k.newest) c)))
  pub numbered-settle : (k : PartOf D) → D.numbered k → D.numbered (only_newest k)

-- A delivery that asks nothing of serials.
pub not-numbered : (D : Delivery) → ((k : PartOf D) → D.numbered k) → NumberLaws D
not-numbered D any = record {
  numbered-start = λ m e. any (started_by (rules_of D) m);
  numbered-same = λ j k o n s h. any k;
  numbered-place = λ k a e h. any (added_by (rules_of D) k (D.places k.newest a));
  numbered-fail = λ k c e h. any (added_by (rules_of D) k (D.from_mask (without_card (D.mask k.newest) c)));
  numbered-settle = λ k h. any (only_newest k);
}

-- Sites are two different members, what start and fail make of a mask has its cards and is usable where they are two, an accepted argument of
-- place gives a usable placement of working cards while there is room, and a slot has room for a value in range. A stamp is that of the newest
-- placement and its serial.
pub record RuleLaws (D : Delivery) : Type 0 where
  pub site-count : (p : D.Placement) (b : ℕ) → D.usable p → b < block_count → length (D.sites p b) ≡ copy_count
  pub site-member : (p : D.Placement) (b c : ℕ) → D.usable p → b < block_count → elem c (D.sites p b) ≡ true → has_card (D.mask p) c ≡ true
  pub site-distinct : (p : D.Placement) (b : ℕ) → D.usable p → b < block_count → distinct (D.sites p b) ≡ true
  pub mask-back : (m : Byte) → D.mask (D.from_mask m) ≡ m
  pub made-usable : (m : Byte) → copy_count ≤ size m → D.usable (D.from_mask m)
  pub place-usable : (k : PartOf D) (a : D.PlaceArgument) → D.place_refusal k a ≡ 0 → D.usable (D.places k.newest a)
  pub place-members : (k : PartOf D) (a : D.PlaceArgument) → D.place_refusal k a ≡ 0 → copy_count ≤ size (D.mask (D.places k.newest a))
  pub place-working : (k : PartOf D) (a : D.PlaceArgument) (c : ℕ) → D.place_refusal k a ≡ 0 → has_card (D.mask (D.places k.newest a)) c ≡ true → has_card k.working c ≡ true
  pub place-few : (k : PartOf D) (a : D.PlaceArgument) → D.place_refusal k a ≡ 0 → suc (suc (length k.older)) ≤ most_placed
  pub value-fits : (n : ℕ) → D.value_in_range n ≡ true → n < value_bound
  pub numbers : NumberLaws D
  pub same_refl : (m : D.memory.Stamp) → D.memory.same_stamp m m ≡ true
  pub stamp-same : (j k : PartOf D) → j.newest ≡ k.newest → j.serial ≡ k.serial → D.memory.stamp_of j ≡ D.memory.stamp_of k

-- There is room for one placement more, and a serial.
pub placed-few : {A S : Type 0} (spent : S → Bool) (k : ControlPart Byte A Setting S) → placed_row spent k ≡ 0 → suc (suc (length k.older)) ≤ most_placed
unfolding placed_row
placed-few spent k e =
    let h : length (k.older ++ (k.newest ∷ [])) < most_placed = leb-false most_placed (length (active k)) (row-clear (leb most_placed (length (active k))) 9 e).0 in
    omega (arith, h, length-append k.older (k.newest ∷ []))

pub placed-serial : {A S : Type 0} (spent : S → Bool) (k : ControlPart Byte A Setting S) → placed_row spent k ≡ 0 → spent k.serial ≡ false
unfolding placed_row
placed-serial spent k e = (row-clear (spent k.serial) 19 (row-clear (leb most_placed (length (active k))) 9 e).1).0

-- An accepted mask of place.
module _ {A S : Type 0} (is_again : A → Byte → Bool) (spent : S → Bool) (k : ControlPart Byte A Setting S) (m : Byte) (e : place_rows is_again spent k m ≡ 0) where
  pub bad : Bool
  bad = not (is_within m k.working) || is_again k.newest m

  pub rows : ((ltb (size m) least_members || bad) ≡ false) × (placed_row spent k ≡ 0)
  unfolding place_rows bad
  rows = row-clear (ltb (size m) least_members || (not (is_within m k.working) || is_again k.newest m)) 8 e

  pub mask-members : copy_count ≤ size m
  mask-members = ltb-false (size m) least_members (nor-l (ltb (size m) least_members) bad rows.0)

  pub mask-working : (c : ℕ) → has_card m c ≡ true → has_card k.working c ≡ true
  unfolding is_within bad
  mask-working c h = imp-out (has_card m c) (has_card k.working c)
      (below_all card_count (λ x. not (has_card m x) || has_card k.working x) c
      (not-not-is (is_within m k.working) (nor-l (not (is_within m k.working)) (is_again k.newest m) (nor-r (ltb (size m) least_members) bad rows.0)))
      (has-card m c h)) h

  pub mask-few : suc (suc (length k.older)) ≤ most_placed
  mask-few = placed-few spent k rows.1

module _ (D : Delivery) (S : RuleLaws D) where
  -- the placement made of a mask with members enough
  made : (m : Byte) → copy_count ≤ size m → copy_count ≤ size (D.mask (D.from_mask m))
  made m h = rw (S.mask-back m) h

  made-has : (m : Byte) (c : ℕ) → has_card (D.mask (D.from_mask m)) c ≡ has_card m c
  made-has m c = ap (λ (x : Byte). has_card x c) (S.mask-back m)

  -- ---- all laws
  pub lawful_by : Laws (rules_of D)
  unfolding size
  lawful_by = record {
    tran-some = refl;
    tran-below = λ t e. ltb-true t tran_bound (and_r (ltb 0 t) (ltb t tran_bound) e);
    rec-block = λ σ r e. let h : r < record_count = ltb-true r record_count e in lt-ltb (r / slot_count) block_count (omega arith);
    rec-inj = λ r q d e. omega arith;
    rec-at = λ b p l. (b * slot_count + p, omega arith, omega arith);
    has-card = has-card;
    has-none = has-none;
    has-insert = has-with;
    has-remove = has-without;
    site-count = λ σ p b u h. S.site-count p b u (ltb-true b block_count h);
    site-member = λ σ p b c u h e. S.site-member p b c u (ltb-true b block_count h) e;
    site-distinct = λ σ p b u h. S.site-distinct p b u (ltb-true b block_count h);
    has-without = λ p c x. made-has (without_card (D.mask p) c) x ∙ has-without (D.mask p) c x;
    usable-without = λ σ p c h. S.made-usable (without_card (D.mask p) c) (rw (S.mask-back (without_card (D.mask p) c)) at h);
    start-usable = λ m e. S.made-usable m (start-members m e);
    start-many = λ m e. made m (start-members m e);
    start-some = λ m e. omega arith;
    place-usable = S.place-usable;
    place-many = S.place-members;
    place-works = S.place-working;
    limit-some = λ σ. omega arith;
    numbered-start = S.numbers.numbered-start;
    numbered-same = S.numbers.numbered-same;
    numbered-place = S.numbers.numbered-place;
    numbered-fail = S.numbers.numbered-fail;
    numbered-settle = S.numbers.numbered-settle;
    same_refl = S.same_refl;
    stamp-same = S.stamp-same;
    place-room = S.place-few;
    held-empty = held-empty;
    held-fresh = held-fresh;
    slot-fresh = fresh-seen;
    held-lock = held-lock;
    slot-store = λ x r t n q ht hn. lock-seen x r t q (some n) ht (S.value-fits n hn);
    slot-delete = λ x r t q ht. lock-seen x r t q none ht (omega arith);
    held-end = held-end;
    slot-end = end_seen;
  }

-- These control bytes, in front and behind the tables, are those that are written of k.
pub record Wrote (D : Delivery) (head tail : ℕ → ℕ) (k : PartOf D) : Type 0 where
  pub front : (n : ℕ) → n < control_size → head n ≡ D.memory.bytes k n
  pub behind : (n : ℕ) → n < D.memory.layout.image_tail → tail n ≡ D.memory.tail k n

-- Control bytes: those written from the control part of a running store, and of a stopped one, show it and have the form.
pub record ControlLaws (D : Delivery) (S : RuleLaws D) : Type 0 where
  pub reads : (k : PartOf D) → Form (rules_of D) k → ControlInv (rules_of D) (lawful_by D S) k → (g t : ℕ → ℕ) → Wrote D g t k → D.memory.part g t ≡ k
  pub formed : (k : PartOf D) → Form (rules_of D) k → ControlInv (rules_of D) (lawful_by D S) k → (g t : ℕ → ℕ) → Wrote D g t k → D.memory.form g t ≡ true
  pub rest_read : (k : PartOf D) → Rests (rules_of D) (lawful_by D S) k → (g t : ℕ → ℕ) → Wrote D g t k → D.memory.part g t ≡ k
  pub rest-formed : (k : PartOf D) → Rests (rules_of D) (lawful_by D S) k → (g t : ℕ → ℕ) → Wrote D g t k → D.memory.form g t ≡ true

-- The bytes behind a card's blocks, as far as they go: those written of a stamp show it.
abbrev pub ShowsStamp : (D : Delivery) → D.memory.Stamp → Type 0
ShowsStamp D m = (e : ℕ → ℕ) → ((j : ℕ) → j < D.memory.layout.table_tail → e j ≡ D.memory.stamp_bytes m j) → D.memory.stamp_in e ≡ m

pub record StampLaws (D : Delivery) (S : RuleLaws D) : Type 0 where
  pub same-stamp : (e d : ℕ → ℕ) → ((j : ℕ) → j < D.memory.layout.table_tail → e j ≡ d j) → D.memory.stamp_in e ≡ D.memory.stamp_in d
  pub none-shown : ShowsStamp D D.memory.no_stamp
  pub stamp-shown : (k : PartOf D) → Legal (rules_of D) (lawful_by D S) k → ShowsStamp D (D.memory.stamp_of k)

-- a delivery that has no stamps
pub no-stamps : (D : Delivery) (S : RuleLaws D) → ((m n : D.memory.Stamp) → m ≡ n) → StampLaws D S
no-stamps D S one = record { same-stamp = λ e d h. one _ _; none-shown = λ e h. one _ _; stamp-shown = λ k l e h. one _ _ }

pub record DeliveryLaws (D : Delivery) : Type 0 where
  pub rules : RuleLaws D
  pub control : ControlLaws D rules
  pub stamps : StampLaws D rules

-- ---- A.1 to A.5, whatever values store takes that a slot has room for
pub railed_rules : (values : ℕ → Bool) → ((n : ℕ) → values n ≡ true → n < value_bound) → RuleLaws (railed values)
railed_rules values fits = record {
  site-count = λ q b u h. ap length (sym (placed-sites q b)) ∙ site-count (placed q) b;
  site-member = λ q b c u h e. site-member (placed q) b c (placed-usable q u) h (ap (elem c) (placed-sites q b) ∙ e);
  site-distinct = λ q b u h. ap distinct (sym (placed-sites q b)) ∙ site-distinct (placed q) b (placed-usable q u) h;
  mask-back = λ m. refl;
  made-usable = λ m h. h;
  place-usable = mask-members again_marked never_spent;
  place-members = mask-members again_marked never_spent;
  place-working = λ k m c e h. mask-working again_marked never_spent k m e c h;
  place-few = mask-few again_marked never_spent;
  value-fits = fits;
  numbers = not-numbered (railed values) (λ k. tt);
  same_refl = λ m. refl;
  stamp-same = λ j k n s. refl;
}
