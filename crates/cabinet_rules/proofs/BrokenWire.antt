-- Store refuses 65,535, and nothing else differs from the delivery before: the proof. Assumes nothing.
use Prim.Native.Nat.{suc, zero, ℕ}
use borrow.Author.Tests.{le-ltb, lt-ltb, ltb-false, ltb-true}
use lib.Dec.{eqb, ltb}
use lib.ListN.{length}
use mathlib.Core.Bool.{Bool, ◌&&◌, cond, false, not, true}
use mathlib.Core.Logic.{◌≢◌, ◌⊎◌, inl, inr}
use mathlib.Core.Path.{◌∙◌, ◌≡◌, ap, ap₂, refl, sym}
use native.Mathlib.Omega.{arith}
use Rattle.lists.proofs.Bools.{split}
use Rattle.image.specs.Layout.{image_size_of, record_count, value_bound}
use Rattle.method.specs.Rules.{settled_by}
use Rattle.method.specs.ControlPart.{is_open}
use Rattle.method.specs.Parameters.{Parameters}
use Rattle.method.specs.PlainList.{or_refused}
use Rattle.method.specs.Rules.{is_start, Answer, Call, Plan, View, act, any_locked, begin, clear_card, commit, delete, drop_held, end_held}
use Rattle.method.specs.Rules.{fail, fit, get, holders, is_protected, lay_block, load, lock_holders, locked_out, look, lost_of}
use Rattle.method.specs.Rules.{clear_stamp, stamp_all, stamped}
use Rattle.method.specs.Rules.{move, move_writes, place, refusal, refused, rollback, row, seen_slot, settle, settled}
use Rattle.method.specs.Rules.{start, state, stopping, store, trail, withdraw, unless_refused}
use Rattle.method.specs.Slots.{is_none, read_by}
use Rattle.control_form.specs.ControlForm.{form_rows_of}
use Rattle.cabinet_rules.specs.BrokenWire.{BrokenWireRefused, ElseAsBefore, RefusesBrokenWire}
use Rattle.cabinet_rules.specs.Cabinet.{place_rows, rules_of, tran_ok}
use Rattle.cabinet_rules.specs.Delivery.{Delivery, PartOf, broken_wire, current, storable}
use Rattle.cabinet_rules.specs.Places.{placed_row}
use Rattle.cabinet_rules.specs.Retired.{any_value, below_wire, two_rails}
use Rattle.cabinet_rules.specs.Images.{Image, answer_by, control_by, next_by, plan_by, refusal_by, state_by}
use Rattle.cabinet_rules.specs.Images.{after_plan, form_by}

-- The rules of A.5, and of the delivery before.
abbrev since : Parameters
since = rules_of below_wire

abbrev before : Parameters
before = rules_of two_rails

-- ---- values: the two ranges differ at 65,535 alone
same-value : (n : ℕ) → n ≢ broken_wire → storable n ≡ any_value n
same-value n d = go (split (storable n))
  where
    go : (storable n ≡ true) ⊎ (storable n ≡ false) → storable n ≡ any_value n
    go (inl e) = let h = ltb-true n broken_wire e in e ∙ sym (lt-ltb n value_bound (omega arith))
    go (inr e) = let h = ltb-false n broken_wire e in e ∙ sym (le-ltb n value_bound (omega arith))

-- ---- the rows from 3 on
same_rows : (c : Call since) → ((t r : ℕ) → c ≢ store t r broken_wire) → (k : PartOf below_wire) (v : View since) → refusal since c k v ≡ refusal before c k v
unfolding refusal place_rows placed_row trail holders settled settled_by any_locked
same_rows (start m) d k v = refl
same_rows (begin t home) d k v = refl
same_rows (get t r) d k v = refl
same_rows (store t r n) d k v = ap (λ (b : Bool). row 3 (not (tran_ok t && ltb r record_count && b)) (row 4 k.stopped (row 5 (not (is_open k t)) (row 7 (locked_out since k v t r) 0))))
    (same-value n (λ e. d t r (ap (store t r) e)))
same_rows (delete t r) d k v = refl
same_rows (commit t) d k v = refl
same_rows (rollback t) d k v = refl
same_rows (fit c) d k v = refl
same_rows (withdraw c) d k v = refl
same_rows (place m) d k v = refl
same_rows (fail c) d k v = refl
same_rows (move c b) d k v = refl
same_rows settle d k v = refl
same_rows state d k v = refl
same_rows (load c) d k v = refl

-- ---- what an accepted call answers and writes
abbrev SamePlan : Plan since → Plan before → Type 0
SamePlan p q = (p.answer ≡ q.answer) × (p.after ≡ q.after) × (p.write ≡ q.write) × (p.stamps ≡ q.stamps)

same-either : (b : Bool) (p p' : Plan since) (q q' : Plan before) → SamePlan p q → SamePlan p' q' → SamePlan (cond b p p') (cond b q q')
same-either true p p' q q' h h' = h
same-either false p p' q q' h h' = h'

same-plan : (c : Call since) (k : PartOf below_wire) (v : View since) → SamePlan (act since c k v) (act before c k v)
unfolding act trail holders lost_of stopping settled settled_by is_protected lock_holders lay_block end_held drop_held clear_card move_writes stamp_all clear_stamp stamped
same-plan (start m) k v = (refl, refl, refl, refl)
same-plan (begin t home) k v = (refl, refl, refl, refl)
same-plan (get t r) k v = (refl, refl, refl, refl)
same-plan (store t r n) k v = (refl, refl, refl, refl)
same-plan (delete t r) k v = same-either (is_none (read_by t (seen_slot since k v r))) _ _ _ _ (refl, refl, refl, refl) (refl, refl, refl, refl)
same-plan (commit t) k v = (refl, refl, refl, refl)
same-plan (rollback t) k v = (refl, refl, refl, refl)
same-plan (fit c) k v = (refl, refl, refl, refl)
same-plan (withdraw c) k v = (refl, refl, refl, refl)
same-plan (place m) k v = (refl, refl, refl, refl)
same-plan (fail c) k v = same-either k.stopped _ _ _ _ (refl, refl, refl, refl)
    (same-either (stopping since k c) _ _ _ _ (refl, refl, refl, refl) (refl, refl, refl, refl))
same-plan (move c b) k v = (refl, refl, refl, refl)
same-plan settle k v = (refl, refl, refl, refl)
same-plan state k v = (refl, refl, refl, refl)
same-plan (load c) k v = (refl, refl, refl, refl)

-- ---- on images
same-refused : (n : ℕ) (a : Answer since) → or_refused since n a ≡ or_refused before n a
same-refused zero a = refl
same-refused (suc n) a = refl

module _ (c : Call since) (d : (t r : ℕ) → c ≢ store t r broken_wire) (g : Image) where
  same-refusal : refusal_by below_wire c g ≡ refusal_by two_rails c g
  unfolding refusal_by state_by look
  same-refusal = ap (λ (n : ℕ). form_rows_of (image_size_of below_wire.memory.layout) (is_start c) (form_by below_wire g) g n) (same_rows c d (control_by below_wire g) (look since (state_by below_wire g)))

  same-planned : SamePlan (plan_by below_wire c g) (plan_by two_rails c g)
  unfolding state_by look
  same-planned = same-plan c (control_by below_wire g) (look since (state_by below_wire g))

pub else-as-before : ElseAsBefore
unfolding ElseAsBefore answer_by next_by
else-as-before c d g =
    let p = same-planned c d g in (
      ap₂ (or_refused since) (same-refusal c d g) p.0 ∙ same-refused (refusal_by two_rails c g) (plan_by two_rails c g).answer,
      ap₂ (λ (n : ℕ) (x : Image). unless_refused n g x) (same-refusal c d g) (λ i. after_plan below_wire (record { answer = p.0 i; after = p.1 i; write = p.2 i; stamps = p.3 i }) g),
    )

-- ---- a store of 65,535
never : (b : Bool) → not (b && false) ≡ true
never true = refl
never false = refl

module _ (D : Delivery) (off : D.value_in_range broken_wire ≡ false) where
  wire-rows : (t r : ℕ) (g : Image) → refusal_by D (store t r broken_wire) g ≡ form_rows_of (image_size_of D.memory.layout) false (form_by D g) g 3
  unfolding refusal_by refusal
  wire-rows t r g = rw (off, never (tran_ok t && ltb r record_count))

  always-refused : (a b : Bool) (x : Answer (rules_of D)) (g y : Image)
      → (or_refused (rules_of D) (row 1 a (row 2 b 3)) x ≡ refused (row 1 a (row 2 b 3))) × (unless_refused (row 1 a (row 2 b 3)) g y ≡ g)
  always-refused true b x g y = (refl, refl)
  always-refused false true x g y = (refl, refl)
  always-refused false false x g y = (refl, refl)

  refuses-wire : RefusesBrokenWire D
  unfolding RefusesBrokenWire answer_by next_by
  refuses-wire t r g = rw (wire-rows t r g) (always-refused (not (eqb (length g) (image_size_of D.memory.layout))) (not (form_by D g)) _ g _)

pub broken-wire-refused : BrokenWireRefused
unfolding BrokenWireRefused
broken-wire-refused = (refuses-wire below_wire refl, refuses-wire current refl)
