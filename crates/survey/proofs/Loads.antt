-- The rows and the count of a load, from the code's values to the rules'. Assumes nothing.
use Prim.Native.Nat.{◌+◌, ◌<◌, ◌≤◌, suc, zero, ℕ}
use mathlib.Core.Bool.{Bool, cond, false, true}
use mathlib.Core.Option.{none, some}
use mathlib.Core.Path.{◌∙◌, ◌≡◌, ap, ap₂, fun_ext, refl, sym}
use native.Mathlib.Numerals.{add-one}
use native.Mathlib.Omega.{arith}
use Rattle.lists.specs.Tests.{count_below, one_if, sum_below}
use Rattle.image.specs.Layout.{block_count, slot_count}
use Rattle.mask.specs.Masks.{has_card}
use Rattle.slot.specs.Blocks.{BlockBytes, committed_count, is_committed, is_held, slot_at}
use Rattle.method.specs.Rules.{act, committed_in, load, loaded, refusal, unwritten}
use Rattle.method.specs.Slots.{is_some}
use Rattle.cabinet_rules.specs.Cabinet.{cabinet}
use Rattle.cabinet_rules.specs.Images.{Image, block_in, control_in, plan_on}
use Rattle.promise.specs.Given.{rows_on, view_of}
use Rattle.promise.specs.Rows.{card_rows}
use Rattle.promise.proofs.View.{look-on}
use Rattle.survey.specs.Loads.{load_below}

-- ---- a block
count-le : (n : ℕ) (f : ℕ → Bool) → count_below n f ≤ n
count-le zero f = omega arith
count-le (suc n) f = go (f n) (count-le n f)
  where
    go : (t : Bool) → count_below n f ≤ n → one_if t + count_below n f ≤ suc n
    go true h = omega arith
    go false h = omega arith

committed-le : (x : BlockBytes) → committed_count x ≤ slot_count
unfolding committed_count
committed-le x = count-le slot_count (is_committed x)

committed-held : (x : BlockBytes) → is_held x ≡ true → committed_count x ≡ committed_in cabinet x
unfolding committed_count
committed-held x h = rw h (ap (count_below slot_count) (fun_ext (λ i. sym (present (is_committed x i) (slot_at x i).committed.value))))
  where
    present : (t : Bool) (n : ℕ) → is_some (cond t (some n) none) ≡ t
    present true n = refl
    present false n = refl

-- what a block adds to a count: its records that are committed present if it is held, else nothing
pub load-held : (x : BlockBytes) (n m : ℕ) → is_held x ≡ true → m ≡ committed_count x → (n + m ≡ n + committed_in cabinet x) × (n + m ≤ n + slot_count)
load-held x n m h e = (ap (λ (k : ℕ). n + k) (e ∙ committed-held x h), omega (arith, committed-le x))

pub load-bare : (x : BlockBytes) (n : ℕ) → is_held x ≡ false → (n ≡ n + committed_in cabinet x) × (n ≤ n + slot_count)
load-bare x n h = (rw h (omega arith), omega arith)

-- ---- a table: no block yet, and one more
pub load-none : (g : Image) (c : ℕ) → 0 ≡ load_below g c 0
unfolding load_below
load-none g c = refl

pub load-more : (g : Image) (c n : ℕ) → committed_in cabinet (block_in g c n) + load_below g c n ≡ load_below g c (n + 1)
unfolding load_below
load-more g c n = rw add-one

-- ---- load
pub load-rows : (g : Image) (c : ℕ) → card_rows (control_in g) c ≡ rows_on (load c) g
unfolding card_rows refusal
load-rows g c = refl

sum_same : (n : ℕ) (f h : ℕ → ℕ) → ((i : ℕ) → i < n → f i ≡ h i) → sum_below n f ≡ sum_below n h
sum_same zero f h e = refl
sum_same (suc n) f h e = ap₂ ◌+◌ (e n (omega arith)) (sum_same n f h (λ i k. e i (omega arith)))

pub load-plan : (g : Image) (c : ℕ) → has_card (control_in g).working c ≡ true → (n : ℕ) → n ≡ load_below g c block_count
    → plan_on (load c) g ≡ unwritten cabinet (loaded n) (control_in g)
unfolding act load_below
load-plan g c on n e = ap (λ (m : ℕ). unwritten cabinet (loaded m) (control_in g))
    (sum_same block_count (λ b. committed_in cabinet (view_of g c b)) (λ b. committed_in cabinet (block_in g c b)) (λ b h. ap (committed_in cabinet) (look-on g c b on h)) ∙ sym e)
