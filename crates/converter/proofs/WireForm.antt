-- The form from before A.6 is what that from before A.7 asks of the bytes before the tables, and no mark for a table. Nothing lies behind the tables: a
-- placement without the mark keeps nothing there, as the form asks; one with the mark has zero pairs, card 0 twice, which are no two different members. Where
-- no placement has the mark, each is the one that its mask gives, so that the bytes written of it are the bytes. Assumes nothing.
use mathlib.Core.Path.{◌≡◌, refl, sym, ap, ◌∙◌}
use mathlib.Core.Bool.{Bool, true, false, ◌&&◌, ◌||◌}
use mathlib.Core.List.{List, ◌∷◌, map, map-id}
use Prim.Native.Nat.{ℕ, zero, suc, ◌+◌, ◌-◌, ◌%◌, ◌≤◌, ◌<◌}
use native.Mathlib.Omega.{arith}
use lib.Dec.{eqb}
use lib.ListN.{get_or}
use borrow.Author.Tests.{eqb-true}
use Rattle.lists.specs.Tests.{all_below, any_below}
use Rattle.lists.proofs.Bools.{and_in, and_l, and_r, tf}
use Rattle.lists.proofs.Counts.{all-below, all-fails, any-below-out, below_all}
use Rattle.image.specs.Layout.{block_count, control_size, most_active, pairs_size, tail_size}
use Rattle.mask.specs.Masks.{Byte, byte, has_card}
use Rattle.mask.specs.Pairs.{Pairs, are_pairs_of, is_pair_of, pair_at, pairs_byte}
use Rattle.mask.specs.Placements.{Choice, Placement, by_rails, by_table, chained, choice_of, is_by_rails, is_by_table, placed}
use Rattle.mask.proofs.PairLaws.{pair_same}
use Rattle.method.specs.ControlPart.{part, part_by}
use Rattle.control.specs.ControlBytes.{chosen_by, control_of, count_in, mark_in, marks_at, masks_at, pairs_in, placement_at, placements_in, table_mark_in}
use Rattle.control.proofs.Fields.{shown-newest, shown-older}
use Rattle.control.proofs.Tail.{pairs_of_lem}
use Rattle.control_form.specs.ControlForm.{form_ok}
use Rattle.control_form.specs.Reading.{kept_ok_at}
use Rattle.control_form.proofs.Kept.{kept_table, none-by-table, none_kept}
use Rattle.control_form.proofs.RoundTrip.{form-count}
use Rattle.cabinet_rules.specs.Delivery.{PartOf, stamp_memory}
use Rattle.cabinet_rules.specs.Images.{form_by}
use Rattle.cabinet_rules.specs.Retired.{before_stamps, before_tables, below_wire, by_tables, retired_bytes, retired_form, retired_part}
use Rattle.converter.specs.Steps.{older_front_ok, shown_front}
use Rattle.converter.proofs.TableForm.{numbered-form}

-- ---- marks for tables
-- Where the lower half of the byte is not zero there is one.
some_ok : ℕ → Bool
some_ok m = eqb (m % 16) 0 || any_below most_active (table_mark_in m)

test-some : all_below 256 some_ok ≡ true
unfolding some_ok
test-some = refl

some-by-table : (m : ℕ) → m < 256 → eqb (m % 16) 0 ≡ false → (i : ℕ) × (i < most_active) × (table_mark_in m i ≡ true)
unfolding some_ok
some-by-table m small e = any-below-out most_active (table_mark_in m) (rw e at (below_all 256 some_ok m test-some small))

-- ---- pairs that are zero
no-pair : (m : Byte) → is_pair_of m (pair_at (λ j. 0) 0) ≡ false
unfolding is_pair_of pair_at
no-pair m = go (has_card m 0)
  where
    go : (b : Bool) → (b && (b && false)) ≡ false
    go true = refl
    go false = refl

zero-pairs : (m : Byte) (x : Pairs) → ((j : ℕ) → j < pairs_size → pairs_byte x j ≡ 0) → are_pairs_of m x ≡ false
unfolding are_pairs_of
zero-pairs m x none = all-fails (λ b. is_pair_of m (pair_at (pairs_byte x) b)) block_count 0 (omega arith)
    (ap (is_pair_of m) (pair_same (pairs_byte x) (λ j. 0) none 0 (omega arith)) ∙ no-pair m)

-- Where nothing lies behind the tables, what is asked there is that there is no mark for a table.
module _ (l : List ℕ) (small : get_or l marks_at 0 < 256) where
  abbrev marks : ℕ
  marks = get_or l marks_at 0

  nothing-kept : eqb (marks % 16) 0 ≡ true → all_below most_active (kept_ok_at l (λ n. 0)) ≡ true
  nothing-kept m = none_kept l (λ n. 0) small (eqb-true (marks % 16) 0 m) ∙ all-below tail_size (λ n. true) (λ n h. refl)

  pairs-lack : eqb (marks % 16) 0 ≡ false → all_below most_active (kept_ok_at l (λ n. 0)) ≡ false
  pairs-lack m =
      let r = some-by-table marks small m in
      let i : ℕ = r.0 in
      all-fails (kept_ok_at l (λ n. 0)) most_active i r.1
      (kept_table l (λ n. 0) i r.2 ∙ zero-pairs (byte (get_or l (masks_at + i) 0)) (pairs_in (λ n. 0) i) (λ j h. pairs_of_lem (λ j. 0) j h))

-- ---- placements without a table are told again by the older delivery
again : (c : Choice) → is_by_table c ≡ false → choice_of (is_by_rails c) ≡ c
again chained e = refl
again by_rails e = refl
again (by_table x) e = tf true refl e

abbrev told_again : Placement → Placement
told_again p = placed (before_tables.back p)

same-placement : (p : Placement) → is_by_table p.choice ≡ false → told_again p ≡ p
same-placement p e = ap (λ (c : Choice). record { mask = p.mask; choice = c }) (again p.choice e)

same-placements : (f : ℕ → Placement) (n : ℕ) → ((i : ℕ) → i < n → is_by_table (f i).choice ≡ false)
    → map placed (map before_tables.back (placements_in f n)) ≡ placements_in f n
same-placements f zero none = refl
same-placements f (suc n) none =
    ap (λ (p : Placement). p ∷ map placed (map before_tables.back (placements_in (λ i. f (suc i)) n))) (same-placement (f 0) (none 0 (omega arith)))
    ∙ ap (λ (l : List Placement). f 0 ∷ l) (same-placements (λ i. f (suc i)) n (λ i h. none (suc i) (omega arith)))

bare-choice : (table rails : Bool) (x : Pairs) → table ≡ false → is_by_table (chosen_by table rails x) ≡ false
bare-choice true rails x e = tf true refl e
bare-choice false true x e = refl
bare-choice false false x e = refl

-- the control part from before A.7, as the delivery before it tells it
abbrev part_again : PartOf by_tables → PartOf by_tables
part_again k = part_by placed (λ σ. σ) (λ ν. ν) (part_by before_tables.back (λ σ. σ) (λ ν. ν) k)

module _ (g t : ℕ → ℕ) (some : 1 ≤ count_in (g 0)) (few : count_in (g 0) ≤ most_active) (small : g marks_at < 256) (clear : g marks_at % 16 ≡ 0) where
  abbrev s : ℕ → ℕ
  s = shown_front g

  bare : (i : ℕ) → i < most_active → is_by_table (placement_at s t i).choice ≡ false
  bare i h = bare-choice (table_mark_in (g marks_at) i) (mark_in (g marks_at) i) (pairs_in t i) (none-by-table (g marks_at) i small clear h)

  abbrev k : PartOf by_tables
  k = retired_part stamp_memory before_stamps g t

  old-is : k.older ≡ placements_in (placement_at s t) (count_in (g 0) - 1)
  old-is = map-id (control_of s t).older ∙ shown-older s t

  old : map placed (map before_tables.back k.older) ≡ k.older
  old = ap (λ (l : List Placement). map placed (map before_tables.back l)) old-is
      ∙ same-placements (placement_at s t) (count_in (g 0) - 1) (λ i h. bare i (omega (arith, few))) ∙ sym old-is

  new : told_again k.newest ≡ k.newest
  new = ap told_again (shown-newest s t some) ∙ same-placement (placement_at s t (count_in (g 0) - 1)) (bare (count_in (g 0) - 1) (omega (arith, few, some)))
      ∙ sym (shown-newest s t some)

  same-part : part_again (retired_part stamp_memory before_stamps g t) ≡ retired_part stamp_memory before_stamps g t
  same-part = λ i. part k.stopped (old i) (new i) k.working k.failed k.home k.setting k.serial

-- ---- the form
-- What is asked of the front f, behind the tables b and of the bytes told again a is that there is no mark for a table m.
no-mark : (f b a m : Bool) → (f ≡ true → m ≡ true → (b ≡ true) × (a ≡ true)) → (f ≡ true → m ≡ false → b ≡ false) → ((f && b) && a) ≡ (f && m)
no-mark false b a m p q = refl
no-mark true b a true p q = and_in b a (p refl refl).0 (p refl refl).1
no-mark true b a false p q = ap (λ (x : Bool). x && a) (q refl refl)

module _ (l : List ℕ) (bytes : (n : ℕ) → get_or l n 0 < 256) where
  abbrev g : ℕ → ℕ
  g n = get_or l n 0

  abbrev kept : Bool
  kept = all_below most_active (kept_ok_at l (λ n. 0))

  abbrev written : PartOf by_tables → Bool
  written k = all_below control_size (λ n. eqb (g n) (retired_bytes stamp_memory before_stamps k n))

  -- no mark for a table: the form from before A.7 holds, so that the bytes are told again
  good : older_front_ok g (λ n. 0) ≡ true → eqb (g marks_at % 16) 0 ≡ true
      → (kept ≡ true) × (written (part_again (retired_part stamp_memory before_stamps g (λ n. 0))) ≡ true)
  unfolding retired_form
  good f m =
      let k = nothing-kept l (bytes marks_at) m in
      let form = numbered-form l (λ n. 0) bytes ∙ and_in (older_front_ok g (λ n. 0)) kept f k in
      let count = form-count (shown_front g) (λ n. 0) (and_l (form_ok (shown_front g) (λ n. 0)) (written (retired_part stamp_memory before_stamps g (λ n. 0))) form) in (
        k,
        ap written (same-part g (λ n. 0) count.0 count.1 (bytes marks_at) (eqb-true (g marks_at % 16) 0 m))
            ∙ and_r (form_ok (shown_front g) (λ n. 0)) (written (retired_part stamp_memory before_stamps g (λ n. 0))) form,
      )

  -- THE LAW
  pub wire-form : form_by below_wire l ≡ (older_front_ok (λ n. get_or l n 0) (λ n. 0) && eqb (get_or l marks_at 0 % 16) 0)
  unfolding retired_form
  wire-form = ap (λ (x : Bool). x && written (part_again (retired_part stamp_memory before_stamps g (λ n. 0)))) (numbered-form l (λ n. 0) bytes)
      ∙ no-mark (older_front_ok g (λ n. 0)) kept (written (part_again (retired_part stamp_memory before_stamps g (λ n. 0)))) (eqb (g marks_at % 16) 0) good
      (λ f m. pairs-lack l (bytes marks_at) m)
