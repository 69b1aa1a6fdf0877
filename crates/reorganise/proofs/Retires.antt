-- The bytes behind the tables when only the newest placement remains: its pairs, moved to the front. Where no placement is by table they are zero before
-- and after, so that nothing has to be moved. Assumes nothing.
use Prim.Native.Nat.{◌%◌, ◌*◌, ◌+◌, ◌-◌, ◌/◌, ◌<◌, ◌≤◌, suc, zero, ℕ}
use lib.ListN.{length}
use mathlib.Core.Bool.{Bool, ◌&&◌, false, not, true}
use mathlib.Core.List.{List, [], ◌∷◌, map}
use mathlib.Core.Logic.{◌⊎◌, inl, inr}
use mathlib.Core.Path.{◌∙◌, ◌≡◌, ap, ap₂, refl, sym}
use native.Mathlib.Omega.{arith}
use borrow.Author.Tests.{le-ltb, lt-ltb}
use Rattle.lists.specs.Tests.{all_in}
use Rattle.lists.proofs.Bools.{and_in, and_l, and_r, not_is}
use Rattle.lists.proofs.Cases.{lt-or-ge}
use Rattle.image.specs.Layout.{most_active, pairs_size, tail_size}
use Rattle.mask.specs.Pairs.{no_pairs}
use Rattle.mask.specs.Placements.{Choice, Placement, by_rails, by_table, chained, is_by_table, pairless}
use Rattle.method.specs.ControlPart.{active, only_newest}
use Rattle.control.specs.ControlBytes.{Part, chosen_by, kept_of, mark_in, placements_in, table_mark_in, tail_at, tail_byte, tail_of}
use Rattle.control.specs.Meaning.{meaning, only_pairs, placement_in, put_tail}
use Rattle.control.specs.declared.Control.{Control}
use Rattle.control.proofs.Front.{active-front}
use Rattle.control.proofs.PutTail.{put-tail-kept, retired-put}
use Rattle.control.proofs.Struct.{active-is}
use Rattle.control.proofs.Tail.{kept-bare, no-tables}
use Rattle.cabinet_rules.specs.Images.{Image, control_in}
use Rattle.promise.specs.Given.{Given}
use Rattle.promise.proofs.Finish.{form-good, given-whole}
use Rattle.promise.proofs.Laid.{same-tail}
use Rattle.reorganise.proofs.Settles.{older-count}

-- ---- placements none of which is by table
abbrev bare : Placement → Bool
bare p = not (is_by_table p.choice)

-- pairs do not tell it
bare-front : (l : List Placement) → all_in bare (map pairless l) ≡ all_in bare l
bare-front [] = refl
bare-front (p ∷ l) = ap₂ ◌&&◌ (go p.choice) (bare-front l)
  where
    go : (c : Choice) → not (is_by_table (pairless (record { mask = p.mask; choice = c })).choice) ≡ not (is_by_table c)
    go chained = refl
    go by_rails = refl
    go (by_table x) = refl

bare-placements : (f : ℕ → Placement) (n : ℕ) → ((i : ℕ) → i < n → bare (f i) ≡ true) → all_in bare (placements_in f n) ≡ true
bare-placements f zero h = refl
bare-placements f (suc n) h = and_in (bare (f 0)) _ (h 0 (omega arith)) (bare-placements (λ i. f (suc i)) n (λ i b. h (suc i) (omega arith)))

-- nothing is kept for them
bare-kept : (l : List Placement) → all_in bare l ≡ true → (i j : ℕ) → kept_of l i j ≡ 0
bare-kept [] e i j = refl
bare-kept (p ∷ l) e zero j = kept-bare p.choice j (not_is (is_by_table p.choice) (and_l (bare p) _ e))
bare-kept (p ∷ l) e (suc i) j = bare-kept l (and_r (bare p) _ e) i j

bare-tail : (l : List Placement) → all_in bare l ≡ true → (n : ℕ) → tail_of l n ≡ 0
unfolding tail_of
bare-tail l e n = bare-kept l e (n / pairs_size) (n % pairs_size)

-- marks without one for a table
bare-chosen : (k : Control) (i : ℕ) → table_mark_in k.marks i ≡ false → bare (placement_in k i) ≡ true
bare-chosen k i e = rw e (go (mark_in k.marks i))
  where
    go : (t : Bool) → not (is_by_table (chosen_by false t no_pairs)) ≡ true
    go true = refl
    go false = refl

module _ (k : Control) (g : Image) (is : Given k g) where
  -- the image keeps the pairs of its placements
  kept : (n : ℕ) → n < tail_size → tail_at g n ≡ tail_byte (control_in g) n
  kept n h = sym (same-tail g (form-good g is.formed) n h)

  few : length (control_in g).older < most_active
  few = omega (arith, older-count k g is, is.is.counted.some, is.is.counted.few)

  -- only the newest one's remain
  pub pairs-retired : put_tail g (only_pairs (tail_at g) (k.count - 1)) ≡ put_tail g (tail_byte (only_newest (control_in g)))
  pairs-retired = ap (λ (i : ℕ). put_tail g (only_pairs (tail_at g) i)) (sym (older-count k g is))
      ∙ retired-put g (control_in g).older (control_in g).newest few kept

  -- where there are none, the bytes stay
  all-bare : k.marks % 16 ≡ 0 → all_in bare (active (control_in g)) ≡ true
  unfolding meaning
  all-bare e = sym (bare-front (active (control_in g))) ∙ ap (all_in bare) (active-front (control_in g)) ∙ ap (λ (p : Part). all_in bare (active p)) (sym is.is.means)
      ∙ ap (all_in bare) (active-is k is.is.counted)
      ∙ bare-placements (placement_in k) k.count (λ i h. bare-chosen k i (no-tables k.marks i e (omega (arith, is.is.counted.few))))

  pub no_pairs_lem : k.marks % 16 ≡ 0 → g ≡ put_tail g (tail_byte (only_newest (control_in g)))
  unfolding only_pairs
  no_pairs_lem e = put-tail-kept g (only_pairs (tail_at g) (k.count - 1)) (given-whole is) (λ n h. zero-at n h ∙ sym (moved n (lt-or-ge n pairs_size))) ∙ pairs-retired
    where
      zero-at : (n : ℕ) → n < tail_size → tail_at g n ≡ 0
      zero-at n h = kept n h ∙ bare-tail (active (control_in g)) (all-bare e) n

      moved : (n : ℕ) → (n < pairs_size) ⊎ (pairs_size ≤ n) → only_pairs (tail_at g) (k.count - 1) n ≡ 0
      moved n (inl h) = rw (lt-ltb n pairs_size h) (zero-at ((k.count - 1) * pairs_size + n) (omega (arith, is.is.counted.some, is.is.counted.few)))
      moved n (inr h) = rw (le-ltb n pairs_size h)
