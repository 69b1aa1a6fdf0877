-- The refusal rows of place by table in the values that the code has: one law over all tests, and the number of each return by the tests that lead there;
-- and what an accepted table has shown. Assumes nothing.
use Prim.Native.Nat.{◌-◌, ◌<◌, ◌≤◌, ℕ}
use borrow.Author.Tests.{le-leb, leb-false, lt-leb}
use lib.Dec.{leb}
use lib.ListN.{length}
use mathlib.Core.Bool.{Bool, false, not, true}
use mathlib.Core.List.{List, [], ◌++◌, ◌∷◌}
use mathlib.Core.Path.{◌∙◌, ◌≡◌, ap, refl, sym}
use native.Mathlib.Omega.{arith}
use Rattle.image.specs.Layout.{most_active, most_placed}
use Rattle.mask.specs.Masks.{byte}
use Rattle.table_lines.specs.Lines.{are_lines, has_gap, has_overlap, lines_work}
use Rattle.method.specs.PlainList.{no_blocks}
use Rattle.method.specs.Rules.{place, refusal, row}
use Rattle.method.proofs.Refusals.{row-3, row-clear}
use Rattle.control.specs.ControlBytes.{Part, placements_in}
use Rattle.control.specs.Meaning.{Counted, meaning, placement_in}
use Rattle.control.specs.declared.Control.{Control as Struct}
use Rattle.control.proofs.Struct.{active-is, length-placements}
use Rattle.cabinet_rules.specs.Cabinet.{cabinet}
use Rattle.control.specs.Serials.{serial_limit}
use Rattle.cabinet_rules.specs.Places.{by_lines, is_spent, placed_row, table_rows}

-- the rows of the lines and the control part alone
abbrev pub rows_of : List ℕ → Part → ℕ
rows_of l k = refusal cabinet (place (by_lines l)) k (no_blocks cabinet)

-- the same bytes have the same row
pub of-bytes : (k : Struct) {l m : List ℕ} {n : ℕ} → l ≡ m → n ≡ rows_of l (meaning k) → n ≡ rows_of m (meaning k)
of-bytes k same e = e ∙ ap (λ (l : List ℕ). rows_of l (meaning k)) same

module _ (k : Struct) (c : Counted k) (l : List ℕ) where
  abbrev pub works : Bool
  works = lines_work (byte k.working) l

  -- as many placements as the struct counts
  pub count-is : length (placements_in (placement_in k) (k.count - 1) ++ (placement_in k (k.count - 1) ∷ [])) ≡ k.count
  count-is = ap length (active-is k c) ∙ length-placements (placement_in k) k.count

  abbrev rows : Bool → Bool → Bool → Bool → Bool → Bool → Bool → ℕ
  rows a s w gap over full spent = row 3 (not a) (row 4 s (row 9 (not w) (row 17 gap (row 18 over (row 10 full (row 20 spent 0))))))

  -- the rows over the tests in the code's values
  by_tests : rows (are_lines l) k.stopped works (has_gap l) (has_overlap l) (leb most_placed k.count) (is_spent k.serial) ≡ rows_of l (meaning k)
  unfolding refusal table_rows placed_row meaning
  by_tests = ap (λ (n : ℕ). rows (are_lines l) k.stopped works (has_gap l) (has_overlap l) (leb most_placed n) (is_spent k.serial)) (sym count-is)

  tests-at : (a s w gap over full spent : Bool) → are_lines l ≡ a → k.stopped ≡ s → works ≡ w → has_gap l ≡ gap → has_overlap l ≡ over
      → leb most_placed k.count ≡ full → is_spent k.serial ≡ spent → rows a s w gap over full spent ≡ rows_of l (meaning k)
  tests-at a s w gap over full spent ea es ew eg eo ef ep = rw (sym ea, sym es, sym ew, sym eg, sym eo, sym ef, sym ep) by_tests

  pub says-3 : are_lines l ≡ false → 3 ≡ rows_of l (meaning k)
  says-3 ea = tests-at false _ _ _ _ _ _ ea refl refl refl refl refl refl

  module _ (ea : are_lines l ≡ true) where
    pub says-4 : k.stopped ≡ true → 4 ≡ rows_of l (meaning k)
    says-4 es = tests-at true true _ _ _ _ _ ea es refl refl refl refl refl

    module _ (es : k.stopped ≡ false) where
      pub says-9 : works ≡ false → 9 ≡ rows_of l (meaning k)
      says-9 ew = tests-at true false false _ _ _ _ ea es ew refl refl refl refl

      module _ (ew : works ≡ true) where
        pub says-17 : has_gap l ≡ true → 17 ≡ rows_of l (meaning k)
        says-17 eg = tests-at true false true true _ _ _ ea es ew eg refl refl refl

        module _ (eg : has_gap l ≡ false) where
          pub says-18 : has_overlap l ≡ true → 18 ≡ rows_of l (meaning k)
          says-18 eo = tests-at true false true false true _ _ ea es ew eg eo refl refl

          pub says-10 : has_overlap l ≡ false → most_placed ≤ k.count → 10 ≡ rows_of l (meaning k)
          says-10 eo h = tests-at true false true false false true _ ea es ew eg eo (le-leb most_placed k.count h) refl

          pub says-20 : has_overlap l ≡ false → k.count < most_placed → serial_limit ≤ k.serial → 20 ≡ rows_of l (meaning k)
          says-20 eo h p = tests-at true false true false false false true ea es ew eg eo (lt-leb most_placed k.count h) (le-leb serial_limit k.serial p)

          pub says-0 : has_overlap l ≡ false → k.count < most_placed → k.serial < serial_limit → 0 ≡ rows_of l (meaning k)
          says-0 eo h p = tests-at true false true false false false false ea es ew eg eo (lt-leb most_placed k.count h) (lt-leb serial_limit k.serial p)

  -- ---- what an accepted table has shown
  pub room : 0 ≡ rows_of l (meaning k) → k.count < most_active
  room e =
      let r3 = row-3 (are_lines l) (by_tests ∙ sym e) in
      let r4 = row-clear k.stopped 3 r3.1 in
      let r9 = row-clear (not works) 8 r4.1 in
      let r17 = row-clear (has_gap l) 16 r9.1 in
      let r18 = row-clear (has_overlap l) 17 r17.1 in
      let h : k.count < most_placed = leb-false most_placed k.count (row-clear (leb most_placed k.count) 9 r18.1).0 in
      omega (arith, h)
