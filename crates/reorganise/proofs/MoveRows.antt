-- The rows of a move: those on the numbers and the card, by their tests, and those on the card's copy. Assumes nothing.
use Prim.Native.Nat.{◌+◌, ◌<◌, ◌≤◌, ℕ}
use borrow.Author.Tests.{le-ltb, lt-ltb, ltb-true}
use borrow.Rule.Slice.PartMut.{mid_of}
use lib.Dec.{ltb}
use lib.ListN.{length}
use mathlib.Core.Bool.{Bool, ◌&&◌, false, not, true}
use mathlib.Core.Path.{◌∙◌, ◌≡◌, ap, ap₂, refl, sym}
use native.Mathlib.Omega.{arith}
use Rattle.lists.proofs.Bools.{and_l, and_r, not-not-is}
use Rattle.image.specs.Layout.{block_address, block_count, block_size, card_count}
use Rattle.mask.specs.Masks.{has_card}
use Rattle.slot.specs.Blocks.{BlockBytes, is_held, of_list, some_locked}
use Rattle.method.specs.Rules.{any_locked, move, refusal, row}
use Rattle.method.proofs.Refusals.{row-3, row-clear}
use Rattle.control.specs.Meaning.{meaning}
use Rattle.control.specs.declared.Control.{Control}
use Rattle.cabinet_rules.specs.Cabinet.{cabinet}
use Rattle.cabinet_rules.specs.Images.{Image, block_in, control_in}
use Rattle.promise.specs.Given.{Given, rows_on, view_of}
use Rattle.promise.specs.Rows.{card_rows}
use Rattle.promise.proofs.Finish.{given-whole}
use Rattle.promise.proofs.Laid.{of_part}
use Rattle.promise.proofs.SharedRows.{card-accepted, card-given}
use Rattle.promise.proofs.View.{look-on}

abbrev rows : Bool → Bool → Bool → Bool → ℕ → ℕ
rows c b stopped on below = row 3 (not (c && b)) (row 4 stopped (row 8 (not on) below))

abbrev copy_rows : BlockBytes → ℕ
copy_rows x = row 11 (not (is_held x)) (row 12 (any_locked cabinet x) 0)

by-block : (c b stopped on : Bool) (below : ℕ) → b ≡ false → 3 ≡ rows c b stopped on below
by-block true b stopped on below e = rw e
by-block false b stopped on below e = refl

by-card : (n : ℕ) (c b stopped on : Bool) (below : ℕ) → (n ≡ 0 → ⊥) → b ≡ true → n ≡ row 3 (not c) (row 4 stopped (row 8 (not on) 0)) → n ≡ rows c b stopped on below
by-card n false b stopped on below d e q = q
by-card n true b true on below d e q = rw e q
by-card n true b false false below d e q = rw e q
by-card n true b false true below d e q = absurd (d q)

by_copy : (c b stopped on : Bool) (below : ℕ) → c ≡ true → b ≡ true → stopped ≡ false → on ≡ true → below ≡ rows c b stopped on below
by_copy c b stopped on below p q r t = rw (p, q, r, t)

module _ (g : Image) (c b : ℕ) where
  rows_are : rows (ltb c card_count) (ltb b block_count) (control_in g).stopped (has_card (control_in g).working c) (copy_rows (view_of g c b)) ≡ rows_on (move c b) g
  unfolding refusal
  rows_are = refl

  -- refused by the block's number, or by a row on the card
  pub refused-block : block_count ≤ b → 3 ≡ rows_on (move c b) g
  refused-block h = by-block (ltb c card_count) (ltb b block_count) (control_in g).stopped (has_card (control_in g).working c) (copy_rows (view_of g c b)) (le-ltb b block_count h) ∙ rows_are

  pub refused-card : (n : ℕ) → b < block_count → n ≡ card_rows (control_in g) c → (n ≡ 0 → ⊥) → n ≡ rows_on (move c b) g
  unfolding card_rows
  refused-card n h e d =
      by-card n (ltb c card_count) (ltb b block_count) (control_in g).stopped (has_card (control_in g).working c) (copy_rows (view_of g c b)) d (lt-ltb b block_count h) e ∙ rows_are

  -- else by what the card's copy shows
  pub seen-rows : b < block_count → 0 ≡ card_rows (control_in g) c
      → row 11 (not (is_held (block_in g c b))) (row 12 (some_locked (block_in g c b)) 0) ≡ rows_on (move c b) g
  unfolding some_locked any_locked
  seen-rows h e =
      let r = card-accepted (control_in g) c e in
      ap copy_rows (sym (look-on g c b r.2 h))
      ∙ by_copy (ltb c card_count) (ltb b block_count) (control_in g).stopped (has_card (control_in g).working c) (copy_rows (view_of g c b))
      (lt-ltb c card_count r.0) (lt-ltb b block_count h) r.1 r.2
      ∙ rows_are

  -- an accepted move
  pub accepted : 0 ≡ rows_on (move c b) g → (c < card_count) × (b < block_count) × (has_card (control_in g).working c ≡ true)
  accepted e =
      let r3 = row-3 (ltb c card_count && ltb b block_count) (rows_are ∙ sym e) in
      let r4 = row-clear (control_in g).stopped 3 r3.1 in
      let r8 = row-clear (not (has_card (control_in g).working c)) 7 r4.1 in (
        ltb-true c card_count (and_l (ltb c card_count) (ltb b block_count) r3.0),
        ltb-true b block_count (and_r (ltb c card_count) (ltb b block_count) r3.0),
        not-not-is (has_card (control_in g).working c) r8.0,
      )

-- the same, from the code's tests of the block that it was lent: a part of the image
module _ (k : Control) (g : Image) (is : Given k g) (c b : ℕ) (hb : b < block_count) (e : 0 ≡ card_rows (meaning k) c) where
  card-clear : 0 ≡ card_rows (control_in g) c
  card-clear = e ∙ card-given is c

  pub copy-card : c < card_count
  copy-card = (card-accepted (control_in g) c card-clear).0

  module _ (a : ℕ) (at : a ≡ block_address c b) where
    pub copy-end : a + block_size ≤ length g
    copy-end = omega (arith, given-whole is, copy-card)

    pub copy-rows : (m : ℕ) → m ≡ block_size → (held locked : Bool) → held ≡ is_held (of_list (mid_of a m g)) → locked ≡ some_locked (of_list (mid_of a m g))
        → row 11 (not held) (row 12 locked 0) ≡ rows_on (move c b) g
    copy-rows m em held locked p q =
        let x : of_list (mid_of a m g) ≡ block_in g c b = of_part g (given-whole is) c b copy-card hb a m at em in
        ap₂ (λ (s t : Bool). row 11 (not s) (row 12 t 0)) (p ∙ ap is_held x) (q ∙ ap some_locked x) ∙ seen-rows g c b hb card-clear
