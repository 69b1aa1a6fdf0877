-- What the code writes of a table: the pairs stand behind those of the older placements, and the rest behind the tables is what these keep by the control
-- form; the control bytes before the tables are those of the control part with the placement added, since they tell no pairs. Assumes nothing.
use Prim.Native.Nat.{◌*◌, ◌+◌, ◌<◌, ◌≤◌, suc, ℕ}
use lib.ListN.{length, length-map}
use mathlib.Core.List.{List}
use mathlib.Core.Option.{none}
use mathlib.Core.Path.{◌∙◌, ◌≡◌, ap, ap₂, refl, sym}
use native.Mathlib.Omega.{arith}
use Rattle.lists.specs.Segments.{splice}
use Rattle.image.specs.Layout.{card_count, control_size, most_active, pairs_size, tail_start}
use Rattle.image.specs.Parts.{Whole}
use Rattle.mask.specs.Masks.{Byte, byte}
use Rattle.mask.specs.Pairs.{Pairs, no_pairs, pairs_from}
use Rattle.mask.specs.Placements.{by_table, pairless}
use Rattle.table_lines.specs.Lines.{line_count, named_by, pair_by, table_placement}
use Rattle.method.specs.ControlPart.{active, added}
use Rattle.control.specs.ControlBytes.{Part, front_part, tail_byte}
use Rattle.control.specs.Meaning.{Is, meaning, put_control, put_tail}
use Rattle.control.specs.Stamps.{Stamp, put_stamps, stamp_of}
use Rattle.control.specs.declared.Control.{Control as Struct}
use Rattle.control.proofs.Front.{active-front, added-front}
use Rattle.control.proofs.PutTail.{placed-put}
use Rattle.control_form.proofs.Put.{length-put}
use Rattle.cabinet_rules.specs.Images.{Image, control_in}
use Rattle.promise.specs.Given.{Given}
use Rattle.promise.proofs.Finish.{form-good, given-whole}
use Rattle.promise.proofs.Laid.{same-tail, write-stamps}
use Rattle.promise.proofs.Stamping.{serial-is, stamped-as}
use Rattle.promise.proofs.WholePart.{whole-tail, write-whole}
use Rattle.placing.specs.Placed.{table_added, with_table}
use Rattle.placing.proofs.Rows.{count-is}

module _ {k : Struct} {g : Image} (is : Given k g) (l : List ℕ) (few : k.count < most_active) where
  abbrev new : Part
  new = table_added l g

  abbrev pairs : Pairs
  pairs = pairs_from (λ b. pair_by l b (line_count l))

  -- the struct counts the placements of the image
  counted : length (active (control_in g)) ≡ k.count
  unfolding meaning
  counted = sym (length-map (active (control_in g)) pairless) ∙ ap length (active-front (control_in g))
      ∙ ap (λ (p : Part). length (active p)) (sym is.is.means) ∙ count-is k is.is.counted l

  front-is : (m : ℕ) (x : Struct) → byte m ≡ named_by l (line_count l)
      → Is x (added (meaning k) (record { mask = byte m; choice = by_table no_pairs }) (suc k.serial)) → meaning x ≡ front_part new
  unfolding table_placement
  front-is m x e ix = ix.means
      ∙ ap₂ (λ (q : Part) (b : Byte). added q (record { mask = b; choice = by_table no_pairs }) (suc k.serial)) is.is.means e
      ∙ ap (λ (ν : ℕ). added (front_part (control_in g)) (pairless (table_placement l)) (suc ν)) (serial-is is)
      ∙ added-front (control_in g) (table_placement l) (suc (control_in g).serial)

  pairs-put : splice g (tail_start + k.count * pairs_size) pairs.0 ≡ put_tail g (tail_byte new)
  unfolding table_placement
  pairs-put = ap (λ (n : ℕ). splice g (tail_start + n * pairs_size) pairs.0) (sym counted)
      ∙ placed-put g (active (control_in g)) (table_placement l) (omega (arith, counted, few)) (given-whole is) pairs refl
      (λ n h. sym (same-tail g (form-good g is.formed) n h))

  -- the pairs, written
  between : (xs : List ℕ) (out : Image) → xs ≡ pairs.0 → out ≡ splice g (tail_start + k.count * pairs_size) xs → out ≡ put_tail g (tail_byte new)
  between xs out ex eo = eo ∙ ap (splice g (tail_start + k.count * pairs_size)) ex ∙ pairs-put

  pub long-between : (xs : List ℕ) (out : Image) → xs ≡ pairs.0 → out ≡ splice g (tail_start + k.count * pairs_size) xs → control_size ≤ length out
  long-between xs out ex eo = let w = ap length (between xs out ex eo) ∙ whole-tail g (tail_byte new) (given-whole is) in omega (arith, w)

  -- then the struct with the placement
  pub whole-between : (x : Struct) (xs : List ℕ) (out written : Image) → xs ≡ pairs.0 → out ≡ splice g (tail_start + k.count * pairs_size) xs
      → written ≡ put_control out (meaning x) → Whole written
  whole-between x xs out written ex eo ew = ap length ew ∙ length-put out (meaning x) (long-between xs out ex eo)
      ∙ ap length (between xs out ex eo) ∙ whole-tail g (tail_byte new) (given-whole is)

  -- and the stamps
  pub table-written : (m : ℕ) (x : Struct) (xs : List ℕ) (out written behind : Image) {s : Stamp} → byte m ≡ named_by l (line_count l)
      → Is x (added (meaning k) (record { mask = byte m; choice = by_table no_pairs }) (suc k.serial)) → xs ≡ pairs.0
      → out ≡ splice g (tail_start + k.count * pairs_size) xs → written ≡ put_control out (meaning x)
      → s ≡ stamp_of (meaning x) → behind ≡ put_stamps written (byte x.working) s card_count → behind ≡ with_table l g
  unfolding with_table table_placement
  table-written m x xs out written behind em ix ex eo ew shown eb =
      eb ∙ stamped-as x new (front-is m x em ix) shown written
      ∙ ap (λ (i : Image). put_stamps i new.working (stamp_of new) card_count)
      (ew ∙ ap₂ (λ (o : Image) (p : Part). put_control o p) (between xs out ex eo) (front-is m x em ix) ∙ write-whole g new (given-whole is))
      ∙ write-stamps (λ c b. none) g new
