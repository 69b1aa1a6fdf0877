-- The store goes on: what the rollback of the card's own transactions, their closing and the placement without the card leave is the image of
-- the rules' plan, and there is room for that placement. Assumes nothing.
use Prim.Native.Nat.{◌-◌, ◌<◌, suc, ℕ}
use lib.ListN.{get_or, length, length-map, length-reverse}
use mathlib.Core.Bool.{Bool, false, true}
use mathlib.Core.List.{[], ◌∷◌, reverse}
use mathlib.Core.Path.{◌∙◌, ◌≡◌, ap, ap₂, refl, sym}
use native.Mathlib.Omega.{arith}
use Rattle.lists.specs.Tests.{In}
use Rattle.lists.proofs.Lists.{in_left, in-reverse}
use Rattle.image.specs.Layout.{card_count, most_active, most_placed}
use Rattle.image.specs.Parts.{Whole}
use Rattle.mask.specs.Masks.{Byte, byte, has_card, without_card}
use Rattle.mask.specs.Placements.{Placement, from_mask, pairless}
use Rattle.slot.specs.Blocks.{in_set}
use Rattle.method.specs.Changes.{marked}
use Rattle.method.specs.ControlPart.{active, added, begun_at, closed}
use Rattle.method.specs.Rules.{drop_held, fail, placed, stamp_all, stamping, stopping, unplaced, writing}
use Rattle.control.specs.ControlBytes.{Part, front_part}
use Rattle.control.proofs.Front.{added-front}
use Rattle.control.specs.Meaning.{Is, meaning, newest_mask, placement_in, put_control}
use Rattle.control.specs.Serials.{serial_bound}
use Rattle.control.specs.Stamps.{Stamp, put_stamps, stamp_of}
use Rattle.control.specs.declared.Control.{Control as Struct}
use Rattle.control.proofs.Struct.{length-placements, newest-mask-is}
use Rattle.control_form.proofs.Put.{length-put}
use Rattle.control_form.proofs.RoundTrip.{form-part, part-clauses}
use Rattle.cabinet_rules.specs.Cabinet.{cabinet}
use Rattle.cabinet_rules.proofs.FormLaws.{numbered-in}
use Rattle.cabinet_rules.specs.Images.{Image, control_in, plan_on, tail_in}
use Rattle.promise.specs.Given.{view_of}
use Rattle.std.specs.Prelude.{Ok}
use Rattle.promise.specs.Promise.{Done}
use Rattle.promise.specs.declared.Answer.TheVariants.{Placed, Unplaced}
use Rattle.promise.proofs.Finish.{by_both, by-plan, form-good}
use Rattle.promise.specs.Laid.{laid}
use Rattle.promise.proofs.Laid.{KeepsTail, more-tail, same-tail, whole-laid, write-control, write-stamps}
use Rattle.promise.proofs.Stamping.{stamped-as}
use Rattle.tables.specs.Tables.{end_writes, set_of}
use Rattle.failure.specs.Failing.{Failing}
use Rattle.failure.proofs.Room.{room_for}
use Rattle.failure.proofs.Stopping.{dropped, in-run}

older-count : (k : Struct) → length (meaning k).older ≡ k.count - 1
unfolding meaning
older-count k = length-placements (placement_in k) (k.count - 1)

-- The card's own transactions have been dropped in the tables, and closed in the struct x.
pub record Closing (m : Struct) (g : Image) (c : ℕ) (out : Image) (x : Struct) : Type 0 where
  pub out-is : out ≡ laid (end_writes (meaning m).working false (in_set (set_of (begun_at (meaning m) c))) g) g
  pub closes : Is x (closed (meaning m) (begun_at (meaning m) c))

pub closing : {m x : Struct} {g out : Image} {c set : ℕ} → set ≡ set_of (begun_at (meaning m) c)
    → out ≡ laid (end_writes (byte m.working) false (in_set set) g) g → Is x (closed (meaning m) (begun_at (meaning m) c)) → Closing m g c out x
unfolding meaning
closing e l ix = record { out-is = rw e at l; closes = ix }

module _ {m x : Struct} {g out : Image} {c : ℕ} (f : Failing m g c) (s : stopping cabinet (control_in g) c ≡ false) (t : Closing m g c out x) where
  -- the newest mask, and the control part once what was begun at the card has closed
  abbrev newest : Byte
  newest = (control_in g).newest.mask

  abbrev closed_part : Part
  closed_part = closed (marked cabinet (control_in g) c) (begun_at (control_in g) c)

  closed_is : meaning x ≡ front_part closed_part
  closed_is = t.closes.means ∙ ap (λ (y : Part). closed y (begun_at y c)) f.is.means

  out-dropped : out ≡ laid (drop_held cabinet (begun_at (control_in g) c) c (view_of g)) g
  out-dropped = t.out-is
      ∙ ap (λ (p : Part). laid (end_writes (meaning m).working false (in_set (set_of (begun_at p c))) g) g) f.is.means
      ∙ dropped f (begun_at (control_in g) c)

  pub out-whole : Whole out
  out-whole = ap length out-dropped ∙ whole-laid (drop_held cabinet (begun_at (control_in g) c) c (view_of g)) g

  newest-is : {n : ℕ} → n ≡ newest_mask m → byte n ≡ newest
  newest-is {n} e = newest-mask-is m n e ∙ ap (λ (p : Part). p.newest.mask) f.is.means

  had : {n : ℕ} {b : Bool} → n ≡ newest_mask m → b ≡ has_card (byte n) c → has_card newest c ≡ b
  had e h = ap (λ (z : Byte). has_card z c) (sym (newest-is e)) ∙ sym h

  -- ---- the card was not in the newest placement
  unplaced-plan : has_card newest c ≡ false
      → plan_on (fail c) g ≡ writing cabinet unplaced closed_part (drop_held cabinet (begun_at (control_in g) c) c (view_of g))
  unplaced-plan h = in-run f (rw (s, h))

  pub unplaced-done : {n : ℕ} {b : Bool} → n ≡ newest_mask m → b ≡ has_card (byte n) c → b ≡ false
      → (behind : Image) → behind ≡ put_control out (meaning x) → Done (fail c) g (Ok Unplaced) behind
  unplaced-done e h z behind l =
      let w = drop_held cabinet (begun_at (control_in g) c) c (view_of g) in
      by_both (fail c) refl g f.formed Unplaced closed_part w behind f.accepted (unplaced-plan (had e h ∙ z)) (same-tail g (form-good g f.formed))
      (l ∙ ap₂ put_control out-dropped closed_is)

  -- ---- the card was in it
  abbrev added_part : Part
  added_part = added closed_part (from_mask (without_card newest c)) (suc (control_in g).serial)

  placed-plan : has_card newest c ≡ true
      → plan_on (fail c) g ≡ stamping cabinet (writing cabinet (placed (without_card newest c)) added_part (drop_held cabinet (begun_at (control_in g) c) c (view_of g)))
      (stamp_all cabinet added_part)
  placed-plan h = in-run f (rw (s, h))

  -- the struct that is written, and where
  module _ {n : ℕ} (mask : ℕ) {y : Struct} (e : n ≡ newest_mask m) (without : byte mask ≡ without_card (byte n) c)
      (iy : Is y (added (meaning x) (from_mask (byte mask)) (suc x.serial))) where
    mask_is : byte mask ≡ without_card newest c
    mask_is = without ∙ ap (λ (b : Byte). without_card b c) (newest-is e)

    serial-closed : x.serial ≡ (control_in g).serial
    unfolding meaning
    serial-closed = ap (λ (p : Part). p.serial) closed_is

    added-means : meaning y ≡ front_part added_part
    added-means = iy.means ∙ ap₂ (λ (k : Part) (ν : ℕ). added k (from_mask (byte mask)) (suc ν)) closed_is serial-closed
        ∙ ap (λ (b : Byte). added (front_part closed_part) (from_mask b) (suc (control_in g).serial)) mask_is ∙ added-front closed_part (from_mask (without_card newest c)) (suc (control_in g).serial)

    pub whole-added : (written : Image) → written ≡ put_control out (meaning y) → Whole written
    whole-added written l = let w : Whole out = out-whole in ap length l ∙ length-put out (meaning y) (omega arith) ∙ w

    pub placed-done : {b : Bool} → b ≡ has_card (byte n) c → b ≡ true → (written behind : Image) {s : Stamp} → written ≡ put_control out (meaning y)
        → s ≡ stamp_of (meaning y) → behind ≡ put_stamps written (byte y.working) s card_count → Done (fail c) g (Ok (Placed mask)) behind
    placed-done h z written behind l shown st =
        let w = drop_held cabinet (begun_at (control_in g) c) c (view_of g) in
        let keeps : KeepsTail added_part g = more-tail g closed_part (from_mask (without_card newest c)) (form-good g f.formed) refl refl (suc (control_in g).serial) in
        by-plan (fail c) refl g f.formed (Placed mask) _ behind f.accepted (placed-plan (had e h ∙ z)) (ap (λ (b : Byte). placed b) mask_is)
        (st ∙ stamped-as y added_part added-means shown written
        ∙ ap (λ (i : Image). put_stamps i added_part.working (stamp_of added_part) card_count) (l ∙ ap₂ put_control out-dropped added-means ∙ write-control w g added_part keeps)
        ∙ write-stamps w g added_part)

  -- there is a serial for the placement
  pub serial-closing : x.serial < serial_bound
  unfolding meaning
  serial-closing = let n = (numbered-in g (form-good g f.formed)).few in omega (arith, ap (λ (p : Part). p.serial) closed_is)

  older-active : (p : Placement) → In p (reverse (control_in g).older) → In p (active (control_in g))
  older-active p i = in_left (control_in g).older ((control_in g).newest ∷ []) p (in-reverse (control_in g).older p i)

  pub room : {n : ℕ} {b : Bool} → n ≡ newest_mask m → b ≡ has_card (byte n) c → b ≡ true → x.count < most_active
  room e h z =
      let chain = (part-clauses (control_in g) (form-part (λ n. get_or g n 0) (tail_in g) (form-good g f.formed))).chain in
      let few : length (reverse (control_in g).older) < most_placed = room_for (control_in g) c (reverse (control_in g).older) older-active chain s (had e h ∙ z) in
      let n : length (meaning x).older ≡ length (control_in g).older = ap (λ (p : Part). length p.older) closed_is ∙ length-map (control_in g).older pairless in
      omega (arith, few, n, older-count x, length-reverse (control_in g).older)
