-- The delivery of A.6 meets what is asked of a delivery; A.7 retired it, its memory is written over that of A.7, and a converter carries its stores over:
-- the control part gets a serial, blocks stay, and working cards get the newest placement's stamp. Assumes nothing.
use Prim.Native.Nat.{◌-◌, ◌+◌, ◌<◌, ◌≤◌, suc, ℕ}
use borrow.Author.Tests.{leb-true, lt-ltb, ltb-true}
use lib.Dec.{leb, ltb}
use lib.ListN.{length, length-map}
use mathlib.Core.Bool.{Bool, ◌&&◌, cond, false, true}
use mathlib.Core.Path.{◌∙◌, ◌≡◌, ap, refl, sym}
use native.Mathlib.Omega.{arith}
use Rattle.lists.proofs.Bools.{and_l, and_r, never_true, tf}
use Rattle.image.specs.Layout.{card_count, copy_count, most_placed}
use Rattle.mask.specs.Masks.{has_card}
use Rattle.mask.proofs.Masks.{has-card}
use Rattle.mask.proofs.MaskSites.{size-le}
use Rattle.method.proofs.Legal.{Legal}
use Rattle.control.specs.ControlBytes.{Part, control_byte, serial_at, serial_end}
use Rattle.control.specs.Stamps.{no_stamp, stamp_of}
use Rattle.control.proofs.Fields.{at-serial}
use Rattle.cabinet_rules.specs.Cabinet.{cabinet}
use Rattle.cabinet_rules.specs.Converting.{first_stamps, stamped_image, with_serial}
use Rattle.cabinet_rules.specs.Delivery.{Numbered, PartOf, resuming}
use Rattle.cabinet_rules.specs.GoesOn.{from_tables, part_now}
use Rattle.cabinet_rules.specs.Images.{control_by}
use Rattle.cabinet_rules.specs.Retired.{before_stamps, by_tables}
use Rattle.cabinet_rules.proofs.Form.{current_laws}
use Rattle.cabinet_rules.proofs.GoesOn.{Carries}
use Rattle.cabinet_rules.proofs.Lawful.{DeliveryLaws, ShowsStamp, no-stamps}
use Rattle.cabinet_rules.proofs.PlacingLaws.{lawful, table_rules}
use Rattle.cabinet_rules.proofs.Lengthen.{lengthened, lengthened-carries}
use Rattle.cabinet_rules.proofs.Retired.{Retired, retired-control, retired-over}

-- ---- the control part
-- no more placements than the serial that it gets, and members enough for as many failures
first-numbered : (k : PartOf by_tables) → suc (length k.older) < most_placed + copy_count → Numbered (part_now by_tables resuming from_tables k)
first-numbered k h = record { counted = omega (arith, h, length-map k.older (λ p. p)); few = omega (arith, size-le k.newest.mask) }

-- the bytes that are added to the front are the serial's
serial-filled : (k : PartOf by_tables) (n : ℕ) → (leb serial_at n && ltb n serial_end) ≡ true → before_stamps.filled n ≡ control_byte (with_serial k) n
serial-filled k n e =
    let lo : serial_at ≤ n = leb-true serial_at n (and_l (leb serial_at n) (ltb n serial_end) e) in
    let hi : n < serial_end = ltb-true n serial_end (and_r (leb serial_at n) (ltb n serial_end) e) in
    let at : serial_at + (n - serial_at) ≡ n = omega arith in
    sym (at-serial (with_serial k) (n - serial_at) (omega arith)) ∙ ap (control_byte (with_serial k)) at

pub tables-retired : Retired by_tables resuming from_tables
tables-retired = retired-over by_tables resuming from_tables before_stamps (record {
  follows = record { same-mask = λ p. refl; same-sites = λ p b. refl; still-usable = λ p h. h; still-numbered = λ k h n. first-numbered k h };
  bytes-are = λ k n. refl;
  part-is = λ g t. refl;
  form-is = λ g t. refl;
  told = λ k. refl;
  back-placement = λ p. refl;
  back-serial = λ ν. refl;
  fills = serial-filled;
  tails = λ k g t w n h. w.behind n h;
})

abbrev pub table_laws : DeliveryLaws by_tables
table_laws = record {
  rules = table_rules;
  control = retired-control by_tables resuming from_tables tables-retired table_rules current_laws;
  stamps = no-stamps by_tables table_rules (λ m n. refl);
}

-- ---- the converter
-- what it writes of a stamp is shown again
first-shown : (k : Part) → Legal cabinet lawful k → (c : ℕ) → ShowsStamp resuming (first_stamps k c)
first-shown k l c = go (has_card k.working c)
  where
    go : (b : Bool) → ShowsStamp resuming (cond b (stamp_of k) no_stamp)
    go true = current_laws.stamps.stamp-shown k l
    go false = current_laws.stamps.none-shown

-- a card that is not there does not work
first-outside : (k : Part) (c : ℕ) → ltb c card_count ≡ false → first_stamps k c ≡ no_stamp
first-outside k c e = ap (λ (b : Bool). cond b (stamp_of k) no_stamp)
    (never_true (has_card k.working c) (λ h. tf (ltb c card_count) (lt-ltb c card_count (has-card k.working c h)) e))

pub tables-carried : Carries by_tables resuming from_tables current_laws
unfolding stamped_image lengthened
tables-carried = lengthened-carries by_tables resuming from_tables current_laws (λ g. refl)
    (λ g l c. first-shown (part_now by_tables resuming from_tables (control_by by_tables g)) l c)
    (λ g c e. first-outside (part_now by_tables resuming from_tables (control_by by_tables g)) c e)
