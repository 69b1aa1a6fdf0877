-- The rules of A.6 and of A.7 meet what is asked of a delivery: an accepted mask or table gives a usable placement of working cards while there is room, and by
-- A.7 a serial. Assumes nothing.
use Prim.Native.Nat.{◌<◌, ◌≤◌, suc, ℕ}
use borrow.Author.Tests.{leb-false, ltb-true}
use lib.ListN.{length, length-append}
use mathlib.Core.Bool.{Bool, false, not, true}
use mathlib.Core.List.{List, [], ◌∷◌}
use mathlib.Core.Path.{◌∙◌, ◌≡◌, ap, fun_ext, refl, sym}
use native.Mathlib.Omega.{arith}
use Rattle.lists.specs.Tests.{count_below}
use Rattle.lists.proofs.Bools.{not-not-is}
use Rattle.lists.proofs.Counts.{count-but}
use Rattle.image.specs.Layout.{card_count, copy_count, most_placed, value_bound}
use Rattle.mask.specs.Masks.{Byte, has_card, size, without_card}
use Rattle.mask.proofs.Masks.{has-card, has-without}
use Rattle.mask.proofs.MaskSites.{size-le}
use Rattle.mask.specs.Placements.{Placement, Usable}
use Rattle.mask.proofs.SiteLaws.{site-count, site-distinct, site-member}
use Rattle.table_lines.specs.Lines.{has_gap, has_overlap, lines_work}
use Rattle.table_lines.proofs.Accepted.{table-members, table-usable, table-working}
use Rattle.method.specs.ControlPart.{ControlPart}
use Rattle.method.specs.Rules.{row}
use Rattle.method.proofs.Laws.{Laws}
use Rattle.method.proofs.Refusals.{row-clear}
use Rattle.cabinet_rules.specs.Cabinet.{cabinet}
use Rattle.control.specs.ControlBytes.{Part, Setting}
use Rattle.control.specs.Serials.{serial_limit}
use Rattle.control.proofs.StampLaws.{same_refl}
use Rattle.cabinet_rules.specs.Delivery.{Numbered, broken_wire, current, resuming, storable}
use Rattle.cabinet_rules.specs.Places.{PlaceArgument, again_by_rails, argument_rows, by_lines, by_mask, is_spent, never_spent, placed_row, placement_of, table_rows}
use Rattle.cabinet_rules.specs.Retired.{by_tables}
use Rattle.cabinet_rules.proofs.Lawful.{NumberLaws, RuleLaws, lawful_by, mask-members, mask-working, not-numbered, placed-few, placed-serial, rows}

-- ---- A.6 and A.7
pub storable-fits : (n : ℕ) → storable n ≡ true → n < value_bound
storable-fits n e = let h : n < broken_wire = ltb-true n broken_wire e in omega arith

-- An accepted table: its lines are of different working cards, every block is in a line, and there is room.
module _ {S : Type 0} (spent : S → Bool) (k : ControlPart Byte Placement Setting S) where
  module _ (l : List ℕ) (e : table_rows spent k l ≡ 0) where
    from-9 : (not (lines_work k.working l) ≡ false) × (row 17 (has_gap l) (row 18 (has_overlap l) (placed_row spent k)) ≡ 0)
    unfolding table_rows
    from-9 = row-clear (not (lines_work k.working l)) 8 e

    works : lines_work k.working l ≡ true
    works = not-not-is (lines_work k.working l) from-9.0

    from-17 : (has_gap l ≡ false) × (row 18 (has_overlap l) (placed_row spent k) ≡ 0)
    from-17 = row-clear (has_gap l) 16 from-9.1

    room : placed_row spent k ≡ 0
    room = (row-clear (has_overlap l) 17 from-17.1).1

  pub arg-usable : (a : PlaceArgument) → argument_rows spent k a ≡ 0 → Usable (placement_of a)
  arg-usable (by_mask m) e = record { enough = mask-members again_by_rails spent k m e; pairs = refl }
  arg-usable (by_lines l) e = table-usable l k.working (works l e) (from-17 l e).0

  pub arg-members : (a : PlaceArgument) → argument_rows spent k a ≡ 0 → copy_count ≤ size (placement_of a).mask
  arg-members (by_mask m) e = mask-members again_by_rails spent k m e
  arg-members (by_lines l) e = table-members l k.working (works l e) (from-17 l e).0

  pub arg-working : (a : PlaceArgument) (c : ℕ) → argument_rows spent k a ≡ 0 → has_card (placement_of a).mask c ≡ true → has_card k.working c ≡ true
  arg-working (by_mask m) c e h = mask-working again_by_rails spent k m e c h
  arg-working (by_lines l) c e h = table-working l k.working (works l e) c h

  pub arg-placed : (a : PlaceArgument) → argument_rows spent k a ≡ 0 → placed_row spent k ≡ 0
  arg-placed (by_mask m) e = (rows again_by_rails spent k m e).1
  arg-placed (by_lines l) e = room l e

  pub arg-few : (a : PlaceArgument) → argument_rows spent k a ≡ 0 → suc (suc (length k.older)) ≤ most_placed
  arg-few a e = placed-few spent k (arg-placed a e)

-- ---- A.6
pub table_rules : RuleLaws by_tables
table_rules = record {
  site-count = λ p b u h. site-count p b;
  site-member = λ p b c u h e. site-member p b c u h e;
  site-distinct = λ p b u h. site-distinct p b u h;
  mask-back = λ m. refl;
  made-usable = λ m h. record { enough = h; pairs = refl };
  place-usable = arg-usable never_spent;
  place-members = arg-members never_spent;
  place-working = arg-working never_spent;
  place-few = arg-few never_spent;
  value-fits = storable-fits;
  numbers = not-numbered by_tables (λ k. tt);
  same_refl = λ m. refl;
  stamp-same = λ j k n s. refl;
}

-- ---- A.7, the delivery in force
-- A mask has one member fewer without one of them.
size-without : (m : Byte) (c : ℕ) → has_card m c ≡ true → suc (size (without_card m c)) ≡ size m
unfolding size
size-without m c e = sym (count-but card_count (has_card m) c e (has-card m c e)
    ∙ ap (λ (f : ℕ → Bool). suc (count_below card_count f)) (fun_ext (λ x. sym (has-without m c x))))

number_laws : NumberLaws resuming
number_laws = record {
  numbered-start = λ m e. record { counted = omega arith; few = omega (arith, size-le m) };
  numbered-same = same;
  numbered-place = λ k a e h. record {
    counted = omega (arith, h.counted, length-append k.older (k.newest ∷ []));
    few = omega (arith, leb-false serial_limit k.serial (placed-serial is_spent k (arg-placed is_spent k a e)), size-le (placement_of a).mask);
  };
  numbered-fail = λ k c e h. record {
    counted = omega (arith, h.counted, length-append k.older (k.newest ∷ []));
    few = omega (arith, h.few, size-without k.newest.mask c e);
  };
  numbered-settle = λ k h. record { counted = omega (arith, h.counted); few = h.few };
}
  where
    same : (j k : Part) → j.older ≡ k.older → j.newest ≡ k.newest → j.serial ≡ k.serial → Numbered j → Numbered k
    same j k o n s h = record {
      counted = omega (arith, h.counted, s, ap (λ (l : List Placement). length l) o);
      few = omega (arith, h.few, s, ap (λ (p : Placement). size p.mask) n);
    }

pub rule_laws : RuleLaws resuming
rule_laws = record {
  site-count = λ p b u h. site-count p b;
  site-member = λ p b c u h e. site-member p b c u h e;
  site-distinct = λ p b u h. site-distinct p b u h;
  mask-back = λ m. refl;
  made-usable = λ m h. record { enough = h; pairs = refl };
  place-usable = arg-usable is_spent;
  place-members = arg-members is_spent;
  place-working = arg-working is_spent;
  place-few = arg-few is_spent;
  value-fits = storable-fits;
  numbers = number_laws;
  same_refl = same_refl;
  stamp-same = λ j k n s i. record { serial = s i; mask = (n i).mask.0 };
}

abbrev pub lawful : Laws cabinet
lawful = lawful_by current rule_laws
