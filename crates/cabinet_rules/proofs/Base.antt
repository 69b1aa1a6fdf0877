-- The base meets what is asked of a delivery; A.1 retired it, and its memory is written over that of A.1. Assumes nothing.
use Prim.Native.Nat.{◌+◌, suc, ℕ}
use borrow.Author.Tests.{eqb-true, ltb-true}
use lib.Dec.{eqb}
use mathlib.Core.Bool.{Bool, cond, false, true}
use mathlib.Core.List.{List, [], ◌∷◌, ◌++◌, map}
use mathlib.Core.Path.{◌≡◌, ap, refl, sym}
use native.Mathlib.Omega.{arith}
use Rattle.image.specs.Layout.{value_bound}
use Rattle.mask.specs.Masks.{Byte}
use Rattle.mask.specs.Placements.{chained_sites, mask_sites, older_from_mask, placed}
use Rattle.method.specs.ControlPart.{part_by}
use Rattle.control.specs.ControlBytes.{control_byte, marks_at, marks_from}
use Rattle.cabinet_rules.specs.Delivery.{PartOf}
use Rattle.cabinet_rules.specs.Places.{never_spent}
use Rattle.cabinet_rules.specs.Retired.{base, before_marks, two_rails}
use Rattle.cabinet_rules.specs.GoesOn.{from_base}
use Rattle.cabinet_rules.proofs.GoesOn.{Carries, carries_same}
use Rattle.cabinet_rules.proofs.Lawful.{DeliveryLaws, RuleLaws, mask-few, mask-members, mask-working, no-stamps, not-numbered}
use Rattle.cabinet_rules.proofs.Retired.{Retired, retired-control, retired-over}
use Rattle.cabinet_rules.proofs.TwoRails.{rail_laws, rail_rules}

-- ---- sites: those of a placement marked 0
chained-is : (m : Byte) (b : ℕ) → mask_sites (older_from_mask m) b ≡ chained_sites m b
unfolding mask_sites
chained-is m b = refl

abbrev again : Byte → Byte → Bool
again newest m = eqb m.0 newest.0

pub base_rules : RuleLaws base
unfolding mask_sites
base_rules = record {
  site-count = λ m b u h. rail_rules.site-count (older_from_mask m) b u h;
  site-member = λ m b c u h e. rail_rules.site-member (older_from_mask m) b c u h e;
  site-distinct = λ m b u h. rail_rules.site-distinct (older_from_mask m) b u h;
  mask-back = λ m. refl;
  made-usable = λ m h. h;
  place-usable = mask-members again never_spent;
  place-members = mask-members again never_spent;
  place-working = λ k m c e h. mask-working again never_spent k m e c h;
  place-few = mask-few again never_spent;
  value-fits = λ n e. ltb-true n value_bound e;
  numbers = not-numbered base (λ k. tt);
  same_refl = λ m. refl;
  stamp-same = λ j k n s. refl;
}

-- ---- control bytes: written over those of A.1
-- placements marked 0 leave the marks zero
no-marks : (l : List Byte) (m : Byte) (i : ℕ) → marks_from i (map (λ p. p) (map placed (map older_from_mask l)) ++ (placed (older_from_mask m) ∷ [])) ≡ 0
no-marks [] m i = refl
no-marks (x ∷ l) m i = ap (λ (n : ℕ). 0 + (0 + n)) (no-marks l m (suc i))

marks-zero : (k : PartOf base) (n : ℕ) → eqb n marks_at ≡ true → 0 ≡ two_rails.memory.bytes (part_by older_from_mask (λ σ. σ) (λ ν. ν) k) n
unfolding control_byte
marks-zero k n e = rw (eqb-true n marks_at e) (sym (no-marks k.older k.newest 0))

-- A.1 writes of an older control part what the base wrote
same_bytes : (k : PartOf base) (n : ℕ) → (a : Bool) → eqb n marks_at ≡ a
    → cond a 0 (two_rails.memory.bytes (part_by older_from_mask (λ σ. σ) (λ ν. ν) k) n) ≡ two_rails.memory.bytes (part_by older_from_mask (λ σ. σ) (λ ν. ν) k) n
same_bytes k n true e = marks-zero k n e
same_bytes k n false e = refl

pub base-retired : Retired base two_rails from_base
base-retired = retired-over base two_rails from_base before_marks (record {
  follows = record { same-mask = λ m. refl; same-sites = chained-is; still-usable = λ m h. h; still-numbered = λ k h n. tt };
  bytes-are = λ k n. refl;
  part-is = λ g t. refl;
  form-is = λ g t. refl;
  told = λ k. refl;
  back-placement = λ m. refl;
  back-serial = λ ν. refl;
  fills = marks-zero;
  tails = λ k g t w n h. absurd (omega arith);
})

pub base-carried : Carries base two_rails from_base rail_laws
base-carried = carries_same base two_rails from_base rail_laws (λ g. refl) refl (λ k n h. same_bytes k n (eqb n marks_at) refl) (λ k n h. refl) (λ g c h. refl) (λ g c h. refl)

abbrev pub base_laws : DeliveryLaws base
base_laws = record {
  rules = base_rules;
  control = retired-control base two_rails from_base base-retired base_rules rail_laws;
  stamps = no-stamps base base_rules (λ m n. refl);
}
