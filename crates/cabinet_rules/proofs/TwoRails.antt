-- The delivery of A.1 to A.4 meets what is asked of a delivery; A.5 retired it. Assumes nothing.
use Prim.Native.Nat.{ℕ}
use borrow.Author.Tests.{ltb-true}
use mathlib.Core.List.{List, [], ◌∷◌, map}
use mathlib.Core.Path.{◌∙◌, ◌≡◌, ap, refl, sym}
use Rattle.image.specs.Layout.{value_bound}
use Rattle.mask.specs.Placements.{Masked}
use Rattle.method.specs.ControlPart.{part}
use Rattle.cabinet_rules.specs.Delivery.{PartOf}
use Rattle.cabinet_rules.specs.Retired.{any_value, below_wire, two_rails}
use Rattle.cabinet_rules.specs.GoesOn.{from_rails, part_now}
use Rattle.cabinet_rules.proofs.Wire.{wire_laws}
use Rattle.cabinet_rules.proofs.GoesOn.{Carries, carries_same}
use Rattle.cabinet_rules.proofs.Lawful.{DeliveryLaws, RuleLaws, no-stamps, railed_rules}
use Rattle.cabinet_rules.proofs.Retired.{Retired, retired-control}

pub rail_rules : RuleLaws two_rails
rail_rules = railed_rules any_value (λ n e. ltb-true n value_bound e)

-- ---- a control part stays as it is
same-list : (l : List Masked) → map (λ (p : Masked). p) l ≡ l
same-list [] = refl
same-list (p ∷ l) = ap (λ (t : List Masked). p ∷ t) (same-list l)

same-part : (k : PartOf two_rails) → part_now two_rails below_wire from_rails k ≡ k
same-part k = ap (λ (l : List Masked). part k.stopped l k.newest k.working k.failed k.home k.setting k.serial) (same-list k.older)

same_byte : (k : PartOf two_rails) (n : ℕ) → two_rails.memory.bytes k n ≡ below_wire.memory.bytes (part_now two_rails below_wire from_rails k) n
same_byte k n = ap (λ (x : PartOf two_rails). two_rails.memory.bytes x n) (sym (same-part k))

same-tail : (k : PartOf two_rails) (n : ℕ) → two_rails.memory.tail k n ≡ below_wire.memory.tail (part_now two_rails below_wire from_rails k) n
same-tail k n = ap (λ (x : PartOf two_rails). two_rails.memory.tail x n) (sym (same-part k))

pub rails-retired : Retired two_rails below_wire from_rails
rails-retired = record {
  follows = record { same-mask = λ p. refl; same-sites = λ p b. refl; still-usable = λ p h. h; still-numbered = λ k h n. tt };
  back = λ k. k;
  back-older = same-part;
  front = λ g. g;
  behind = λ t. t;
  wrote = λ k g t w. record { front = λ n h. w.front n h ∙ same_byte k n; behind = λ n h. w.behind n h ∙ same-tail k n };
  part = λ g t. refl;
  form = λ k g t w r e. e;
}

pub rails-carried : Carries two_rails below_wire from_rails wire_laws
rails-carried = carries_same two_rails below_wire from_rails wire_laws (λ g. refl) refl (λ k n h. same_byte k n) (λ k n h. same-tail k n) (λ g c h. refl) (λ g c h. refl)

abbrev pub rail_laws : DeliveryLaws two_rails
rail_laws = record {
  rules = rail_rules;
  control = retired-control two_rails below_wire from_rails rails-retired rail_rules wire_laws;
  stamps = no-stamps two_rails rail_rules (λ m n. refl);
}
