-- There is room for a placement more: while more than the limit are active, the one before the newest has a failed card beside the newest's
-- members, so the failure of one of these leaves it two failed cards, and the store stops. Assumes nothing.
use Prim.Native.Nat.{◌<◌, ◌≤◌, suc, ℕ}
use borrow.Author.Tests.{eqb-true, le-leb, lt-ltb, ltb-false, ne_eqb}
use lib.Dec.{eqb, ltb}
use lib.ListN.{length}
use mathlib.Core.Bool.{◌&&◌, false, not, true}
use mathlib.Core.List.{List, [], ◌∷◌}
use mathlib.Core.Logic.{◌⊎◌, inl, inr}
use mathlib.Core.Path.{◌∙◌, ◌≡◌, ap, refl}
use native.Mathlib.Omega.{arith}
use Rattle.lists.specs.Tests.{In, count_below}
use Rattle.lists.proofs.Bools.{and_l, and_r, eqb-self, not_is, or_l, or_r, split, tf}
use Rattle.lists.proofs.Counts.{any-below-out, pigeon}
use Rattle.lists.proofs.Lists.{any_none}
use Rattle.image.specs.Layout.{card_count, copy_count, most_placed}
use Rattle.mask.specs.Masks.{Byte, has_card, is_one_more, with_card, without_card}
use Rattle.mask.specs.Placements.{Placement}
use Rattle.mask.proofs.Masks.{byte-path, has-card, has-with}
use Rattle.method.specs.Changes.{marked}
use Rattle.method.specs.ControlPart.{active}
use Rattle.method.specs.Rules.{lost, lost_of, stopping}
use Rattle.control.specs.ControlBytes.{Part}
use Rattle.control_form.specs.ControlForm.{chain_ok, masks_of}
use Rattle.cabinet_rules.specs.Cabinet.{cabinet}
use Rattle.cabinet_rules.proofs.Form.{length-masks}

-- x is the failed card that p has beside the members of n, and c is one of these
module _ (d n p w : Byte) (c x : ℕ) (hx : x < card_count) (dx : has_card d x ≡ true) (nx : has_card n x ≡ false)
    (is : p ≡ with_card n x) (h : has_card n c ≡ true) where
  hc : c < card_count
  hc = has-card n c h

  in_p : (y : ℕ) → has_card (with_card n x) y ≡ true → has_card p y ≡ true
  in_p y e = ap (λ (z : Byte). has_card z y) is ∙ e

  c-in : has_card p c ≡ true
  c-in = in_p c (has-with n x c (lt-ltb x card_count hx) ∙ or_r (eqb c x) (has_card n c) h)

  x-in : has_card p x ≡ true
  x-in = in_p x (has-with n x x (lt-ltb x card_count hx) ∙ or_l (eqb x x) (has_card n x) (eqb-self x))

  c-failed : has_card (with_card d c) c ≡ true
  c-failed = has-with d c c (lt-ltb c card_count hc) ∙ or_l (eqb c c) (has_card d c) (eqb-self c)

  x-failed : has_card (with_card d c) x ≡ true
  x-failed = has-with d c x (lt-ltb c card_count hc) ∙ or_r (eqb x c) (has_card d x) dx

  apart : eqb x c ≡ false
  apart = ne_eqb x c (λ z. tf (has_card n c) h (rw z at nx))

  two : copy_count ≤ count_below card_count (λ y. has_card p y && has_card (with_card d c) y)
  two = pigeon card_count (x ∷ c ∷ []) (λ y. has_card p y && has_card (with_card d c) y) (rw apart) both small
    where
      both : (y : ℕ) → In y (x ∷ c ∷ []) → (has_card p y && has_card (with_card d c) y) ≡ true
      both y (inl z) = rw (z, x-in, x-failed)
      both y (inr (inl z)) = rw (z, c-in, c-failed)
      both y (inr (inr z)) = absurd z

      small : (y : ℕ) → In y (x ∷ c ∷ []) → y < card_count
      small y (inl z) = omega (arith, z, hx)
      small y (inr (inl z)) = omega (arith, z, hc)
      small y (inr (inr z)) = absurd z

two-failed : (d n p w : Byte) (c : ℕ) → is_one_more d n p ≡ true → has_card n c ≡ true → lost_of cabinet tt w (with_card d c) p ≡ true
unfolding is_one_more lost_of
two-failed d n p w c e h =
    let o = any-below-out card_count (λ x. has_card d x && (not (has_card n x) && eqb p.0 (with_card n x).0)) e in
    let x : ℕ = o.0 in
    let rest = and_r (has_card d x) _ o.2 in
    let nx : has_card n x ≡ false = not_is (has_card n x) (and_l (not (has_card n x)) _ rest) in
    let is : p ≡ with_card n x = byte-path p (with_card n x) (eqb-true p.0 (with_card n x).0 (and_r (not (has_card n x)) _ rest)) in
    or_l _ _ (le-leb copy_count _ (two d n p w c x o.1 (and_l (has_card d x) _ o.2) nx is h))

-- l is the older placements, the newest of them first
pub room_for : (k : Part) (c : ℕ) (l : List Placement) → ((p : Placement) → In p l → In p (active k))
    → chain_ok most_placed k.failed k.newest.mask (masks_of l) ≡ true
    → stopping cabinet k c ≡ false → has_card k.newest.mask c ≡ true → length l < most_placed
unfolding chain_ok stopping
room_for k c [] in-active e s h = omega arith
room_for k c (p ∷ l) in-active e s h = go (split (ltb most_placed (suc (suc (length (masks_of l))))))
  where
    go : (ltb most_placed (suc (suc (length (masks_of l)))) ≡ true) ⊎ (ltb most_placed (suc (suc (length (masks_of l)))) ≡ false) → suc (length l) < most_placed
    go (inl more) =
        let one : is_one_more k.failed k.newest.mask p.mask ≡ true = and_l _ (chain_ok most_placed k.failed p.mask (masks_of l)) (rw more at e) in
        tf (lost cabinet (marked cabinet k c) p) (two-failed k.failed k.newest.mask p.mask (without_card k.working c) c one h)
        (any_none (lost cabinet (marked cabinet k c)) (active k) p s (in-active p (inl refl)))
    go (inr few) = omega (arith, length-masks l, ltb-false most_placed (suc (suc (length (masks_of l)))) few)
