-- The clauses on a control part, but for pairs, look at masks and not at how sites are chosen: they are the same without its pairs. Assumes nothing.
use mathlib.Core.Path.{◌≡◌, refl, sym, ap, ap₂, ◌∙◌}
use mathlib.Core.Bool.{Bool, ◌&&◌, ◌||◌}
use mathlib.Core.List.{List, [], ◌∷◌, ◌++◌, map, reverse, reverse-append}
use Prim.Native.Nat.{ℕ, suc, ◌+◌}
use lib.Dec.{leb}
use lib.ListN.{length-map}
use Rattle.lists.specs.Tests.{all_in, all_below}
use Rattle.image.specs.Layout.{most_placed, tran_bound}
use Rattle.mask.specs.Masks.{Byte, are_apart, is_within, size}
use Rattle.mask.specs.Placements.{Placement, pairless}
use Rattle.method.specs.ControlPart.{active}
use Rattle.control.specs.ControlBytes.{Part, front_part}
use Rattle.control.specs.Serials.{serial_most}
use Rattle.control.proofs.Front.{active-front, map-append}
use Rattle.control_form.specs.ControlForm.{chain_ok, home_ok, is_safe, masks_of, members_ok, part_ok, serial_ok}

all-front : (f : Byte → Bool) (l : List Placement) → all_in (λ p. f p.mask) (map pairless l) ≡ all_in (λ p. f p.mask) l
all-front f [] = refl
all-front f (p ∷ l) = ap (λ (b : Bool). f p.mask && b) (all-front f l)

pub all-active : (f : Byte → Bool) (k : Part) → all_in (λ p. f p.mask) (active (front_part k)) ≡ all_in (λ p. f p.mask) (active k)
all-active f k = ap (all_in (λ (p : Placement). f p.mask)) (sym (active-front k)) ∙ all-front f (active k)

masks-front : (l : List Placement) → masks_of (map pairless l) ≡ masks_of l
masks-front [] = refl
masks-front (p ∷ l) = ap (λ (m : List Byte). p.mask ∷ m) (masks-front l)

map-reverse : (l : List Placement) → reverse (map pairless l) ≡ map pairless (reverse l)
map-reverse [] = refl
map-reverse (p ∷ l) = reverse-append (pairless p ∷ []) (map pairless l) ∙ ap (λ (t : List Placement). t ++ (pairless p ∷ [])) (map-reverse l)
    ∙ sym (map-append pairless (reverse l) (p ∷ [])) ∙ ap (map pairless) (sym (reverse-append (p ∷ []) l))

serial-front : (k : Part) → serial_ok (front_part k) ≡ serial_ok k
unfolding serial_ok
serial-front k = ap (λ (n : ℕ). leb (suc n) k.serial && leb (k.serial + size k.newest.mask) serial_most) (length-map k.older pairless)

pub front-part : (k : Part) → part_ok (front_part k) ≡ part_ok k
unfolding part_ok
front-part k = ap (λ (b : Bool). are_apart k.working k.failed && b) (
    ap₂ ◌&&◌ (all-active (members_ok k.working k.failed) k) (
    ap₂ ◌&&◌ (ap (chain_ok most_placed k.failed k.newest.mask) (ap masks_of (map-reverse k.older) ∙ masks-front (reverse k.older))) (
    ap₂ (λ (b c : Bool). (k.stopped || is_within k.newest.mask k.working) && ((k.stopped || b) && (all_below tran_bound (λ t. home_ok k.stopped k.working (k.home t)) && c)))
    (all-active (is_safe k.working k.failed) k) (serial-front k))))
