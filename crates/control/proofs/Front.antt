-- The control part without its pairs has the same bytes before the tables: masks and marks do not tell pairs. Assumes nothing.
use mathlib.Core.Path.{◌≡◌, refl, sym, ap, fun_ext, ◌∙◌}
use mathlib.Core.Bool.{cond}
use mathlib.Core.List.{List, [], ◌∷◌, ◌++◌, map}
use Prim.Native.Nat.{ℕ, suc, ◌+◌}
use lib.ListN.{get_or, length-map}
use Rattle.lists.specs.Segments.{splice}
use Rattle.lists.specs.Tabulate.{tabulate}
use Rattle.image.specs.Layout.{control_size, most_active}
use Rattle.mask.specs.Masks.{bit_of}
use Rattle.mask.specs.Placements.{Choice, Placement, by_rails, by_table, chained, is_by_rails, is_by_table, pairless, pairless_choice}
use Rattle.method.specs.ControlPart.{active, added, part}
use Rattle.control.specs.ControlBytes.{Part, Serial, control_byte, first_byte, front_part, marks_from, mask_bytes}
use Rattle.control.specs.Meaning.{put_control}
use Rattle.control.proofs.Fields.{at-failed, at_first_lem, at_home, at-marks, at-mask, at_rest, at-serial, at-working, each-field}

pub map-append : {A B : Type 0} (f : A → B) (l m : List A) → map f (l ++ m) ≡ map f l ++ map f m
map-append f [] m = refl
map-append f (x ∷ l) m = ap (λ t. f x ∷ t) (map-append f l m)

pub active-front : (k : Part) → map pairless (active k) ≡ active (front_part k)
active-front k = map-append pairless k.older (k.newest ∷ [])

masks-front : (l : List Placement) → mask_bytes (map pairless l) ≡ mask_bytes l
masks-front [] = refl
masks-front (p ∷ l) = ap (λ (t : List ℕ). p.mask.0 ∷ t) (masks-front l)

marks-front : (i : ℕ) (l : List Placement) → marks_from i (map pairless l) ≡ marks_from i l
marks-front i [] = refl
marks-front i (p ∷ l) = go p.choice (marks-front (suc i) l)
  where
    go : (c : Choice) {x y : ℕ} → x ≡ y
        → cond (is_by_rails (pairless_choice c)) (bit_of i) 0 + (cond (is_by_table (pairless_choice c)) (bit_of (most_active + i)) 0 + x)
        ≡ cond (is_by_rails c) (bit_of i) 0 + (cond (is_by_table c) (bit_of (most_active + i)) 0 + y)
    go chained e = ap (λ (n : ℕ). 0 + (0 + n)) e
    go by_rails e = ap (λ (n : ℕ). bit_of i + (0 + n)) e
    go (by_table x) e = ap (λ (n : ℕ). 0 + (bit_of (most_active + i) + n)) e

pub front-byte : (k : Part) (n : ℕ) → control_byte (front_part k) n ≡ control_byte k n
front-byte k = each-field (λ n. control_byte (front_part k) n ≡ control_byte k n)
    (at_first_lem (front_part k) ∙ ap (λ (n : ℕ). first_byte k.stopped (suc n)) (length-map k.older pairless) ∙ sym (at_first_lem k))
    (λ i h. at-mask (front_part k) i h ∙ ap (λ (l : List ℕ). get_or l i 0) (ap mask_bytes (sym (active-front k)) ∙ masks-front (active k)) ∙ sym (at-mask k i h))
    (at-working (front_part k) ∙ sym (at-working k))
    (at-failed (front_part k) ∙ sym (at-failed k))
    (at-marks (front_part k) ∙ ap (marks_from 0) (sym (active-front k)) ∙ marks-front 0 (active k) ∙ sym (at-marks k))
    (λ i h. at_home (front_part k) i h ∙ sym (at_home k i h))
    (λ i h. at-serial (front_part k) i h ∙ sym (at-serial k i h))
    (λ n h. at_rest (front_part k) n h ∙ sym (at_rest k n h))

pub front-put : (image : List ℕ) (k : Part) → put_control image (front_part k) ≡ put_control image k
unfolding put_control
front-put image k = ap (λ (f : ℕ → ℕ). splice image 0 (tabulate control_size f)) (fun_ext (front-byte k))

-- one placement more
pub added-front : (k : Part) (p : Placement) (ν : Serial) → added (front_part k) (pairless p) ν ≡ front_part (added k p ν)
added-front k p ν = ap (λ (l : List Placement). part k.stopped l (pairless p) k.working k.failed k.home k.setting ν) (sym (active-front k))
