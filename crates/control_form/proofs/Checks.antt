-- The clauses of the control form, as the code goes through them. Assumes nothing.
use mathlib.Core.Path.{◌≡◌, refl, sym, ap, ◌∙◌}
use mathlib.Core.Bool.{Bool, true, and-true, cond}
use mathlib.Core.List.{List, [], ◌∷◌, reverse, reverse-append}
use Prim.Native.Nat.{ℕ, zero, suc, ◌-◌, ◌≤◌, ◌<◌}
use native.Mathlib.Omega.{arith}
use lib.Dec.{leb, eqb}
use lib.ListN.{get_or}
use borrow.Author.Tests.{lt-ltb, leb-true}
use Rattle.lists.specs.Tests.{all_below}
use Rattle.lists.proofs.Bools.{and_l, and_r}
use Rattle.image.specs.Layout.{most_active, most_placed, tran_bound}
use Rattle.mask.specs.Masks.{Byte, byte, is_one_more}
use Rattle.mask.specs.Placements.{Placement}
use Rattle.control.specs.ControlBytes.{front_part, tail_at, count_in, home_in, home_of, placements_in, control_of}
use Rattle.control_form.specs.ControlForm.{chain_ok, control_form, count_ok, home_ok, masks_of}
use Rattle.control_form.specs.Reading.{masks_back}
use Rattle.control.specs.Meaning.{struct_of, mask_in, placement_in, meaning, Counted, Is}
use Rattle.control.specs.declared.Control.{Control}
use Rattle.control_form.proofs.RoundTrip.{form-count}
use Rattle.control.proofs.Fields.{placements-more}
use Rattle.control.proofs.Struct.{read-means}

-- ---- the masks of placements, from the newest back
masks-back : (f : ℕ → Placement) (n : ℕ) → masks_of (reverse (placements_in f n)) ≡ masks_back (λ i. (f i).mask) n
masks-back f zero = refl
masks-back f (suc n) =
    ap (λ (l : List Placement). masks_of (reverse l)) (sym (placements-more f n))
    ∙ ap masks_of (reverse-append (placements_in f n) (f n ∷ []))
    ∙ ap (λ (l : List Byte). (f n).mask ∷ l) (masks-back f n)

pub chain-is : (limit : ℕ) (k : Control)
    → chain_ok limit (byte k.failed) (byte (mask_in k (k.count - 1))) (masks_back (λ i. byte (mask_in k i)) (k.count - 1))
    ≡ chain_ok limit (meaning k).failed (meaning k).newest.mask (masks_of (reverse (meaning k).older))
unfolding meaning
chain-is limit k = ap (chain_ok limit (byte k.failed) (byte (mask_in k (k.count - 1)))) (sym (masks-back (placement_in k) (k.count - 1)))

-- As many as there can be: only then are there more than a place leaves, by one.
pub chain_by : (d : Byte) (f : ℕ → Byte) (n : ℕ) → 1 ≤ n → n ≤ most_active
    → cond (eqb n most_active) (is_one_more d (f (most_active - 1)) (f (most_active - 2))) true ≡ chain_ok most_placed d (f (n - 1)) (masks_back f (n - 1))
unfolding chain_ok
chain_by d f zero lo hi = absurd (omega arith)
chain_by d f (suc zero) lo hi = refl
chain_by d f (suc (suc zero)) lo hi = refl
chain_by d f (suc (suc (suc zero))) lo hi = refl
chain_by d f (suc (suc (suc (suc zero)))) lo hi = sym (and-true (is_one_more d (f 3) (f 2)))
chain_by d f (suc (suc (suc (suc (suc n))))) lo hi = absurd (omega arith)

-- ---- the homes
unfoldable pub home_test : Control → ℕ → Bool
home_test k t = home_ok k.stopped (byte k.working) (home_of t (get_or k.homes (t - 1) 0))

-- Transaction 0 is never open; the others by their byte.
pub home-none : (k : Control) → all_below 1 (home_test k) ≡ true
unfolding home_test home_ok
home-none k = refl

pub home-test : (k : Control) (t : ℕ) → 0 < t → t < tran_bound → home_test k t ≡ home_ok k.stopped (byte k.working) (home_in (get_or k.homes (t - 1) 0))
unfolding home_test
home-test k t lo hi = rw (lt-ltb 0 t lo, lt-ltb t tran_bound hi)

module _ (k : Control) where
  pub homes-are : all_below tran_bound (λ t. home_ok (meaning k).stopped (meaning k).working ((meaning k).home t)) ≡ all_below tran_bound (home_test k)
  unfolding meaning home_test
  homes-are = refl

-- ---- bytes, and the struct that was read off them
module _ (l : List ℕ) (k : Control) (e : k ≡ struct_of l) where
  count-is : k.count ≡ count_in (get_or l 0 0)
  unfolding struct_of
  count-is = ap (λ (x : Control). x.count) e

  pub means_is : (t : ℕ → ℕ) → Counted k → meaning k ≡ front_part (control_of (λ n. get_or l n 0) t)
  means_is t w = ap meaning e ∙ read-means l t (omega (arith, count-is, w.some)) (omega (arith, count-is, w.few))

  pub count-counted : count_ok (λ n. get_or l n 0) ≡ true → Counted k
  unfolding count_ok
  count-counted h =
      let n : ℕ = count_in (get_or l 0 0) in
      let lo : 1 ≤ n = leb-true 1 n (and_l (leb 1 n) (leb n most_active) h) in
      let hi : n ≤ most_active = leb-true n most_active (and_r (leb 1 n) (leb n most_active) h) in
      record { some = omega (arith, count-is); few = omega (arith, count-is) }

  -- Where the form holds, the struct is the control part that the bytes show, without its pairs.
  pub form-reads : control_form l ≡ true → Is k (front_part (control_of (λ n. get_or l n 0) (tail_at l)))
  form-reads h =
      let b = form-count (λ n. get_or l n 0) (tail_at l) h in
      let w : Counted k = record { some = omega (arith, count-is, b.0); few = omega (arith, count-is, b.1) } in
      record { counted = w; means = means_is (tail_at l) w }
