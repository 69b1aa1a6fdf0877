-- The control form, clause by clause on the bytes, as the code goes through them: each clause of the definition is one of
-- the bytes, and the order is the code's. Assumes nothing.
use mathlib.Core.Path.{◌≡◌, refl, sym, ap, ap₂, ◌∙◌}
use mathlib.Core.Bool.{Bool, true, false, ◌&&◌, ◌||◌}
use mathlib.Core.List.{List, ◌∷◌, reverse}
use Prim.Native.Nat.{ℕ, zero, suc, ◌+◌, ◌-◌, ◌%◌, ◌≤◌, ◌<◌}
use native.Mathlib.Omega.{arith}
use lib.Dec.{eqb, leb}
use lib.ListN.{get_or}
use Rattle.lists.specs.Tests.{all_in, all_below}
use Rattle.lists.proofs.Bools.{same_test, split}
use mathlib.Core.Logic.{◌⊎◌, inl, inr}
use Rattle.lists.proofs.Counts.{all-below, below_all, below-ext}
use Rattle.image.specs.Layout.{control_size, most_active, most_placed, tran_bound, tran_count}
use Rattle.mask.specs.Masks.{Byte, are_apart, byte, is_within, size}
use Rattle.method.specs.ControlPart.{active}
use Rattle.control.specs.ControlBytes.{control_of, count_in, failed_at, field, home_in}
use Rattle.control.specs.ControlBytes.{homes_at, homes_end, last_mask_at, marks_at, masks_at, serial_end, stopped_in, working_at}
use Rattle.control.specs.Meaning.{Counted, mask_in, meaning, placement_in, row_of, struct_of}
use Rattle.control.specs.Serials.{serial_most}
use Rattle.control.proofs.Active.{every-active, mask_passes}
use Rattle.control.proofs.Struct.{at_row, length-placements}
use Rattle.control_form.specs.ControlForm.{all_safe, chain_ok, count_ok, front_ok, home_ok, is_safe, masks_of, members_ok, part_ok, serial_ok, zero_fields_ok}
use Rattle.control_form.specs.Reading.{all_from, chain_in, home_fits_at, home_ok_at, is_home_at, is_zero_at, marks_ok}
use Rattle.control_form.specs.Reading.{mask_at, mask_test, masks_back, newest_in, other_zeros, placement_ok, serial_of, serials_in}
use Rattle.control_form.proofs.Checks.{chain-is, count-counted, home-none, home-test, home_test, homes-are}
use Rattle.control_form.proofs.Checks.{means_is}
use Rattle.control_form.proofs.FrontPart.{front-part}
use Rattle.control_form.proofs.Ranges.{from_all, from-both, from_each}
use Rattle.control_form.proofs.ZeroFields.{zero-fields-by}

-- ---- the order of the clauses
tail-four : (a b c e h : Bool) → (a && (b && (c && (h && e)))) ≡ ((a && (b && (c && e))) && h)
tail-four true true true true true = refl
tail-four true true true true false = refl
tail-four true true true false true = refl
tail-four true true true false false = refl
tail-four true true false e h = refl
tail-four true false c e h = refl
tail-four false b c e h = refl

-- The transactions' bytes h and the homes t go last but for the serial u; members m and safety s go together.
order : (z h a m f n s t u : Bool) → ((z && h) && (a && (m && (f && (n && (s && (t && u))))))) ≡ (z && (a && ((m && s) && (f && (n && ((h && t) && u))))))
order false h a m f n s t u = refl
order true true a m f n s t u = last a m f n s (t && u)
  where
    last : (a m f n s t : Bool) → (a && (m && (f && (n && (s && t))))) ≡ (a && ((m && s) && (f && (n && t))))
    last false m f n s t = refl
    last true false f n s t = refl
    last true true f n true t = refl
    last true true false n false t = refl
    last true true true false false t = refl
    last true true true true false t = refl
order true false a m f n s t u = none a m f n s
  where
    none : (a m f n s : Bool) → false ≡ (a && ((m && s) && (f && (n && false))))
    none false m f n s = refl
    none true false f n s = refl
    none true true f n false = refl
    none true true false n true = refl
    none true true true false true = refl
    none true true true true true = refl

-- Two clauses on each placement are one.
pair : (n : ℕ) (stopped : Bool) (f g : ℕ → Bool) → (all_below n f && (stopped || all_below n g)) ≡ all_below n (λ i. f i && (stopped || g i))
pair zero true f g = refl
pair zero false f g = refl
pair (suc n) stopped f g = step (f n) (g n) (all_below n f) (all_below n g) stopped ∙ ap (λ (t : Bool). (f n && (stopped || g n)) && t) (pair n stopped f g)
  where
    step : (a b c d s : Bool) → ((a && c) && (s || (b && d))) ≡ ((a && (s || b)) && (c && (s || d)))
    step false b c d s = refl
    step true b false d s = both s b
      where
        both : (s b : Bool) → false ≡ ((s || b) && false)
        both true b = refl
        both false true = refl
        both false false = refl
    step true b true d true = refl
    step true b true d false = refl

-- The clauses in the code's order.
abbrev pub clauses : List ℕ → Bool
clauses l = other_zeros l
    && (are_apart (byte (get_or l working_at 0)) (byte (get_or l failed_at 0))
    && (all_below (count_in (get_or l 0 0)) (mask_test (placement_ok (stopped_in (get_or l 0 0))) l)
    && (chain_in l
    && (newest_in l
    && (all_from homes_at homes_end (home_fits_at l) && serials_in l)))))

module _ (l : List ℕ) (t : ℕ → ℕ) (ok : count_ok (λ n. get_or l n 0) ≡ true) (bytes : (n : ℕ) → get_or l n 0 < 256) where
  w : Counted (struct_of l)
  w = count-counted l (struct_of l) refl ok

  counted : count_in (get_or l 0 0) ≤ most_active
  counted = unfold struct_of in w.few

  masks-are : (f : Byte → Byte → Byte → Bool)
      → all_in (λ p. f (meaning (struct_of l)).working (meaning (struct_of l)).failed p.mask) (active (meaning (struct_of l)))
      ≡ all_below (count_in (get_or l 0 0)) (mask_test f l)
  masks-are f = every-active (f (meaning (struct_of l)).working (meaning (struct_of l)).failed) (struct_of l) w
      ∙ unfold meaning struct_of in (below-ext (count_in (get_or l 0 0)) (mask_passes (f (byte (get_or l working_at 0)) (byte (get_or l failed_at 0))) (struct_of l)) (mask_test f l) one)
    where
      one : (i : ℕ) → i < count_in (get_or l 0 0) → mask_passes (f (byte (get_or l working_at 0)) (byte (get_or l failed_at 0))) (struct_of l) i ≡ mask_test f l i
      one i h = unfold mask_passes mask_test struct_of in
          (ap (λ (m : ℕ). f (byte (get_or l working_at 0)) (byte (get_or l failed_at 0)) (byte m)) (at_row l most_active masks_at i (omega (arith, counted))))

  -- the masks that are read, up to the newest
  mask-as : (i : ℕ) → i < most_active → byte (mask_in (struct_of l) i) ≡ mask_at l i
  unfolding struct_of
  mask-as i h = ap byte (at_row l most_active masks_at i h)

  masks-as : (n : ℕ) → n ≤ most_active → masks_back (λ i. byte (mask_in (struct_of l) i)) n ≡ masks_back (mask_at l) n
  masks-as zero h = refl
  masks-as (suc n) h = ap₂ (λ (m : Byte) (r : List Byte). m ∷ r) (mask-as n (omega arith)) (masks-as n (omega arith))

  chain-as : chain_ok most_placed (meaning (struct_of l)).failed (meaning (struct_of l)).newest.mask (masks_of (reverse (meaning (struct_of l)).older)) ≡ chain_in l
  chain-as = sym (chain-is most_placed (struct_of l)) ∙ unfold chain_in struct_of in
      (ap₂ (chain_ok most_placed (byte (get_or l failed_at 0))) (mask-as (count_in (get_or l 0 0) - 1) (omega (arith, counted)))
      (masks-as (count_in (get_or l 0 0) - 1) (omega (arith, counted))))

  newest-as : ((meaning (struct_of l)).stopped || is_within (meaning (struct_of l)).newest.mask (meaning (struct_of l)).working) ≡ newest_in l
  unfolding newest_in meaning struct_of
  newest-as =
      let some : 1 ≤ count_in (get_or l 0 0) = w.some in
      let at : masks_at + (count_in (get_or l 0 0) - 1) ≡ last_mask_at (count_in (get_or l 0 0)) = omega arith in
      ap (λ (m : ℕ). stopped_in (get_or l 0 0) || is_within (byte m) (byte (get_or l working_at 0)))
      (at_row l most_active masks_at (count_in (get_or l 0 0) - 1) (omega (arith, counted)) ∙ ap (λ (j : ℕ). get_or l j 0) at)

  serial-as : serial_ok (meaning (struct_of l)) ≡ serials_in l
  unfolding serial_ok serials_in meaning struct_of
  serial-as =
      let some : 1 ≤ count_in (get_or l 0 0) = w.some in
      let at : masks_at + (count_in (get_or l 0 0) - 1) ≡ last_mask_at (count_in (get_or l 0 0)) = omega arith in
      let all : suc (count_in (get_or l 0 0) - 1) ≡ count_in (get_or l 0 0) = omega arith in
      ap₂ (λ (n m : ℕ). leb n (serial_of l) && leb (serial_of l + size (byte m)) serial_most)
      (ap suc (length-placements (placement_in (struct_of l)) (count_in (get_or l 0 0) - 1)) ∙ all)
      (at_row l most_active masks_at (count_in (get_or l 0 0) - 1) (omega (arith, counted)) ∙ ap (λ (j : ℕ). get_or l j 0) at)

  safe-as : ((meaning (struct_of l)).stopped || all_safe (meaning (struct_of l)))
      ≡ (stopped_in (get_or l 0 0) || all_below (count_in (get_or l 0 0)) (mask_test is_safe l))
  safe-as = ap (λ (t : Bool). (meaning (struct_of l)).stopped || t) (masks-are is_safe) ∙ unfold meaning struct_of in refl

  -- the homes
  home-at : (i : ℕ) → i < tran_count → home_test (struct_of l) (suc i) ≡ home_ok_at (stopped_in (get_or l 0 0)) l (homes_at + i)
  unfolding struct_of home_ok_at
  home-at i h =
      let s : suc i - 1 ≡ i = omega arith in
      home-test (struct_of l) (suc i) (omega arith) (omega arith)
      ∙ ap (λ (b : ℕ). home_ok (stopped_in (get_or l 0 0)) (byte (get_or l working_at 0)) (home_in b))
      (ap (λ (j : ℕ). get_or (row_of l homes_at tran_count) j 0) s ∙ at_row l tran_count homes_at i h)

  opened-as : all_below tran_bound (home_test (struct_of l)) ≡ all_from homes_at homes_end (home_ok_at (stopped_in (get_or l 0 0)) l)
  opened-as = same_test (all_below tran_bound (home_test (struct_of l))) (all_from homes_at homes_end (home_ok_at (stopped_in (get_or l 0 0)) l))
      (λ t. from_each homes_at (home_ok_at (stopped_in (get_or l 0 0)) l) tran_count homes_end refl
      (λ i h. sym (home-at i h) ∙ below_all tran_bound (home_test (struct_of l)) (suc i) t (omega arith)))
      (λ t. all-below tran_bound (home_test (struct_of l)) (back t))
    where
      back : all_from homes_at homes_end (home_ok_at (stopped_in (get_or l 0 0)) l) ≡ true → (t : ℕ) → t < tran_bound → home_test (struct_of l) t ≡ true
      back e zero h = below_all 1 (home_test (struct_of l)) 0 (home-none (struct_of l)) (omega arith)
      back e (suc i) h = home-at i (omega arith)
          ∙ from_all homes_at (home_ok_at (stopped_in (get_or l 0 0)) l) homes_end (homes_at + i) e (omega arith) (omega arith)

  abbrev homes_open : Bool
  homes_open = all_below tran_bound (λ t. home_ok (meaning (struct_of l)).stopped (meaning (struct_of l)).working ((meaning (struct_of l)).home t))

  homes-as : (all_from homes_at homes_end (is_home_at l) && homes_open) ≡ all_from homes_at homes_end (home_fits_at l)
  unfolding home_fits_at
  homes-as = ap (λ (t : Bool). all_from homes_at homes_end (is_home_at l) && t) (homes-are (struct_of l) ∙ opened-as)
      ∙ sym (from-both homes_at homes_end (is_home_at l) (home_ok_at (stopped_in (get_or l 0 0)) l))

  zeros-as : zero_fields_ok (control_of (λ n. get_or l n 0) t) (λ n. get_or l n 0) ≡ (other_zeros l && all_from homes_at homes_end (is_home_at l))
  unfolding other_zeros
  zeros-as = zero-fields-by l t ok bytes
      ∙ tail-four (eqb (get_or l 0 0 % field) 0) (all_from (masks_at + count_in (get_or l 0 0)) working_at (is_zero_at l)) (marks_ok (count_in (get_or l 0 0)) (get_or l marks_at 0))
      (all_from serial_end control_size (is_zero_at l)) (all_from homes_at homes_end (is_home_at l))

  apart-as : are_apart (meaning (struct_of l)).working (meaning (struct_of l)).failed ≡ are_apart (byte (get_or l working_at 0)) (byte (get_or l failed_at 0))
  unfolding meaning struct_of
  apart-as = refl

  part-as : part_ok (control_of (λ n. get_or l n 0) t) ≡ (are_apart (byte (get_or l working_at 0)) (byte (get_or l failed_at 0))
      && (all_below (count_in (get_or l 0 0)) (mask_test members_ok l)
      && (chain_in l
      && (newest_in l
      && ((stopped_in (get_or l 0 0) || all_below (count_in (get_or l 0 0)) (mask_test is_safe l)) && (homes_open && serials_in l))))))
  unfolding part_ok
  part-as = sym (front-part (control_of (λ n. get_or l n 0) t)) ∙ ap part_ok (sym (means_is l (struct_of l) refl t w))
      ∙ ap₂ ◌&&◌ apart-as (ap₂ ◌&&◌ (masks-are members_ok) (ap₂ ◌&&◌ chain-as (ap₂ ◌&&◌ newest-as (ap₂ (λ (t u : Bool). t && (homes_open && u)) safe-as serial-as))))

  placements-as : (all_below (count_in (get_or l 0 0)) (mask_test members_ok l) && (stopped_in (get_or l 0 0) || all_below (count_in (get_or l 0 0)) (mask_test is_safe l)))
      ≡ all_below (count_in (get_or l 0 0)) (mask_test (placement_ok (stopped_in (get_or l 0 0))) l)
  placements-as = pair (count_in (get_or l 0 0)) (stopped_in (get_or l 0 0)) (mask_test members_ok l) (mask_test is_safe l)
      ∙ below-ext (count_in (get_or l 0 0)) (λ i. mask_test members_ok l i && (stopped_in (get_or l 0 0) || mask_test is_safe l i)) (mask_test (placement_ok (stopped_in (get_or l 0 0))) l)
      (λ i h. unfold mask_test placement_ok in refl)

  pub form-by : front_ok (control_of (λ n. get_or l n 0) t) (λ n. get_or l n 0) ≡ clauses l
  unfolding front_ok
  form-by = ap (λ (b : Bool). b && (zero_fields_ok (control_of (λ n. get_or l n 0) t) (λ n. get_or l n 0) && part_ok (control_of (λ n. get_or l n 0) t))) ok
      ∙ ap₂ ◌&&◌ zeros-as part-as
      ∙ order (other_zeros l) (all_from homes_at homes_end (is_home_at l)) (are_apart (byte (get_or l working_at 0)) (byte (get_or l failed_at 0)))
      (all_below (count_in (get_or l 0 0)) (mask_test members_ok l)) (chain_in l) (newest_in l)
      (stopped_in (get_or l 0 0) || all_below (count_in (get_or l 0 0)) (mask_test is_safe l)) homes_open (serials_in l)
      ∙ ap₂ (λ (p h : Bool). other_zeros l && (are_apart (byte (get_or l working_at 0)) (byte (get_or l failed_at 0)) && (p && (chain_in l && (newest_in l && (h && serials_in l))))))
      placements-as homes-as

pub front-is : (l : List ℕ) (t : ℕ → ℕ) → ((n : ℕ) → get_or l n 0 < 256)
    → front_ok (control_of (λ n. get_or l n 0) t) (λ n. get_or l n 0) ≡ (count_ok (λ n. get_or l n 0) && clauses l)
unfolding front_ok
front-is l t bytes = go (split (count_ok (λ n. get_or l n 0)))
  where
    go : (count_ok (λ n. get_or l n 0) ≡ true) ⊎ (count_ok (λ n. get_or l n 0) ≡ false)
        → front_ok (control_of (λ n. get_or l n 0) t) (λ n. get_or l n 0) ≡ (count_ok (λ n. get_or l n 0) && clauses l)
    go (inl e) = form-by l t e bytes ∙ rw e
    go (inr e) = rw e
