-- What the code tells is what the definitions say: refused by a row, the mask of a placement by its number, a home by the
-- transaction's byte, the lowest free number by the numbers below it, and the holders by their mask. Assumes nothing.
use Prim.Native.Nat.{◌%◌, ◌+◌, ◌-◌, ◌/◌, ◌<◌, ◌≤◌, suc, zero, ℕ}
use borrow.Author.Tests.{le-leb, lt-leb}
use lib.Dec.{ltb}
use lib.ListN.{get_or, length, length-map}
use mathlib.Core.Bool.{Bool, cond, false, true}
use mathlib.Core.List.{List, [], ◌∷◌, map}
use mathlib.Core.Logic.{◌≢◌}
use mathlib.Core.Path.{◌∙◌, ◌≡◌, ap, fun_ext, refl, sym}
use native.Mathlib.Nat.{mod-eq_of_lt}
use native.Mathlib.Numerals.{add-one}
use native.Mathlib.Omega.{arith}
use Rattle.lists.specs.Tests.{count_below}
use Rattle.image.specs.Layout.{card_count, most_active, tran_bound, tran_count}
use Rattle.mask.specs.Masks.{byte, size}
use Rattle.mask.specs.Placements.{Placement, pairless}
use Rattle.method.specs.ControlPart.{active, is_open}
use Rattle.control.specs.ControlBytes.{Part, field, field_bound, front_part, home_of, open_bit, placements_in}
use Rattle.control.specs.Meaning.{Counted, meaning, placement_in}
use Rattle.control.specs.declared.Control.{Control}
use Rattle.control.proofs.Front.{active-front}
use Rattle.control.proofs.Struct.{active-is, length-placements}
use Rattle.cabinet_rules.specs.Cabinet.{tran_ok}
use Rattle.image.specs.declared.Card.{Card}
use Rattle.trail.specs.Trail.{Lists, first_in}
use Rattle.trail.specs.declared.Holders.{Holders}
use Rattle.std.specs.Prelude.{Option, None, Result, Some}
use Rattle.refusals.specs.Refusals.{number}
use Rattle.refusals.specs.declared.Refusal.{Refusal}
use Rattle.refusals.proofs.HandedOn.{HandsOn, handed-on}
use Rattle.refusals.proofs.Numbers.{not-none}
use Rattle.queries.specs.Queries.{Told, tells, tells_none, not_told, shown_told, cards_in, first_told, free_from, free_in, if_in_range, mask_of_nth, told_home, told_of, unless_row}
use Rattle.queries.specs.declared.Query.{Query}
use Rattle.queries.specs.declared.Query.TheVariants.{Failed, FreeTransaction, Home, Placement as Query-as-Placement, PlacementCount}
use Rattle.queries.specs.declared.Query.TheVariants.{Stopped, Working}

-- ---- refused, or told
pub refused-by : (r : Refusal) (a : Result (Option ℕ) Refusal) (row : ℕ) (t : Told) → number r ≡ row → HandsOn r a → shown_told a ≡ unless_row row t
refused-by r a row t e h = ap shown_told (handed-on a h) ∙ go (number r) e (not-none r)
  where
    go : (n : ℕ) → n ≡ row → n ≢ 0 → not_told n ≡ unless_row row t
    go zero e d = absurd (d refl)
    go (suc n) e d = rw (sym e)

pub told-by : (row : ℕ) (r t : Told) → 0 ≡ row → r ≡ t → r ≡ unless_row row t
told-by row r t e same = rw (sym e) same

-- ---- active placements
-- number i of the first n that f gives
nth-mask : (f : ℕ → Placement) (n i : ℕ) → i < n → mask_of_nth (placements_in f n) i ≡ tells (f i).mask.0
nth-mask f zero i h = absurd (omega arith)
nth-mask f (suc n) zero h = refl
nth-mask f (suc n) (suc i) h = nth-mask (λ i. f (suc i)) n i (omega arith)

past-masks : (f : ℕ → Placement) (n i : ℕ) → n ≤ i → mask_of_nth (placements_in f n) i ≡ tells_none
past-masks f zero i h = refl
past-masks f (suc n) zero h = absurd (omega arith)
past-masks f (suc n) (suc i) h = past-masks (λ i. f (suc i)) n i (omega arith)

module _ (k : Control) (w : Counted k) where
  all-active : active (meaning k) ≡ placements_in (placement_in k) k.count
  unfolding meaning
  all-active = active-is k w

  pub count-told : k.count ≡ length (active (meaning k))
  count-told = sym (ap length all-active ∙ length-placements (placement_in k) k.count)

  -- number i, of those that count
  pub mask-told : (i : ℕ) → i < k.count → get_or k.masks i 0 < 256 → tells (get_or k.masks i 0) ≡ mask_of_nth (active (meaning k)) i
  mask-told i h small =
      ap (λ (n : ℕ). tells n) (sym (mod-eq_of_lt small))
      ∙ sym (ap (λ (l : List Placement). mask_of_nth l i) all-active ∙ nth-mask (placement_in k) k.count i h)

  pub none_told : (i : ℕ) → k.count ≤ i → tells_none ≡ mask_of_nth (active (meaning k)) i
  none_told i h =
      sym (ap (λ (l : List Placement). mask_of_nth l i) all-active ∙ past-masks (placement_in k) k.count i h)

-- ---- the home of a transaction, by its byte
module _ (t n : ℕ) (known : tran_ok t ≡ true) where
  pub home-told : open_bit ≤ n → tells (n / field % field_bound) ≡ if_in_range (tran_ok t) (told_home (home_of t n))
  home-told h = rw (known, le-leb open_bit n h)

  pub no-home-told : n < open_bit → tells_none ≡ if_in_range (tran_ok t) (told_home (home_of t n))
  no-home-told h = rw (known, lt-leb open_bit n h)

-- ---- the lowest free transaction
-- that from t on, where t is a transaction, by whether t is open
free_step : (k : Part) (t : ℕ) → t < tran_bound → free_from k t (tran_bound - t) ≡ cond (is_open k t) (free_from k (t + 1) (tran_bound - (t + 1))) t
free_step k t h =
    let e : tran_bound - t ≡ suc (tran_bound - (t + 1)) = omega arith in
    ap (free_from k t) e ∙ ap (λ (n : ℕ). cond (is_open k t) (free_from k n (tran_bound - (t + 1))) t) (sym (add-one t))

module _ (k : Part) where
  pub free-first : free_in k ≡ free_from k 1 (tran_bound - 1)
  unfolding free_in
  free-first = refl

  pub free-found : (t : ℕ) → t < tran_bound → is_open k t ≡ false → free_in k ≡ free_from k t (tran_bound - t) → t ≡ free_in k
  free-found t h shut e = sym (e ∙ free_step k t h ∙ ap (λ (b : Bool). cond b (free_from k (t + 1) (tran_bound - (t + 1))) t) shut)

  pub free-passed : (t : ℕ) → t < tran_bound → is_open k t ≡ true → free_in k ≡ free_from k t (tran_bound - t)
      → free_in k ≡ free_from k (t + 1) (tran_bound - (t + 1))
  free-passed t h on e = e ∙ free_step k t h ∙ ap (λ (b : Bool). cond b (free_from k (t + 1) (tran_bound - (t + 1))) t) on

  pub free-none : (t : ℕ) → t ≡ tran_bound → free_in k ≡ free_from k t (tran_bound - t) → 0 ≡ free_in k
  free-none t h e = sym (e ∙ ap (λ (n : ℕ). free_from k n (tran_bound - n)) h)

-- ---- the holders of a block
module _ (h : Holders) {l : List ℕ} (lists : Lists h l) where
  pub first-none : h.first ≡ None → tells_none ≡ first_told l
  first-none e = go l (sym e ∙ lists.first-is)
    where
      go : (l : List ℕ) → None ≡ first_in l → tells_none ≡ first_told l
      go [] e = refl
      go (c ∷ l) e = cc

  pub first_some : (c : Card) → h.first ≡ Some c → tells c.0 ≡ first_told l
  first_some c e = go l (sym e ∙ lists.first-is)
    where
      go : (l : List ℕ) → Some c ≡ first_in l → tells c.0 ≡ first_told l
      go [] e = cc
      go (x ∷ l) e = cc

  pub cards-told : size (byte h.cards) ≡ cards_in l
  unfolding size
  cards-told = ap (count_below card_count) (fun_ext lists.cards-are)

-- ---- what is told of a control part is told without its pairs
masks-front : (l : List Placement) (i : ℕ) → mask_of_nth (map pairless l) i ≡ mask_of_nth l i
masks-front [] i = refl
masks-front (p ∷ l) zero = refl
masks-front (p ∷ l) (suc i) = masks-front l i

free-front : (k : Part) (t n : ℕ) → free_from (front_part k) t n ≡ free_from k t n
free-front k t zero = refl
free-front k t (suc n) = ap (λ (x : ℕ). cond (is_open k t) x t) (free-front k (suc t) n)

pub told-front : (q : Query) (k : Part) → told_of q (front_part k) ≡ told_of q k
unfolding told_of free_in
told-front Stopped k = refl
told-front PlacementCount k = ap (λ (n : ℕ). tells n) (ap length (sym (active-front k)) ∙ length-map (active k) pairless)
told-front (Query-as-Placement i) k = ap (if_in_range (ltb i most_active)) (ap (λ (l : List Placement). mask_of_nth l i) (sym (active-front k)) ∙ masks-front (active k) i)
told-front Working k = refl
told-front Failed k = refl
told-front (Home t) k = refl
told-front FreeTransaction k = ap (λ (n : ℕ). tells n) (free-front k 1 tran_count)
