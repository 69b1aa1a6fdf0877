-- Laws of the masks of cards that hold a block and of those that it must move from. Assumes nothing.
use Prim.Native.Nat.{◌<◌, ℕ}
use borrow.Author.Tests.{eq-eqb, lt-ltb, ltb-true, ne_eqb}
use lib.Count.{count_leading_zeros}
use lib.Dec.{eqb, ltb}
use mathlib.Core.Bool.{Bool, beq, ◌&&◌, ◌||◌, cond, false, not, true}
use mathlib.Core.List.{List}
use mathlib.Core.Logic.{◌≢◌, ◌⊎◌, inl, inr}
use mathlib.Core.Path.{◌∙◌, ◌≡◌, ap, ap₂, fun_ext, refl, sym}
use Rattle.lists.specs.Tests.{all_below, any_below, elem}
use Rattle.lists.proofs.Bools.{and_l, and_r, same_bool, split, tf}
use Rattle.lists.proofs.Counts.{below_all}
use Rattle.image.specs.Layout.{card_count}
use Rattle.mask.specs.Masks.{AreMembers, Byte, byte, has_card, members, with_card}
use Rattle.mask.proofs.Masks.{elem-members, has-card, has-none, has-with}
use Rattle.method.specs.Rules.{settled_by}
use Rattle.reorganise.proofs.SettledMasks.{same-sites}
use Rattle.method.specs.MoveList.{lowest_by, origin_by, stray_by}

-- ---- the lowest card
lowest_is : ℕ → Bool
lowest_is n = eqb n 0
    || (ltb (count_leading_zeros 8 n) card_count && all_below card_count (λ c. beq (eqb c (count_leading_zeros 8 n)) (lowest_by (has_card (byte n)) c)))

test-lowest : all_below 256 lowest_is ≡ true
unfolding lowest_is count_leading_zeros has_card
test-lowest = refl

-- no card of no card
pub lowest-none : (n : ℕ) → n ≡ 0 → AreMembers 0 (lowest_by (has_card (byte n)))
lowest-none n e c = has-none c ∙ sym (ap (λ (t : Bool). t && not (any_below c (has_card (byte n)))) (ap (λ (k : ℕ). has_card (byte k) c) e ∙ has-none c))

module _ (n : ℕ) (h : n < 256) (some : n ≢ 0) where
  found : (ltb (count_leading_zeros 8 n) card_count && all_below card_count (λ c. beq (eqb c (count_leading_zeros 8 n)) (lowest_by (has_card (byte n)) c))) ≡ true
  unfolding lowest_is
  found = rw (ne_eqb n 0 some) at (below_all 256 lowest_is n test-lowest h)

  pub lowest-card : count_leading_zeros 8 n < card_count
  lowest-card = ltb-true (count_leading_zeros 8 n) card_count (and_l (ltb (count_leading_zeros 8 n) card_count) _ found)

  -- the count of leading zeros
  pub lowest-is : (r : ℕ) → byte r ≡ with_card (byte 0) (count_leading_zeros 8 n) → AreMembers r (lowest_by (has_card (byte n)))
  lowest-is r e c = ap (λ (b : Byte). has_card b c) e ∙ has-with (byte 0) (count_leading_zeros 8 n) c (lt-ltb (count_leading_zeros 8 n) card_count lowest-card) ∙ go (split (ltb c card_count))
    where
      none : (t : Bool) → (t || has_card (byte 0) c) ≡ t
      none true = refl
      none false = has-none c

      go : (ltb c card_count ≡ true) ⊎ (ltb c card_count ≡ false) → (eqb c (count_leading_zeros 8 n) || has_card (byte 0) c) ≡ lowest_by (has_card (byte n)) c
      go (inl i) = none (eqb c (count_leading_zeros 8 n))
          ∙ same_bool _ _ (below_all card_count (λ c. beq (eqb c (count_leading_zeros 8 n)) (lowest_by (has_card (byte n)) c)) c
          (and_r (ltb (count_leading_zeros 8 n) card_count) _ found) (ltb-true c card_count i))
      go (inr o) = none (eqb c (count_leading_zeros 8 n))
          ∙ ne_eqb c (count_leading_zeros 8 n) (λ p. tf (ltb c card_count) (rw p (lt-ltb (count_leading_zeros 8 n) card_count lowest-card)) o)
          ∙ sym (ap (λ (t : Bool). t && not (any_below c (has_card (byte n)))) (never (split (has_card (byte n) c))))
        where
          never : (has_card (byte n) c ≡ true) ⊎ (has_card (byte n) c ≡ false) → has_card (byte n) c ≡ false
          never (inl y) = tf (ltb c card_count) (lt-ltb c card_count (has-card (byte n) c y)) o
          never (inr y) = y

-- ---- the cards that a block must move from
-- They depend on which cards are its sites, and not on their order.
pub same-origins : (l m : List ℕ) → ((c : ℕ) → elem c l ≡ elem c m) → (holds : ℕ → Bool) → (c : ℕ) → origin_by card_count l holds c ≡ origin_by card_count m holds c
unfolding origin_by
same-origins l m e holds c = ap₂ (λ (t : Bool) (site : ℕ → Bool). not t && cond (any_below card_count (λ x. holds x && not (site x))) (holds c && not (site c)) (lowest_by holds c))
    (same-sites l m e holds) (fun_ext e)

-- ---- the same of the masks of the cards that hold it and of its sites
test-some : all_below 256 (λ n. beq (any_below card_count (has_card (byte n))) (not (eqb n 0))) ≡ true
unfolding has_card
test-some = refl

module _ (held sites : ℕ) where
  abbrev holds : ℕ → Bool
  holds = has_card (byte held)

  abbrev site_cards : List ℕ
  site_cards = members (byte sites)

  -- none of a settled block
  pub settled-stays : true ≡ settled_by card_count site_cards holds → AreMembers 0 (origin_by card_count site_cards holds)
  unfolding origin_by
  settled-stays e c = has-none c ∙ sym (rw (sym e))

  module _ (unsettled : false ≡ settled_by card_count site_cards holds) (strays : ℕ) (small : strays < 256)
      (are : AreMembers strays (λ c. has_card (byte held) c && not (has_card (byte sites) c))) where
    stray-mask : AreMembers strays (stray_by site_cards holds)
    stray-mask c = are c ∙ ap (λ (t : Bool). holds c && not t) (sym (elem-members (byte sites) c))

    any-stray : any_below card_count (stray_by site_cards holds) ≡ not (eqb strays 0)
    any-stray = ap (any_below card_count) (fun_ext (λ c. sym (stray-mask c)))
        ∙ same_bool _ _ (below_all 256 (λ n. beq (any_below card_count (has_card (byte n))) (not (eqb n 0))) strays test-some small)

    -- the strays, where there are some
    pub strays-move : strays ≢ 0 → AreMembers strays (origin_by card_count site_cards holds)
    unfolding origin_by
    strays-move d c = stray-mask c ∙ sym (rw (sym unsettled, any-stray, ne_eqb strays 0 d))

    -- else the lowest that holds it
    pub lowest-moves : strays ≡ 0 → (r : ℕ) → AreMembers r (lowest_by holds) → AreMembers r (origin_by card_count site_cards holds)
    unfolding origin_by
    lowest-moves z r e c = e c ∙ sym (rw (sym unsettled, any-stray, eq-eqb strays 0 z))
