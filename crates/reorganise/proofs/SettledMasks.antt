-- Whether a block is settled, told from the masks of the cards that hold it and of its sites. Assumes nothing.
use Prim.Native.Nat.{◌<◌, ℕ}
use borrow.Author.Tests.{eq-eqb, eqb-true}
use lib.Dec.{eqb}
use mathlib.Core.Bool.{Bool, ◌&&◌, ◌||◌, not, true}
use mathlib.Core.List.{List}
use mathlib.Core.Logic.{◌≢◌}
use mathlib.Core.Path.{◌∙◌, ◌≡◌, ap, ap₂, fun_ext, sym}
use native.Mathlib.Nat.{mod-eq_of_lt}
use Rattle.lists.specs.Tests.{all_in, all_below, elem}
use Rattle.lists.proofs.Bools.{and_in, and_l, and_r, imp, imp-out, same_test, tf}
use Rattle.lists.proofs.Counts.{all-below, below_all}
use Rattle.lists.proofs.Lists.{all_in_lem, all-out, all_same, elem_in, in-elem}
use Rattle.image.specs.Layout.{card_count}
use Rattle.mask.specs.Masks.{byte, has_card, members}
use Rattle.mask.proofs.Masks.{elem-members, has-card, has-none, same_number}
use Rattle.mask.proofs.MaskSites.{some-card}
use Rattle.method.specs.Rules.{settled_by, card_settled}

-- It depends on which cards are sites, and not on their order.
pub same-sites : (l m : List ℕ) → ((c : ℕ) → elem c l ≡ elem c m) → (holds : ℕ → Bool) → settled_by card_count l holds ≡ settled_by card_count m holds
unfolding settled_by
same-sites l m e holds = ap (all_below card_count) (fun_ext (λ c. ap₂ (λ (x y : Bool). not (holds c) || (x && y)) (e c) (all_same holds l m e)))

module _ (held sites : ℕ) where
  abbrev holds : ℕ → Bool
  holds = has_card (byte held)

  abbrev site_cards : List ℕ
  site_cards = members (byte sites)

  settled-by : ((c : ℕ) → holds c ≡ true → (elem c site_cards && all_in holds site_cards) ≡ true) → settled_by card_count site_cards holds ≡ true
  unfolding settled_by
  settled-by h = all-below card_count (card_settled site_cards holds) (λ c l. imp (holds c) _ (h c))

  -- no card holds it
  pub held-by-none : held ≡ 0 → true ≡ settled_by card_count site_cards holds
  held-by-none e = sym (settled-by (λ c h. tf (holds c) h (ap (λ (n : ℕ). has_card (byte n) c) e ∙ has-none c)))

  -- some do: they are the sites
  pub held-by-some : held < 256 → sites < 256 → held ≢ 0 → eqb held sites ≡ settled_by card_count site_cards holds
  unfolding settled_by
  held-by-some hh hs some = same_test (eqb held sites) (settled_by card_count site_cards holds) (λ e. up (eqb-true held sites e)) (λ e. eq-eqb held sites (down e))
    where
      up : held ≡ sites → settled_by card_count site_cards holds ≡ true
      up e = settled-by (λ c h. and_in (elem c site_cards) (all_in holds site_cards) (elem-members (byte sites) c ∙ ap (λ (n : ℕ). has_card (byte n) c) (sym e) ∙ h)
          (all_in_lem holds site_cards (λ x i. ap (λ (n : ℕ). has_card (byte n) x) e ∙ sym (elem-members (byte sites) x) ∙ in-elem x site_cards i)))

      down : settled_by card_count site_cards holds ≡ true → held ≡ sites
      down e = sym (mod-eq_of_lt hh) ∙ same_number (byte held) (byte sites) (λ c. same_test (holds c) (has_card (byte sites) c) (site c) (holder c)) ∙ mod-eq_of_lt hs
        where
          at : (c : ℕ) → holds c ≡ true → (elem c site_cards && all_in holds site_cards) ≡ true
          at c h = imp-out (holds c) _ (below_all card_count (card_settled site_cards holds) c e (has-card (byte held) c h)) h

          site : (c : ℕ) → holds c ≡ true → has_card (byte sites) c ≡ true
          site c h = sym (elem-members (byte sites) c) ∙ and_l (elem c site_cards) _ (at c h)

          every : all_in holds site_cards ≡ true
          every = let s = some-card held hh some in and_r (elem s.0 site_cards) _ (at s.0 s.1)

          holder : (c : ℕ) → has_card (byte sites) c ≡ true → holds c ≡ true
          holder c h = all-out holds site_cards c every (elem_in c site_cards (elem-members (byte sites) c ∙ h))
