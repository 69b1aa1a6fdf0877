-- What two supply rails give a settled store, the proof: both newest sites hold the block, and they hang on two rails. Assumes nothing.
use Prim.Native.Nat.{◌<◌, ℕ}
use borrow.Author.Tests.{eqb-false, eqb-true}
use lib.Dec.{eqb}
use mathlib.Core.Bool.{Bool, ◌&&◌, ◌||◌, false, not, true}
use mathlib.Core.Logic.{◌⊎◌, inl, inr}
use mathlib.Core.Path.{◌≡◌}
use native.Mathlib.Omega.{arith}
use Rattle.lists.specs.Tests.{all_in, elem}
use Rattle.lists.proofs.Bools.{and_l, and_r, imp-out, split}
use Rattle.lists.proofs.Counts.{below_all}
use Rattle.image.specs.Layout.{block_count, card_count}
use Rattle.mask.specs.Placements.{on_one_rail, rail_of, sites_of}
use Rattle.mask.proofs.Masks.{has-card}
use Rattle.mask.proofs.SiteLaws.{TwoSites, two-sites}
use Rattle.slot.specs.Blocks.{is_held}
use Rattle.method.specs.Rules.{settled_by}
use Rattle.method.specs.Rules.{View, settled, settled_at}
use Rattle.control.specs.ControlBytes.{Part}
use Rattle.cabinet_rules.specs.Cabinet.{cabinet}
use Rattle.cabinet_rules.specs.Rails.{CopyOnEachRail}

-- of two cards on two rails, one is on the rail asked for
one_of_two : (held : ℕ → Bool) (x y rail : ℕ) → x < card_count → y < card_count → on_one_rail x y ≡ false → held x ≡ true → held y ≡ true → rail < 2
    → (z : ℕ) × (rail_of z ≡ rail) × (held z ≡ true)
one_of_two held x y rail hx hy apart on-x on-y h = go (split (eqb (rail_of x) rail))
  where
    go : (eqb (rail_of x) rail ≡ true) ⊎ (eqb (rail_of x) rail ≡ false) → (z : ℕ) × (rail_of z ≡ rail) × (held z ≡ true)
    go (inl e) = (x, eqb-true (rail_of x) rail e, on-x)
    go (inr e) =
        let n : rail_of x ≡ rail → ⊥ = eqb-false (rail_of x) rail e in
        let m : rail_of x ≡ rail_of y → ⊥ = eqb-false (rail_of x) (rail_of y) apart in
        (y, omega arith, on-y)

module _ (k : Part) (v : View cabinet) (done : settled cabinet k v ≡ true) (b c : ℕ) (hb : b < block_count) (hc : c < card_count) (on : is_held (v c b) ≡ true) where
  -- all newest sites of a block that is held hold it
  sites-hold : all_in (λ x. is_held (v x b)) (sites_of k.newest b) ≡ true
  unfolding settled settled_by
  sites-hold = and_r (elem c (sites_of k.newest b)) (all_in (λ x. is_held (v x b)) (sites_of k.newest b))
      (imp-out (is_held (v c b)) (elem c (sites_of k.newest b) && all_in (λ x. is_held (v x b)) (sites_of k.newest b))
      (below_all card_count (λ c. not (is_held (v c b)) || (elem c (sites_of k.newest b) && all_in (λ x. is_held (v x b)) (sites_of k.newest b))) c
      (below_all block_count (settled_at cabinet k v) b done hb) hc) on)

pub copy-on-each-rail : CopyOnEachRail
unfolding CopyOnEachRail
copy-on-each-rail k v done u marked both b c hb hc on rail h =
    let two : TwoSites k.newest b = two-sites k.newest b u hb in
    let x : ℕ = two.first in
    let y : ℕ = two.second in
    let hold : (is_held (v x b) && (is_held (v y b) && true)) ≡ true = rw two.listed at (sites-hold k v done b c hb hc on) in
    one_of_two (λ z. is_held (v z b)) x y rail (has-card k.newest.mask x two.first_member) (has-card k.newest.mask y two.second-member)
    (two.two-rails marked both) (and_l (is_held (v x b)) (is_held (v y b) && true) hold) (and_l (is_held (v y b)) true (and_r (is_held (v x b)) (is_held (v y b) && true) hold)) h
