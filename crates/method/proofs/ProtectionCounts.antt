-- Protected by counts: of a running store, exactly where every active placement withstands the failure of any one of its working cards.
-- Assumes nothing.
use Prim.Native.Nat.{◌<◌, ◌≤◌, suc, ℕ}
use borrow.Author.Tests.{eqb-true, lt-ltb, ltb-true}
use lib.Dec.{eqb, ltb}
use mathlib.Core.Bool.{Bool, ◌&&◌, ◌||◌, and-true, false, not, true}
use mathlib.Core.Logic.{◌⊎◌, inl, inr}
use mathlib.Core.Path.{◌∙◌, ◌≡◌, ap, fun_ext, refl, sym}
use native.Mathlib.Omega.{arith}
use Rattle.lists.specs.Tests.{In, count_below}
use Rattle.lists.proofs.Bools.{and_in, and_l, and_r, eqb-self, nand, never_true, not_is, or_l, same_test, split, tf}
use Rattle.lists.proofs.Counts.{all-below, below_all, but, count-but, count-some}
use Rattle.lists.proofs.Lists.{all_in_lem, all-out, any_none, any_out}
use Rattle.method.specs.Changes.{Control, marked}
use Rattle.method.specs.ControlPart.{active}
use Rattle.method.specs.Parameters.{Parameters}
use Rattle.method.specs.Protection.{all_withstand, withstands}
use Rattle.method.specs.Rules.{is_protected, lost, stopping}
use Rattle.method.proofs.Laws.{Laws}
use Rattle.method.proofs.StopRule.{enough-work, few-failed, not-lost}

module _ (P : Parameters) (L : Laws P) (k : Control P) where
  open P use {Mask, Placement, cards, copies, has, insert, remove, mask}
  open L use {has-card, has-insert, has-remove}

  -- how many members of a placement are among these cards
  abbrev among : Placement → Mask → ℕ
  among p m = count_below cards (λ x. has (mask p) x && has m x)

  -- ---- a card that fails: what becomes of the two counts
  module _ (p : Placement) (c : ℕ) (c-ok : ltb c cards ≡ true) where
    -- a member that worked: one failed more, one working less
    failed-more : has (mask p) c ≡ true → has k.failed c ≡ false → among p (insert k.failed c) ≡ suc (among p k.failed)
    failed-more m off = count-but cards f c (rw (has-insert k.failed c c c-ok) (and_in (has (mask p) c) _ m (or_l (eqb c c) (has k.failed c) (eqb-self c)))) (ltb-true c cards c-ok)
        ∙ ap (λ (g : ℕ → Bool). suc (count_below cards g)) (fun_ext same)
      where
        f : ℕ → Bool
        f x = has (mask p) x && has (insert k.failed c) x

        same : (x : ℕ) → but f c x ≡ (has (mask p) x && has k.failed x)
        same x = rw (has-insert k.failed c x c-ok) (go (split (eqb x c)))
          where
            out : (a b : Bool) → b ≡ false → ((a && true) && false) ≡ (a && b)
            out true b e = sym e
            out false b e = refl

            go : (eqb x c ≡ true) ⊎ (eqb x c ≡ false) → ((has (mask p) x && (eqb x c || has k.failed x)) && not (eqb x c)) ≡ (has (mask p) x && has k.failed x)
            go (inl e) = rw e (out (has (mask p) x) (has k.failed x) (ap (has k.failed) (eqb-true x c e) ∙ off))
            go (inr e) = rw e (and-true (has (mask p) x && has k.failed x))

    works-less : has (mask p) c ≡ true → has k.working c ≡ true → among p k.working ≡ suc (among p (remove k.working c))
    works-less m on = count-but cards f c (and_in (has (mask p) c) (has k.working c) m on) (ltb-true c cards c-ok)
        ∙ ap (λ (g : ℕ → Bool). suc (count_below cards g)) (fun_ext (λ x. rw (has-remove k.working c x) (assoc (has (mask p) x) (has k.working x) (not (eqb x c)))))
      where
        f : ℕ → Bool
        f x = has (mask p) x && has k.working x

        assoc : (a b d : Bool) → ((a && b) && d) ≡ (a && (b && d))
        assoc true b d = refl
        assoc false b d = refl

    -- a card that is no member changes neither
    module _ (m : has (mask p) c ≡ false) where
      other : (x y : ℕ → Bool) → ((i : ℕ) → eqb i c ≡ false → x i ≡ y i) → count_below cards (λ i. has (mask p) i && x i) ≡ count_below cards (λ i. has (mask p) i && y i)
      other x y same = ap (count_below cards) (fun_ext (λ i. go i (split (eqb i c))))
        where
          go : (i : ℕ) → (eqb i c ≡ true) ⊎ (eqb i c ≡ false) → (has (mask p) i && x i) ≡ (has (mask p) i && y i)
          go i (inl e) = let n : has (mask p) i ≡ false = ap (has (mask p)) (eqb-true i c e) ∙ m in rw n
          go i (inr e) = ap (λ (b : Bool). has (mask p) i && b) (same i e)

      failed-same : among p (insert k.failed c) ≡ among p k.failed
      failed-same = other (has (insert k.failed c)) (has k.failed) (λ i e. rw (has-insert k.failed c i c-ok, e))

      works-same : among p (remove k.working c) ≡ among p k.working
      works-same = other (has (remove k.working c)) (has k.working) (λ i e. rw (has-remove k.working c i, e) (and-true (has k.working i)))

  -- ---- a placement that withstands, and the failure of a working card
  abbrev Stands : Placement → Type 0
  Stands p = (suc (among p k.failed) < copies k.setting) × (copies k.setting < among p k.working)

  module _ (apart : (c : ℕ) → has k.working c ≡ true → has k.failed c ≡ false) (p : Placement) (c : ℕ) (on : has k.working c ≡ true) where
    c-ok : ltb c cards ≡ true
    c-ok = lt-ltb c cards (has-card k.working c on)

    -- it is not lost, whichever card fails
    stands-safe : Stands p → lost P (marked P k c) p ≡ false
    stands-safe s = go (split (has (mask p) c))
      where
        go : (has (mask p) c ≡ true) ⊎ (has (mask p) c ≡ false) → lost P (marked P k c) p ≡ false
        go (inl m) =
            let f = failed-more p c c-ok m (apart c on) in
            let w = works-less p c c-ok m on in
            not-lost P k.setting (remove k.working c) (insert k.failed c) (mask p) (omega (arith, f, s.0)) (omega (arith, w, s.1))
        go (inr m) =
            let f = failed-same p c c-ok m in
            let w = works-same p c c-ok m in
            not-lost P k.setting (remove k.working c) (insert k.failed c) (mask p) (omega (arith, f, s.0)) (omega (arith, w, s.1))

    -- and where a member fails, only such a placement is not
    safe-stands : has (mask p) c ≡ true → lost P (marked P k c) p ≡ false → Stands p
    safe-stands m e =
        let f = failed-more p c c-ok m (apart c on) in
        let w = works-less p c c-ok m on in
        let few = few-failed P k.setting (remove k.working c) (insert k.failed c) (mask p) e in
        let enough = enough-work P k.setting (remove k.working c) (insert k.failed c) (mask p) e in
        (omega (arith, f, few), omega (arith, w, enough))

  -- the test, and what it says
  stands-is : (p : Placement) → Stands p → withstands P k.setting k.working k.failed (mask p) ≡ true
  unfolding withstands
  stands-is p s = and_in _ _ (lt-ltb (suc (among p k.failed)) (copies k.setting) s.0) (lt-ltb (copies k.setting) (among p k.working) s.1)

  is-stands : (p : Placement) → withstands P k.setting k.working k.failed (mask p) ≡ true → Stands p
  unfolding withstands
  is-stands p e =
      let few : Bool = ltb (suc (among p k.failed)) (copies k.setting) in
      let spare : Bool = ltb (copies k.setting) (among p k.working) in
      (ltb-true (suc (among p k.failed)) (copies k.setting) (and_l few spare e), ltb-true (copies k.setting) (among p k.working) (and_r few spare e))

  -- ---- the whole control part
  module _ (apart : (c : ℕ) → has k.working c ≡ true → has k.failed c ≡ false) (safe : (p : Placement) → In p (active k) → lost P k p ≡ false) where
    -- an active placement has a member that works
    some-member : (p : Placement) → In p (active k) → (c : ℕ) × (has (mask p) c ≡ true) × (has k.working c ≡ true)
    some-member p m =
        let few : among p k.failed < copies k.setting = few-failed P k.setting k.working k.failed (mask p) (safe p m) in
        let enough : copies k.setting ≤ among p k.working = enough-work P k.setting k.working k.failed (mask p) (safe p m) in
        let t = count-some cards (λ x. has (mask p) x && has k.working x) (omega arith) in
        (t.0, and_l (has (mask p) t.0) (has k.working t.0) t.2, and_r (has (mask p) t.0) (has k.working t.0) t.2)

    pub protected-by-counts : is_protected P k ≡ all_withstand P k
    unfolding is_protected stopping
    protected-by-counts = same_test (is_protected P k) (all_withstand P k) up down
      where
        up : is_protected P k ≡ true → all_withstand P k ≡ true
        up e = all_in_lem (λ p. withstands P k.setting k.working k.failed (mask p)) (active k) (λ p m. stands-is p (each p m (some-member p m)))
          where
            each : (p : Placement) → In p (active k) → (c : ℕ) × (has (mask p) c ≡ true) × (has k.working c ≡ true) → Stands p
            each p m (c, member, on) =
                let t : not (has k.working c && stopping P k c) ≡ true = below_all cards (λ c. not (has k.working c && stopping P k c)) c e (has-card k.working c on) in
                let u : stopping P k c ≡ false = not_is (stopping P k c) (rw on at t) in
                safe-stands apart p c on member (any_none (lost P (marked P k c)) (active k) p u m)

        down : all_withstand P k ≡ true → is_protected P k ≡ true
        down e = all-below cards _ (λ c h. nand (has k.working c) (stopping P k c) (λ on. never_true (stopping P k c) (λ s. lost-one c on (any_out (lost P (marked P k c)) (active k) s))))
          where
            lost-one : (c : ℕ) → has k.working c ≡ true → (p : Placement) × In p (active k) × (lost P (marked P k c) p ≡ true) → ⊥
            lost-one c on (p, m, l) = tf (lost P (marked P k c) p) l (stands-safe apart p c on
                (is-stands p (all-out (λ p. withstands P k.setting k.working k.failed (mask p)) (active k) p e m)))
