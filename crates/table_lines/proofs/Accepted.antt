-- What a table that is accepted makes. Every block is in a line, its pair is that of such a line, and a line's cards are different, working and named. So
-- the pair of every block is two different members of the mask, all members work, and there are as many as copies. Assumes nothing.
use mathlib.Core.Bool.{Bool, false, true, not, ◌&&◌, ◌||◌, cond}
use mathlib.Core.List.{List, [], ◌∷◌}
use mathlib.Core.Logic.{◌⊎◌, inl, inr}
use mathlib.Core.Path.{◌≡◌, ap, sym, ◌∙◌}
use Prim.Native.Nat.{ℕ, zero, suc, ◌+◌, ◌*◌, ◌/◌, ◌%◌, ◌<◌, ◌≤◌}
use native.Mathlib.Omega.{arith}
use lib.Dec.{eqb}
use borrow.Author.Tests.{eqb-false, eqb-true, lt-ltb}
use Rattle.lists.specs.Tests.{In, count_below, one_if}
use Rattle.lists.proofs.Bools.{and_l, and_r, eqb-self, not_is, or_cases, or_l, or_r, split, tf}
use Rattle.lists.proofs.Counts.{all-below, below_all, below_none, pigeon}
use Rattle.image.specs.Layout.{block_count, card_count, least_members}
use Rattle.mask.specs.Masks.{Byte, has_card, size, with_card}
use Rattle.mask.specs.Pairs.{are_pairs_of, is_pair_of, pair_at, pair_bound, pairs_byte, pairs_from}
use Rattle.mask.specs.Placements.{Usable}
use Rattle.mask.proofs.Masks.{has-card, has-none, has-with}
use Rattle.mask.proofs.PairLaws.{pairs-back}
use Rattle.table_lines.specs.Lines.{
  Line,
  has_block,
  has_gap,
  line_at,
  line_count,
  line_works,
  lines_with,
  lines_work,
  named_by,
  pair_by,
  table_placement,
}

-- The pair of a line.
abbrev pair_of : Line → ℕ
pair_of n = n.one * card_count + n.two

-- ---- one line
-- Its cards differ, and both work.
abbrev Works : Byte → Line → Type 0
Works w n = (eqb n.one n.two ≡ false) × (has_card w n.one ≡ true) × (has_card w n.two ≡ true)

line-works : (w : Byte) (n : Line) → line_works w n ≡ true → Works w n
unfolding line_works
line-works w n e =
    let cards = and_r (not (eqb n.one n.two)) (has_card w n.one && has_card w n.two) e in (
      not_is (eqb n.one n.two) (and_l (not (eqb n.one n.two)) _ e),
      and_l (has_card w n.one) (has_card w n.two) cards,
      and_r (has_card w n.one) (has_card w n.two) cards,
    )

-- The pair of two cards that differ and are members.
pair-good : (m : Byte) (x y : ℕ) → x < card_count → y < card_count → has_card m x ≡ true → has_card m y ≡ true → eqb x y ≡ false
    → is_pair_of m (x * card_count + y) ≡ true
unfolding is_pair_of
pair-good m x y hx hy mx my d =
    let first : (x * card_count + y) / card_count ≡ x = omega arith in
    let second : (x * card_count + y) % card_count ≡ y = omega arith in
    rw (first, second, mx, my, d)

-- ---- the first n lines
-- A block in a line has the pair of a line.
chosen : (l : List ℕ) (b n : ℕ) → 0 < count_below n (λ i. has_block (line_at l i) b) → (i : ℕ) × (i < n) × (pair_by l b n ≡ pair_of (line_at l i))
chosen l b zero h = absurd (omega arith)
chosen l b (suc n) h = go (split (has_block (line_at l n) b)) (chosen l b n)
  where
    before : ℕ
    before = count_below n (λ i. has_block (line_at l i) b)

    go : (has_block (line_at l n) b ≡ true) ⊎ (has_block (line_at l n) b ≡ false)
        → (0 < before → (i : ℕ) × (i < n) × (pair_by l b n ≡ pair_of (line_at l i)))
        → (i : ℕ) × (i < suc n) × (pair_by l b (suc n) ≡ pair_of (line_at l i))
    go (inl e) ih = (n, omega arith, rw e)
    go (inr e) ih =
        let k : 0 < one_if false + before = rw e at h in
        let r = ih (omega arith) in
        let j : r.0 < n = r.1 in
        (r.0, omega arith, pass r.0 r.2)
      where
        pass : (i : ℕ) → pair_by l b n ≡ pair_of (line_at l i) → pair_by l b (suc n) ≡ pair_of (line_at l i)
        pass i p = rw e p

module _ (l : List ℕ) (w : Byte) (works : lines_work w l ≡ true) where
  each-works : (i : ℕ) → i < line_count l → Works w (line_at l i)
  unfolding lines_work
  each-works i h = line-works w (line_at l i) (below_all (line_count l) (λ i. line_works w (line_at l i)) i works h)

  -- Cards that work are cards.
  cards : (i : ℕ) → i < line_count l → ((line_at l i).one < card_count) × ((line_at l i).two < card_count)
  cards i h = let o = each-works i h in (has-card w (line_at l i).one o.1, has-card w (line_at l i).two o.2)

  pair_small : (b n : ℕ) → n ≤ line_count l → pair_by l b n < pair_bound
  pair_small b zero h = omega arith
  pair_small b (suc n) h = go (has_block (line_at l n) b) (cards n (omega arith)) (pair_small b n (omega arith))
    where
      go : (t : Bool) → ((line_at l n).one < card_count) × ((line_at l n).two < card_count) → pair_by l b n < pair_bound
          → cond t (pair_of (line_at l n)) (pair_by l b n) < pair_bound
      go true k p = small (line_at l n).one (line_at l n).two k.0 k.1
        where
          small : (x y : ℕ) → x < card_count → y < card_count → x * card_count + y < pair_bound
          small x y hx hy = omega arith
      go false k p = p

  -- The cards named by one line more.
  named_step : (n x : ℕ) → n < line_count l
      → has_card (named_by l (suc n)) x ≡ (eqb x (line_at l n).two || (eqb x (line_at l n).one || has_card (named_by l n) x))
  named_step n x h =
      let k = cards n h in
      let m = named_by l n in
      let a = (line_at l n).one in
      has-with (with_card m a) (line_at l n).two x (lt-ltb (line_at l n).two card_count k.1)
      ∙ ap (λ (t : Bool). eqb x (line_at l n).two || t) (has-with m a x (lt-ltb a card_count k.0))

  -- Both cards of each line are named.
  named-both : (n i : ℕ) → n ≤ line_count l → i < n
      → (has_card (named_by l n) (line_at l i).one ≡ true) × (has_card (named_by l n) (line_at l i).two ≡ true)
  named-both zero i k h = absurd (omega arith)
  named-both (suc n) i k h = go (split (eqb i n)) (named-both n i (omega arith))
    where
      a : ℕ
      a = (line_at l n).one

      z : ℕ
      z = (line_at l n).two

      step : (x : ℕ) → has_card (named_by l (suc n)) x ≡ (eqb x z || (eqb x a || has_card (named_by l n) x))
      step x = named_step n x (omega arith)

      keep : (x : ℕ) → has_card (named_by l n) x ≡ true → has_card (named_by l (suc n)) x ≡ true
      keep x e = step x ∙ or_r (eqb x z) _ (or_r (eqb x a) (has_card (named_by l n) x) e)

      last : (has_card (named_by l (suc n)) a ≡ true) × (has_card (named_by l (suc n)) z ≡ true)
      last = (
        step a ∙ or_r (eqb a z) _ (or_l (eqb a a) (has_card (named_by l n) a) (eqb-self a)),
        step z ∙ or_l (eqb z z) _ (eqb-self z),
      )

      go : (eqb i n ≡ true) ⊎ (eqb i n ≡ false)
          → (i < n → (has_card (named_by l n) (line_at l i).one ≡ true) × (has_card (named_by l n) (line_at l i).two ≡ true))
          → (has_card (named_by l (suc n)) (line_at l i).one ≡ true) × (has_card (named_by l (suc n)) (line_at l i).two ≡ true)
      go (inl e) ih = rw (eqb-true i n e) last
      go (inr e) ih =
          let d : i ≡ n → ⊥ = eqb-false i n e in
          let r = ih (omega arith) in
          (keep (line_at l i).one r.0, keep (line_at l i).two r.1)

  -- A card that is named is of a line, so it works.
  named-works : (n : ℕ) → n ≤ line_count l → (c : ℕ) → has_card (named_by l n) c ≡ true → has_card w c ≡ true
  named-works zero k c e = tf (has_card (named_by l zero) c) e (has-none c)
  named-works (suc n) k c e =
      let o = each-works n (omega arith) in
      let t = or_cases (eqb c (line_at l n).two) _ (sym (named_step n c (omega arith)) ∙ e) in
      go o.1 o.2 (named-works n (omega arith) c) t
    where
      a : ℕ
      a = (line_at l n).one

      z : ℕ
      z = (line_at l n).two

      go : has_card w a ≡ true → has_card w z ≡ true → (has_card (named_by l n) c ≡ true → has_card w c ≡ true)
          → (eqb c z ≡ true) ⊎ ((eqb c a || has_card (named_by l n) c) ≡ true) → has_card w c ≡ true
      go wa wz ih (inl q) = rw (eqb-true c z q) wz
      go wa wz ih (inr q) = next (or_cases (eqb c a) (has_card (named_by l n) c) q)
        where
          next : (eqb c a ≡ true) ⊎ (has_card (named_by l n) c ≡ true) → has_card w c ≡ true
          next (inl r) = rw (eqb-true c a r) wa
          next (inr r) = ih r

  pub table-working : (c : ℕ) → has_card (table_placement l).mask c ≡ true → has_card w c ≡ true
  unfolding table_placement
  table-working c e = named-works (line_count l) (omega arith) c e

  -- ---- and no block without a line
  module _ (whole : has_gap l ≡ false) where
    -- The line of a block: its pair is that of the line.
    line_of : (b : ℕ) → b < block_count → (i : ℕ) × (i < line_count l) × (pair_by l b (line_count l) ≡ pair_of (line_at l i))
    unfolding has_gap lines_with
    line_of b h =
        let d : lines_with l b ≡ 0 → ⊥ = eqb-false (lines_with l b) 0 (below_none block_count (λ b. eqb (lines_with l b) 0) b whole h) in
        chosen l b (line_count l) (some (lines_with l b) d)
      where
        some : (n : ℕ) → (n ≡ 0 → ⊥) → 0 < n
        some n d = omega (arith, d)

    pair-is-good : (b : ℕ) → b < block_count → is_pair_of (named_by l (line_count l)) (pair_by l b (line_count l)) ≡ true
    pair-is-good b h =
        let r = line_of b h in
        let i = r.0 in
        let k = cards i r.1 in
        let m = named-both (line_count l) i (omega arith) r.1 in
        let o = each-works i r.1 in
        ap (is_pair_of (named_by l (line_count l))) r.2
        ∙ pair-good (named_by l (line_count l)) (line_at l i).one (line_at l i).two k.0 k.1 m.0 m.1 o.0

    pub table-members : least_members ≤ size (table_placement l).mask
    unfolding table_placement size
    table-members =
        let r = line_of 0 (omega arith) in
        let i = r.0 in
        let k = cards i r.1 in
        let m = named-both (line_count l) i (omega arith) r.1 in
        two (named_by l (line_count l)) (line_at l i).one (line_at l i).two k.0 k.1 m.0 m.1 (each-works i r.1).0
      where
        two : (m : Byte) (x y : ℕ) → x < card_count → y < card_count → has_card m x ≡ true → has_card m y ≡ true → eqb x y ≡ false
            → least_members ≤ count_below card_count (has_card m)
        two m x y hx hy mx my d = pigeon card_count (x ∷ y ∷ []) (has_card m) (rw d) both small
          where
            both : (c : ℕ) → In c (x ∷ y ∷ []) → has_card m c ≡ true
            both c (inl e) = rw e mx
            both c (inr (inl e)) = rw e my
            both c (inr (inr e)) = absurd e

            small : (c : ℕ) → In c (x ∷ y ∷ []) → c < card_count
            small c p = has-card m c (both c p)

    pub table-pairs : are_pairs_of (table_placement l).mask (pairs_from (λ b. pair_by l b (line_count l))) ≡ true
    unfolding table_placement are_pairs_of
    table-pairs =
        let f : ℕ → ℕ = λ b. pair_by l b (line_count l) in
        all-below block_count (λ b. is_pair_of (named_by l (line_count l)) (pair_at (pairs_byte (pairs_from f)) b))
        (λ b h. ap (is_pair_of (named_by l (line_count l))) (pairs-back f (λ b h. pair_small b (line_count l) (omega arith)) b h) ∙ pair-is-good b h)

    pub table-usable : Usable (table_placement l)
    unfolding table_placement
    table-usable = record { enough = table-members; pairs = table-pairs }
