-- The sites that a mask gives a block: different members. Facts of one mask are computed, all cases. Assumes nothing.
use mathlib.Core.Path.{◌≡◌, refl, sym, ap, ap₂, ◌∙◌, fun_ext}
use mathlib.Core.Logic.{◌≢◌}
use mathlib.Core.Bool.{Bool, true, false, not, ◌&&◌, ◌||◌, cond}
use mathlib.Core.List.{[], ◌∷◌}
use Prim.Native.Nat.{ℕ, ◌+◌, ◌-◌, ◌%◌, ◌≤◌, ◌<◌}
use native.Mathlib.Nat.{mod-add-mod, mod-eq_of_lt, mod-lt}
use native.Mathlib.Omega.{arith}
use lib.Bits.{bit_and}
use lib.Count.{count_leading_zeros}
use lib.Dec.{leb, ltb, eqb}
use lib.ListN.{length, get_or}
use borrow.Author.Tests.{eqb-true, leb-true, le-leb, lt-ltb, ltb-true}
use Rattle.lists.specs.Tests.{all_below, keep_if}
use Rattle.lists.specs.Tabulate.{tabulate}
use Rattle.lists.proofs.Bools.{tf, imp-out, and_in, and_l, and_r, not_is}
use Rattle.lists.proofs.Counts.{below_all}
use Rattle.image.specs.Layout.{card_count, copy_count}
use Rattle.mask.specs.Masks.{Byte, bit_of, byte, has_card, members, size}
use Rattle.mask.specs.Placements.{Enough, Masked, across_rails, chained_sites, member_at, members_after}
use Rattle.mask.specs.Placements.{on_both_rails, on_one_rail, other_rail, rail_sites, mask_sites}
use Rattle.mask.proofs.FirstMember.{some-members}
use Rattle.mask.proofs.Masks.{every-mask, every-pair, size-members}

-- Eight members at most.
test-few : all_below 256 (λ n. leb (length (members (byte n))) card_count) ≡ true
unfolding members has_card
test-few = refl

pub few-members : (m : Byte) → length (members m) ≤ card_count
few-members m = leb-true _ _ (every-mask (λ m. leb (length (members m)) card_count) test-few m)

pub size-le : (m : Byte) → size m ≤ card_count
size-le m = rw (sym (size-members m)) (few-members m)

-- Each element of the list of members is a member, and differs from the next, going round.
member_is : Byte → ℕ → Bool
member_is m i = not (ltb i (length (members m))) || has_card m (get_or (members m) i 0)

test-member : all_below 256 (λ n. all_below card_count (member_is (byte n))) ≡ true
unfolding member_is members has_card
test-member = refl

pub member_is_lem : (m : Byte) (i : ℕ) → i < length (members m) → has_card m (get_or (members m) i 0) ≡ true
unfolding member_is
member_is_lem m i h = imp-out _ _
    (every-pair card_count member_is test-member m i (omega (arith, few-members m))) (lt-ltb i (length (members m)) h)

-- A mask that is not 0 has a card.
pub some-card : (n : ℕ) → n < 256 → n ≢ 0 → (c : ℕ) × (has_card (byte n) c ≡ true)
some-card n h d = (get_or (members (byte n)) 0 0, member_is_lem (byte n) 0 (some-members n h d))

next_differs : Byte → ℕ → Bool
next_differs m i = not (leb copy_count (length (members m)) && ltb i (length (members m)))
    || not (eqb (get_or (members m) i 0) (get_or (members m) ((i + 1) % length (members m)) 0))

test-next : all_below 256 (λ n. all_below card_count (next_differs (byte n))) ≡ true
unfolding next_differs members has_card
test-next = refl

next-differs : (m : Byte) (i : ℕ) → copy_count ≤ length (members m) → i < length (members m)
    → not (eqb (get_or (members m) i 0) (get_or (members m) ((i + 1) % length (members m)) 0)) ≡ true
unfolding next_differs
next-differs m i h k = imp-out _ _
    (every-pair card_count next_differs test-next m i (omega (arith, few-members m)))
    (and_in _ _ (le-leb copy_count (length (members m)) h) (lt-ltb i (length (members m)) k))

-- Member number i, going round, is a member; it comes again with every round.
pub member-at : (m : Byte) (i : ℕ) → 0 < length (members m) → has_card m (member_at m i) ≡ true
unfolding member_at
member-at m i h = member_is_lem m (i % length (members m)) (mod-lt i h)

member-round : (m : Byte) (b j : ℕ) → member_at m (b % length (members m) + j) ≡ member_at m (b + j)
unfolding member_at
member-round m b j = ap (λ (i : ℕ). get_or (members m) i 0) (mod-add-mod b (length (members m)) j)

has-members : (p : Masked) → Enough p.mask → copy_count ≤ length (members p.mask)
has-members p u = rw (size-members p.mask) u

-- The second site by rails: a member, another card, on the other rail where both have members; and, as the code finds it, the first
-- member on the other rail, if there is one.
abbrev pub across_bits : Byte → ℕ → ℕ
across_bits m i = bit_and m.0 (other_rail (member_at m i))

across_is : Byte → ℕ → Bool
across_is m i = not (leb copy_count (length (members m)) && ltb i (length (members m)))
    || ((has_card m (across_rails m i) && not (eqb (member_at m i) (across_rails m i)))
    && ((not (on_both_rails m) || not (on_one_rail (member_at m i) (across_rails m i)))
    && eqb (across_rails m i) (cond (eqb (across_bits m i) 0) (member_at m (i + 1)) (count_leading_zeros 8 (across_bits m i)))))

test-across : all_below 256 (λ n. all_below card_count (across_is (byte n))) ≡ true
unfolding across_is other_rail across_rails members_after tabulate on_both_rails member_at members has_card count_leading_zeros
test-across = refl

-- Going round, the second site of block b is that of member number b mod m.
across-round : (m : Byte) (b : ℕ) → across_rails m (b % length (members m)) ≡ across_rails m b
unfolding across_rails members_after
across-round m b =
    ap₂ (λ (x : ℕ) (f : ℕ → ℕ). get_or (keep_if (λ c. not (on_one_rail x c)) (tabulate (n - 1) f)) 0 (member_at m (b % n + 1))) first (fun_ext next)
    ∙ ap (get_or (keep_if (λ c. not (on_one_rail (member_at m b) c)) (tabulate (n - 1) (λ j. member_at m (b + 1 + j)))) 0) (member-round m b 1)
  where
    n : ℕ
    n = length (members m)

    first : member_at m (b % n) ≡ member_at m b
    first = ap (member_at m) (omega arith) ∙ member-round m b 0 ∙ ap (member_at m) (omega arith)

    next : (j : ℕ) → member_at m (b % n + 1 + j) ≡ member_at m (b + 1 + j)
    next j = ap (member_at m) (omega arith) ∙ member-round m b (1 + j) ∙ ap (member_at m) (omega arith)

first_round : (m : Byte) (b : ℕ) → member_at m (b % length (members m)) ≡ member_at m b
first_round m b = ap (member_at m) (omega arith) ∙ member-round m b 0 ∙ ap (member_at m) (omega arith)

-- So do the sites.
pub site-round : (p : Masked) (b : ℕ) → mask_sites p (b % length (members p.mask)) ≡ mask_sites p b
unfolding mask_sites rail_sites chained_sites
site-round p b = rw (first_round p.mask b, across-round p.mask b, member-round p.mask b 1)

module _ (m : Byte) (b : ℕ) (u : copy_count ≤ length (members m)) where
  some : 0 < length (members m)
  some = omega arith

  -- what was tried, once round
  good : Bool
  good = has_card m (across_rails m b) && not (eqb (member_at m b) (across_rails m b))

  crossed : Bool
  crossed = not (on_both_rails m) || not (on_one_rail (member_at m b) (across_rails m b))

  found : Bool
  found = eqb (across_rails m b) (cond (eqb (across_bits m b) 0) (member_at m (b + 1)) (count_leading_zeros 8 (across_bits m b)))

  tried : (good && (crossed && found)) ≡ true
  unfolding across_is good crossed found
  tried = rw (across-round m b, first_round m b, member-round m b 1) at
      (imp-out _ _ (every-pair card_count across_is test-across m (b % length (members m)) (omega (arith, few-members m, mod-lt b some)))
      (and_in _ _ (le-leb copy_count (length (members m)) u) (lt-ltb (b % length (members m)) (length (members m)) (mod-lt b some))))

  pub across-member : has_card m (across_rails m b) ≡ true
  across-member = unfold good in and_l (has_card m (across_rails m b)) _ (and_l good (crossed && found) tried)

  pub across-differs : eqb (member_at m b) (across_rails m b) ≡ false
  across-differs = unfold good in not_is _ (and_r (has_card m (across_rails m b)) _ (and_l good (crossed && found) tried))

  pub across-rails : on_both_rails m ≡ true → on_one_rail (member_at m b) (across_rails m b) ≡ false
  across-rails h = unfold crossed in not_is _ (imp-out (on_both_rails m) _ (and_l crossed found (and_r good (crossed && found) tried)) h)

  pub across-found : across_rails m b ≡ cond (eqb (across_bits m b) 0) (member_at m (b + 1)) (count_leading_zeros 8 (across_bits m b))
  across-found = unfold found in eqb-true _ _ (and_r crossed found (and_r good (crossed && found) tried))

  pub next-other : eqb (member_at m b) (member_at m (b + 1)) ≡ false
  unfolding member_at
  next-other = not_is _ (ap (λ (i : ℕ). not (eqb (get_or (members m) (b % length (members m)) 0) (get_or (members m) i 0))) (sym (mod-add-mod b (length (members m)) 1))
      ∙ next-differs m (b % length (members m)) u (mod-lt b some))

-- ---- the sites of a placement
abbrev pub second_site : Masked → ℕ → ℕ
second_site p b = cond p.by_rails (across_rails p.mask b) (member_at p.mask (b + 1))

-- A first site and a second, that the placement's own choice gives.
pub record Pair (p : Masked) (b x y : ℕ) : Type 0 where
  pub listed : mask_sites p b ≡ x ∷ y ∷ []
  pub first_member : has_card p.mask x ≡ true
  pub second-member : has_card p.mask y ≡ true
  pub differ : eqb x y ≡ false
  pub two-rails : p.by_rails ≡ true → on_both_rails p.mask ≡ true → on_one_rail x y ≡ false

pub pair_of : (p : Masked) (b : ℕ) → Enough p.mask → Pair p b (member_at p.mask b) (second_site p b)
unfolding mask_sites rail_sites chained_sites
pair_of p b u = go p.mask p.by_rails (has-members p u)
  where
    go : (m : Byte) (rails : Bool) → copy_count ≤ length (members m)
        → Pair (record { mask = m; by_rails = rails }) b (member_at m b) (cond rails (across_rails m b) (member_at m (b + 1)))
    go m true h = record {
      listed = refl;
      first_member = member-at m b (omega arith);
      second-member = across-member m b h;
      differ = across-differs m b h;
      two-rails = λ e both. across-rails m b h both;
    }
    go m false h = record {
      listed = refl;
      first_member = member-at m b (omega arith);
      second-member = member-at m (b + 1) (omega arith);
      differ = next-other m b h;
      two-rails = λ e both. tf false e refl;
    }

-- The member after a member, going round, as the code finds it: the first of those behind it, or else of all.
next_is : Byte → ℕ → Bool
next_is m i = not (ltb i (length (members m)))
    || eqb (get_or (members (byte (bit_and m.0 (bit_of (get_or (members m) i 0) - 1)))) 0 (get_or (members m) 0 0)) (member_at m (i + 1))

test-next-of : all_below 256 (λ n. all_below card_count (next_is (byte n))) ≡ true
unfolding next_is member_at members has_card
test-next-of = refl

-- A card has a bit.
test-bits : all_below card_count (λ c. ltb 0 (bit_of c)) ≡ true
test-bits = refl

pub bit-some : (c : ℕ) → c < card_count → 0 < bit_of c
bit-some c h = ltb-true 0 (bit_of c) (below_all card_count (λ c. ltb 0 (bit_of c)) c test-bits h)

pub next-found : (n b first : ℕ) → n < 256 → 0 < length (members (byte n)) → first ≡ member_at (byte n) b
    → get_or (members (byte (bit_and n (bit_of first - 1)))) 0 (get_or (members (byte n)) 0 0) ≡ member_at (byte n) (b + 1)
unfolding member_at next_is
next-found n b first h some e =
    ap₂ (λ (k c : ℕ). get_or (members (byte (bit_and k (bit_of c - 1)))) 0 (get_or (members m) 0 0)) (sym (mod-eq_of_lt h)) e
    ∙ eqb-true _ _ (imp-out _ _ (every-pair card_count next_is test-next-of m i (omega (arith, few-members m, mod-lt b some))) (lt-ltb i (length (members m)) (mod-lt b some)))
    ∙ ap (λ (j : ℕ). get_or (members m) j 0) (mod-add-mod b (length (members m)) 1)
  where
    m : Byte
    m = byte n

    i : ℕ
    i = b % length (members m)

-- As the code finds them: the second site is the first of the members across, if there is one.
pub sites-found : (n : ℕ) (rails : Bool) (b first across : ℕ) → n < 256 → copy_count ≤ size (byte n) → first ≡ member_at (byte n) b
    → across ≡ cond rails (bit_and n (other_rail first)) 0
    → mask_sites (record { mask = byte n; by_rails = rails }) b ≡ first ∷ cond (eqb across 0) (member_at (byte n) (b + 1)) (count_leading_zeros 8 across) ∷ []
unfolding mask_sites rail_sites chained_sites
sites-found n false b first across h u e d = rw (d, e)
sites-found n true b first across h u e d = rw (d, e) (ap (λ (x : ℕ). member_at (byte n) b ∷ x ∷ [])
    (across-found (byte n) b (rw (size-members (byte n)) u)
    ∙ ap (λ (a : ℕ). cond (eqb (bit_and a (other_rail (member_at (byte n) b))) 0) (member_at (byte n) (b + 1))
    (count_leading_zeros 8 (bit_and a (other_rail (member_at (byte n) b))))) (mod-eq_of_lt h)))
