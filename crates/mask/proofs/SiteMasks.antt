-- The masks of sites, as the code makes them, are those of the placement. Assumes nothing.
use mathlib.Core.Path.{◌≡◌, refl, sym, ap, fun_ext, ◌∙◌}
use mathlib.Core.Bool.{Bool, true, false, not, ◌&&◌, ◌||◌, and-false, and-true, cond}
use mathlib.Core.List.{List, [], ◌∷◌}
use mathlib.Core.Logic.{◌≢◌, ◌⊎◌, inl, inr}
use Prim.Native.Nat.{ℕ, suc, zero, ◌+◌, ◌%◌, ◌≤◌, ◌<◌}
use native.Mathlib.Nat.{add-zero, zero-add, mod-add-mod, mod-eq_of_lt, mod-lt, mod_self}
use native.Mathlib.Omega.{arith}
use lib.Bits.{bit_and}
use lib.Count.{count_leading_zeros}
use lib.Dec.{eqb}
use lib.ListN.{get_or-eq_default, drop, get_or, length, length-drop, set}
use lib.Seq.{drop-drop, get_or-drop, get_or-set_other, get_or-set_same}
use borrow.Author.Tests.{eq-eqb, lt-ltb, ne_eqb}
use Rattle.lists.specs.Tests.{all_below, count_below, count_not, distinct, elem, one_if}
use Rattle.lists.proofs.Bools.{and_l, and_r, eqb-self, not_is, or_l, or_r, split}
use Rattle.lists.proofs.Cases.{by-eq, lt-or-ge}
use Rattle.lists.proofs.Counts.{but, count-but}
use Rattle.lists.proofs.Lists.{any-default}
use Rattle.image.specs.Layout.{block_count, card_count, copy_count}
use Rattle.mask.specs.Masks.{AreMembers, Byte, byte, has_card, members, size, with_card}
use Rattle.mask.specs.Placements.{Masked, Placement, is_site, mask_sites, member_at, other_rail, placed}
use Rattle.mask.specs.SiteMasks.{MasksBelow, SitesIn}
use Rattle.mask.proofs.FirstMember.{first-is, some-members}
use Rattle.mask.proofs.Masks.{elem-members, every-mask, has-card, has-none, has-with}
use Rattle.mask.proofs.MaskSites.{site-round, sites-found}
use Rattle.mask.proofs.SiteLaws.{placed-sites}

-- ---- two cards
pub pair_is : (a b m r : ℕ) → a < card_count → b < card_count → byte m ≡ with_card (byte 0) a → byte r ≡ with_card (byte m) b → AreMembers r (λ c. elem c (a ∷ b ∷ []))
pair_is a b m r ha hb e f c = ap (λ (x : Byte). has_card x c) f ∙ has-with (byte m) b c (lt-ltb b card_count hb)
    ∙ ap (λ (t : Bool). eqb c b || t) (ap (λ (x : Byte). has_card x c) e ∙ has-with (byte 0) a c (lt-ltb a card_count ha) ∙ ap (λ (t : Bool). eqb c a || t) (has-none c))
    ∙ swap (eqb c b) (eqb c a)
  where
    swap : (x y : Bool) → (x || (y || false)) ≡ (y || (x || false))
    swap true true = refl
    swap true false = refl
    swap false true = refl
    swap false false = refl

-- ---- the members from number i on are left, and they are some
module _ (m : Byte) (i left : ℕ) (from : members (byte left) ≡ drop i (members m)) (some : 0 < length (members (byte left))) where
  pub is_member : i < length (members m)
  is_member = let h : 0 < length (drop i (members m)) = rw (sym from) some in omega (arith, h, length-drop i (members m))

  -- the first of them is member number i
  first-left : get_or (members (byte left)) 0 0 ≡ member_at m i
  unfolding member_at
  first-left = ap (λ (l : List ℕ). get_or l 0 0) from ∙ get_or-drop i (members m) 0 0
      ∙ ap (λ (n : ℕ). get_or (members m) n 0) (add-zero i ∙ sym (mod-eq_of_lt is_member))

  -- and the next, or else the first of all, is the one after it, going round
  next-left : get_or (drop 1 (members (byte left))) 0 (get_or (members m) 0 0) ≡ member_at m (i + 1)
  unfolding member_at
  next-left = ap (λ (l : List ℕ). get_or (drop 1 l) 0 (get_or (members m) 0 0)) from
      ∙ ap (λ (l : List ℕ). get_or l 0 (get_or (members m) 0 0)) (drop-drop 1 i (members m))
      ∙ get_or-drop (i + 1) (members m) 0 (get_or (members m) 0 0)
      ∙ ap (λ (n : ℕ). get_or (members m) n (get_or (members m) 0 0)) (add-zero (i + 1))
      ∙ go (lt-or-ge (i + 1) (length (members m)))
    where
      go : (i + 1 < length (members m)) ⊎ (length (members m) ≤ i + 1)
          → get_or (members m) (i + 1) (get_or (members m) 0 0) ≡ get_or (members m) ((i + 1) % length (members m)) 0
      go (inl h) = any-default (members m) (i + 1) (get_or (members m) 0 0) 0 h ∙ ap (λ (n : ℕ). get_or (members m) n 0) (sym (mod-eq_of_lt h))
      go (inr h) =
          let e : i + 1 ≡ length (members m) = omega (arith, h, is_member) in
          get_or-eq_default (members m) (get_or (members m) 0 0) h
          ∙ ap (λ (n : ℕ). get_or (members m) n 0) (sym (ap (λ (n : ℕ). n % length (members m)) e ∙ mod_self (length (members m))))

-- ---- one entry: the first of these members, and the second site that the code finds to it
module _ (n : ℕ) (rails : Bool) (left first across : ℕ) (small : n < 256) (u : copy_count ≤ size (byte n)) (some : 0 < length (members (byte left)))
    (f : first ≡ get_or (members (byte left)) 0 0) (a : across ≡ cond rails (bit_and n (other_rail first)) 0) (second r : ℕ)
    (two : AreMembers r (λ c. elem c (first ∷ second ∷ []))) (i : ℕ) (from : members (byte left) ≡ drop i (members (byte n))) where
  abbrev placement : Masked
  placement = record { mask = byte n; by_rails = rails }

  found : mask_sites placement i ≡ first ∷ cond (eqb across 0) (member_at (byte n) (i + 1)) (count_leading_zeros 8 across) ∷ []
  found = sites-found n rails i first across small u (f ∙ first-left (byte n) i left from some) a

  entry : second ≡ cond (eqb across 0) (member_at (byte n) (i + 1)) (count_leading_zeros 8 across) → AreMembers r (is_site (placed placement) i)
  entry s c = two c ∙ ap (elem c) (ap (λ (x : ℕ). first ∷ x ∷ []) s ∙ sym found ∙ sym (placed-sites placement i))

  -- on the other rail
  pub entry-across : across < 256 → across ≢ 0 → second ≡ get_or (members (byte across)) 0 0 → AreMembers r (is_site (placed placement) i)
  entry-across h d s = entry (s ∙ sym (rw (ne_eqb across 0 d) (first-is across h (some-members across h d))))

  -- the next member
  pub entry_next : across ≡ 0 → (rest : ℕ) → members (byte rest) ≡ drop 1 (members (byte left)) → second ≡ get_or (members (byte rest)) 0 (get_or (members (byte n)) 0 0)
      → AreMembers r (is_site (placed placement) i)
  entry_next z rest t s = entry (s ∙ ap (λ (l : List ℕ). get_or l 0 (get_or (members (byte n)) 0 0)) t ∙ next-left (byte n) i left from some ∙ sym (rw (eq-eqb across 0 z)))

-- ---- a list of masks, block by block
pub masks-more : (f : ℕ → ℕ → Bool) (masks : List ℕ) (n r : ℕ) → n < length masks → MasksBelow f masks n → AreMembers r (f n) → MasksBelow f (set masks n r) (n + 1)
masks-more f masks n r long below m j h c = by-eq (has_card (byte (get_or (set masks n r) j 0)) c ≡ f j c) j n
    (λ e. rw (e, get_or-set_same masks n r 0 long) (m c))
    (λ d. rw (get_or-set_other masks n j r 0 d) (below j (omega arith) c))

-- ---- masks of so many blocks, after which the sites come again
pub masks-round : (q : Masked) (masks : List ℕ) (n : ℕ) → n ≡ length (members q.mask) → 0 < n → n ≤ card_count → MasksBelow (is_site (placed q)) masks n
    → SitesIn masks n (placed q)
masks-round q masks n e some few below = record {
  some = some;
  few = omega arith;
  sites-are = λ b h c. below (b % n) (mod-lt b some) c ∙ ap (elem c) (placed-sites q (b % n) ∙ ap (λ (m : ℕ). mask_sites q (b % m)) e ∙ site-round q b ∙ sym (placed-sites q b));
}

-- the place of a block among them, and of the next block
module _ {masks : List ℕ} {n : ℕ} {p : Placement} (is : SitesIn masks n p) (b place : ℕ) (at : place ≡ b % n) where
  pub place-counts : place < n
  place-counts = rw at (mod-lt b is.some)

  pub place-fits : place < block_count
  place-fits = omega (arith, place-counts, is.few)

  pub place-next : (next : ℕ) → next ≡ (place + 1) % n → next ≡ (b + 1) % n
  place-next next e = e ∙ ap (λ (i : ℕ). (i + 1) % n) at ∙ mod-add-mod b n 1

  pub sites-at : b < block_count → AreMembers (get_or masks place 0) (is_site p b)
  sites-at h = rw at (is.sites-are b h)

-- ---- how many cards of a mask, or of a list of different cards, the test does not pick
count-list : (n : ℕ) (f : ℕ → Bool) (l : List ℕ) → distinct l ≡ true → ((x : ℕ) → elem x l ≡ true → x < n) → count_below n (λ c. elem c l && not (f c)) ≡ count_not f l
count-list n f [] d cards = none n
  where
    none : (n : ℕ) → count_below n (λ c. false) ≡ 0
    none zero = refl
    none (suc n) = zero-add (count_below n (λ c. false)) ∙ none n
count-list n f (x ∷ l) d cards = go (count-list n f l (and_r (not (elem x l)) (distinct l) d) (λ y h. cards y (or_r (eqb y x) (elem y l) h))) (split (f x))
  where
    apart : elem x l ≡ false
    apart = not_is (elem x l) (and_l (not (elem x l)) (distinct l) d)

    -- card x is not picked
    kept : f x ≡ true → (c : ℕ) → ((eqb c x || elem c l) && not (f c)) ≡ (elem c l && not (f c))
    kept on c = by-eq (((eqb c x || elem c l) && not (f c)) ≡ (elem c l && not (f c))) c x
        (λ e. rw (e, eqb-self x, apart, on))
        (λ n. rw (ne_eqb c x n))

    -- and without card x
    others : (c : ℕ) → but (λ c. (eqb c x || elem c l) && not (f c)) x c ≡ (elem c l && not (f c))
    others c = by-eq (but (λ c. (eqb c x || elem c l) && not (f c)) x c ≡ (elem c l && not (f c))) c x
        (λ e. rw (e, eqb-self x, apart) (and-false (not (f x))))
        (λ n. rw (ne_eqb c x n) (and-true (elem c l && not (f c))))

    go : count_below n (λ c. elem c l && not (f c)) ≡ count_not f l → (f x ≡ true) ⊎ (f x ≡ false) → count_below n (λ c. (eqb c x || elem c l) && not (f c)) ≡ one_if (not (f x)) + count_not f l
    go rest (inl on) = ap (count_below n) (fun_ext (kept on)) ∙ rest ∙ rw on (sym (zero-add (count_not f l)))
    go rest (inr off) = count-but n (λ c. (eqb c x || elem c l) && not (f c)) x (rw (eqb-self x, off)) (cards x (or_l (eqb x x) (elem x l) (eqb-self x)))
        ∙ ap suc (ap (count_below n) (fun_ext others) ∙ rest) ∙ rw off (omega arith)

test-members : all_below 256 (λ n. distinct (members (byte n))) ≡ true
unfolding members has_card
test-members = refl

-- by its members or by the list, in whatever order
pub count-members : (m : ℕ) (l : List ℕ) (f : ℕ → Bool) → distinct l ≡ true → AreMembers m (λ c. elem c l) → count_not f (members (byte m)) ≡ count_not f l
count-members m l f d are =
    sym (count-list card_count f (members (byte m)) (every-mask (λ x. distinct (members x)) test-members (byte m)) (λ x h. has-card (byte m) x (sym (elem-members (byte m) x) ∙ h)))
    ∙ ap (count_below card_count) (fun_ext (λ c. ap (λ (t : Bool). t && not (f c)) (elem-members (byte m) c ∙ are c)))
    ∙ count-list card_count f l d (λ x h. has-card (byte m) x (are x ∙ h))
