-- The homes of open transactions work exactly if none of them is a card that does not: such cards are tried one after the
-- other. Assumes nothing.
use mathlib.Core.Path.{◌≡◌, refl, sym, ap, ◌∙◌}
use mathlib.Core.Logic.{◌⊎◌, inl, inr}
use mathlib.Core.Bool.{Bool, true, false, not, ◌&&◌, cond}
use mathlib.Core.List.{List, [], ◌∷◌}
use mathlib.Core.Option.{Option, none, some}
use Prim.Native.Nat.{ℕ, ◌/◌, ◌%◌, ◌≤◌, ◌<◌}
use native.Mathlib.Omega.{arith}
use lib.Dec.{eqb, leb}
use lib.ListN.{get_or}
use borrow.Author.Tests.{eqb-true}
use Rattle.lists.specs.Tests.{all_below, elem}
use Rattle.lists.proofs.Counts.{below_all}
use Rattle.lists.proofs.Bools.{and_in, eqb-self, split, tf}
use Rattle.image.specs.Layout.{card_count}
use Rattle.mask.specs.Masks.{AreMembers, Byte, byte, has_card, members}
use Rattle.mask.proofs.Masks.{elem-members, has-without}
use Rattle.mask.proofs.Steps.{given-in, left-is}
use Rattle.method.specs.ControlPart.{is_card}
use Rattle.control.specs.ControlBytes.{field, field_bound, home_in, homes_at, homes_end, open_bit, working_at}
use Rattle.control_form.specs.ControlForm.{home_ok}
use Rattle.control_form.specs.Reading.{all_from, first_end, home_ok_at, second_at}
use Rattle.control_form.proofs.Ranges.{all-from, from_all, from-cover}

test-all : all_below card_count (λ c. has_card (byte 255) c) ≡ true
unfolding has_card
test-all = refl

all-cards : (c : ℕ) → c < card_count → has_card (byte 255) c ≡ true
all-cards c h = below_all card_count (λ c. has_card (byte 255) c) c test-all h

-- ---- one transaction's byte
-- Whose home works is not begun at a card that does not.
works-not : (w : Byte) (c : ℕ) → has_card w c ≡ false → (o : Option ℕ) → home_ok false w o ≡ true → not (is_card o c) ≡ true
unfolding home_ok
works-not w c d none t = refl
works-not w c d (some h) t = go (split (eqb h c))
  where
    go : (eqb h c ≡ true) ⊎ (eqb h c ≡ false) → not (eqb h c) ≡ true
    go (inl e) = tf false (sym (ap (has_card w) (eqb-true h c e) ∙ d) ∙ t) refl
    go (inr e) = rw e

-- And a home that is none of those works.
not-works : (w : Byte) (b h : ℕ) (on : Bool) → (has_card w h ≡ false → not (is_card (cond on (some h) none) h) ≡ true)
    → home_ok false w (cond on (some h) none) ≡ true
unfolding home_ok
not-works w b h false d = refl
not-works w b h true d = go (split (has_card w h))
  where
    go : (has_card w h ≡ true) ⊎ (has_card w h ≡ false) → has_card w h ≡ true
    go (inl e) = e
    go (inr e) = tf false (sym (ap not (eqb-self h)) ∙ d e) refl

-- ---- all of them
-- No open transaction has the home c.
abbrev pub Lacking : List ℕ → ℕ → Type 0
Lacking l c = all_from homes_at homes_end (λ n. not (is_card (home_in (get_or l n 0)) c)) ≡ true

-- The cards that do not work and are not left have been tried.
abbrev pub Tried : List ℕ → ℕ → Type 0
Tried l left = (c : ℕ) → c < card_count → has_card (byte (get_or l working_at 0)) c ≡ false → has_card (byte left) c ≡ false → Lacking l c

-- The cards that are left do not work.
abbrev pub Idle : List ℕ → ℕ → Type 0
Idle l left = (c : ℕ) → has_card (byte left) c ≡ true → has_card (byte (get_or l working_at 0)) c ≡ false

module _ (l : List ℕ) where
  -- before the first
  pub idle-all : (left : ℕ) → AreMembers left (λ c. has_card (byte 255) c && not (has_card (byte (get_or l working_at 0)) c)) → Idle l left
  idle-all left are c t = go (has_card (byte 255) c) (has_card (byte (get_or l working_at 0)) c) (sym (are c) ∙ t)
    where
      go : (a b : Bool) → (a && not b) ≡ true → b ≡ false
      go true false e = refl
      go true true e = tf false e refl
      go false b e = tf false e refl

  pub tried-none : (left : ℕ) → AreMembers left (λ c. has_card (byte 255) c && not (has_card (byte (get_or l working_at 0)) c)) → Tried l left
  tried-none left are c h idle gone = tf false (sym (sym (are c) ∙ gone) ∙ rw (all-cards c h, idle)) refl

  -- one more
  module _ (left next : ℕ) (c : ℕ) (step : members (byte left) ≡ c ∷ members (byte next)) where
    -- the one that is tried does not work
    pub first-idle : Idle l left → has_card (byte (get_or l working_at 0)) c ≡ false
    first-idle i = i c (given-in (byte left) (byte next) c step)

    left-of : (x : ℕ) → has_card (byte next) x ≡ (has_card (byte left) x && not (eqb x c))
    left-of x = ap (λ (m : Byte). has_card m x) (left-is (byte left) (byte next) c step) ∙ has-without (byte left) c x

    pub idle-less : Idle l left → Idle l next
    idle-less h x t = h x (go (has_card (byte left) x) (eqb x c) (sym (left-of x) ∙ t))
      where
        go : (a b : Bool) → (a && not b) ≡ true → a ≡ true
        go true b e = refl
        go false b e = tf false e refl

    pub tried-more : Tried l left → Lacking l c → Tried l next
    tried-more h k x p d gone = go (split (eqb x c))
      where
        left-too : (a b : Bool) → b ≡ false → (a && not b) ≡ false → a ≡ false
        left-too true true e f = tf true refl e
        left-too true false e f = tf true refl f
        left-too false b e f = refl

        go : (eqb x c ≡ true) ⊎ (eqb x c ≡ false) → Lacking l x
        go (inl e) = ap (λ (y : ℕ). all_from homes_at homes_end (λ n. not (is_card (home_in (get_or l n 0)) y))) (eqb-true x c e) ∙ k
        go (inr e) = h x p d (left-too (has_card (byte left) x) (eqb x c) e (sym (left-of x) ∙ gone))

  -- a card that does not work, and is a home: among the first eight bytes or the others
  pub lacking : (c : ℕ) → all_from homes_at first_end (λ n. not (is_card (home_in (get_or l n 0)) c)) ≡ true
      → all_from second_at homes_end (λ n. not (is_card (home_in (get_or l n 0)) c)) ≡ true → Lacking l c
  lacking c s t = from-cover homes_at second_at first_end homes_end (λ n. not (is_card (home_in (get_or l n 0)) c)) (omega arith) (omega arith) (omega arith) ∙ and_in _ _ s t

  pub begun-there : (c a e : ℕ) → has_card (byte (get_or l working_at 0)) c ≡ false → homes_at ≤ a → e ≤ homes_end
      → all_from a e (λ n. not (is_card (home_in (get_or l n 0)) c)) ≡ false → false ≡ all_from homes_at homes_end (home_ok_at false l)
  begun-there c a e d lo hi f = go (split (all_from homes_at homes_end (home_ok_at false l)))
    where
      all-not : all_from homes_at homes_end (home_ok_at false l) ≡ true → all_from a e (λ n. not (is_card (home_in (get_or l n 0)) c)) ≡ true
      all-not t = all-from a (λ n. not (is_card (home_in (get_or l n 0)) c)) e (λ n p q.
          works-not (byte (get_or l working_at 0)) c d (home_in (get_or l n 0)) (unfold home_ok_at in (from_all homes_at (home_ok_at false l) homes_end n t (omega arith) (omega arith))))

      go : (all_from homes_at homes_end (home_ok_at false l) ≡ true) ⊎ (all_from homes_at homes_end (home_ok_at false l) ≡ false) → false ≡ all_from homes_at homes_end (home_ok_at false l)
      go (inl t) = tf false (sym f ∙ all-not t) refl
      go (inr t) = sym t

  -- none is left
  pub all-work : (left : ℕ) → members (byte left) ≡ [] → Tried l left → true ≡ all_from homes_at homes_end (home_ok_at false l)
  all-work left e h = sym (all-from homes_at (home_ok_at false l) homes_end (λ n p q. unfold home_ok_at in
      (not-works (byte (get_or l working_at 0)) (get_or l n 0) (get_or l n 0 / field % field_bound) (leb open_bit (get_or l n 0))
      (λ d. from_all homes_at (λ n'. not (is_card (home_in (get_or l n' 0)) (get_or l n 0 / field % field_bound))) homes_end n
      (h (get_or l n 0 / field % field_bound) (omega arith) d
      (sym (elem-members (byte left) (get_or l n 0 / field % field_bound)) ∙ ap (elem (get_or l n 0 / field % field_bound)) e)) p q))))
