-- The changes of the struct are the rules' changes of the control part. Assumes nothing.
use mathlib.Core.Path.{◌≡◌, refl, sym, ap, ap₂, ◌∙◌, fun_ext}
use mathlib.Core.Logic.{◌⊎◌, inl, inr}
use mathlib.Core.Bool.{Bool, true, false, ◌&&◌, cond}
use mathlib.Core.Option.{Option, some, none}
use mathlib.Core.List.{List, [], ◌∷◌}
use Prim.Native.Nat.{ℕ, zero, suc, ◌+◌, ◌-◌, ◌*◌, ◌/◌, ◌%◌, ◌^◌, ◌<◌}
use native.Mathlib.Omega.{arith}
use lib.Bits.{bit_or}
use lib.Dec.{ltb, eqb}
use lib.ListN.{get_or, length, set, replicate}
use lib.Seq.{get_or-set_same, get_or-set_other}
use borrow.Author.Tests.{eqb-true, eqb-false, ltb-true, lt-ltb, le-leb}
use Rattle.lists.proofs.Bools.{tf, split, and_l, and_r, and_in}
use Rattle.image.specs.Layout.{card_count, most_active, tran_bound, tran_count}
use Rattle.mask.specs.Masks.{Byte, bit_of, byte, no_cards}
use Rattle.mask.specs.Pairs.{no_pairs}
use Rattle.mask.specs.Placements.{Choice, Placement, by_table, from_mask, is_by_rails}
use Rattle.method.specs.ControlPart.{active, is_card, begun_at, started, with_home, with_cards, with_placements, opened, closed, added, only_newest, halted, part}
use Rattle.control.specs.ControlBytes.{chosen_by, field, field_bound, home_in, home_of, kept_as, mark_in, open_bit, placements_in, table_mark_in}
use Rattle.control.specs.Meaning.{clean_marks, placement_in, meaning, newest_mask, kept_home, with_mask, Counted, Is}
use Rattle.control.specs.Serials.{first_serial}
use Rattle.control.specs.declared.Control.{Control}
use Rattle.control.proofs.Marks.{chosen-rails, kind, kind_in, kind-first, marked-is, marked-same, rails-added, rails-kept, table-added, table-bit, table_kept}
use Rattle.control.proofs.Struct.{placements-same, active-is}

-- The homes after a store at transaction t's place.
home-set : (l : List ℕ) (t v : ℕ) → length l ≡ tran_count → 0 < t → t < tran_bound → (x : ℕ)
    → home_of x (get_or (set l (t - 1) v) (x - 1) 0) ≡ cond (eqb x t) (home_in v) (home_of x (get_or l (x - 1) 0))
home-set l t v n lo hi x = go (split (ltb 0 x && ltb x tran_bound)) (split (eqb x t))
  where
    go : ((ltb 0 x && ltb x tran_bound) ≡ true) ⊎ ((ltb 0 x && ltb x tran_bound) ≡ false) → (eqb x t ≡ true) ⊎ (eqb x t ≡ false)
        → home_of x (get_or (set l (t - 1) v) (x - 1) 0) ≡ cond (eqb x t) (home_in v) (home_of x (get_or l (x - 1) 0))
    go (inl r) (inl e) =
        let q : x - 1 ≡ t - 1 = ap (λ (y : ℕ). y - 1) (eqb-true x t e) in
        rw (e, r) (ap home_in (ap (λ (y : ℕ). get_or (set l (t - 1) v) y 0) q ∙ get_or-set_same l (t - 1) v 0 (omega arith)))
    go (inl r) (inr e) =
        let d : x ≡ t → ⊥ = eqb-false x t e in
        let a : 0 < x = ltb-true 0 x (and_l (ltb 0 x) (ltb x tran_bound) r) in
        rw (e, r) (ap home_in (get_or-set_other l (t - 1) (x - 1) v 0 (λ q. d (omega arith))))
    go (inr r) (inr e) = rw (e, r)
    go (inr r) (inl e) =
        let q : x ≡ t = eqb-true x t e in
        tf (ltb 0 x && ltb x tran_bound) (and_in (ltb 0 x) (ltb x tran_bound) (lt-ltb 0 x (omega arith)) (lt-ltb x tran_bound (omega arith))) r

-- The byte that remains of a home when what was begun at card c closes.
kept-home : (c b : ℕ) → home_in (kept_home c b) ≡ cond (is_card (home_in b) c) none (home_in b)
unfolding kept_home
kept-home c b = go (is_card (home_in b) c)
  where
    go : (x : Bool) → home_in (cond x 0 b) ≡ cond x none (home_in b)
    go true = refl
    go false = refl

-- Other homes; other working and failed cards: all else as it was.
abbrev pub with_homes : Control → List ℕ → Control
with_homes k l = record { stopped = k.stopped; count = k.count; masks = k.masks; working = k.working; failed = k.failed; marks = k.marks; homes = l; serial = k.serial }

module _ (k : Control) (w : Counted k) where
  homes-are : (l : List ℕ) (f : ℕ → Option ℕ) → ((t : ℕ) → home_of t (get_or l (t - 1) 0) ≡ f t) → Is (with_homes k l) (with_home (meaning k) f)
  unfolding meaning
  homes-are l f same = record { counted = record { some = w.some; few = w.few }; means = ap (with_home (meaning k)) (fun_ext same) }

  pub open_is : (t h : ℕ) → length k.homes ≡ tran_count → 0 < t → t < tran_bound → h < card_count
      → Is (with_homes k (set k.homes (t - 1) (open_bit + h * field))) (opened (meaning k) t h)
  unfolding meaning
  open_is t h n lo hi b = homes-are (set k.homes (t - 1) (open_bit + h * field)) _
      (λ x. home-set k.homes t (open_bit + h * field) n lo hi x ∙ ap (λ (o : Option ℕ). cond (eqb x t) o (home_of x (get_or k.homes (x - 1) 0))) home)
    where
      same : (open_bit + h * field) / field % field_bound ≡ h
      same = omega arith

      home : home_in (open_bit + h * field) ≡ some h
      home = rw (le-leb open_bit (open_bit + h * field) (omega arith)) (ap {B = Option ℕ} some same)

  pub close-is : (t : ℕ) → length k.homes ≡ tran_count → 0 < t → t < tran_bound
      → Is (with_homes k (set k.homes (t - 1) 0)) (closed (meaning k) (λ x. eqb x t))
  unfolding meaning
  close-is t n lo hi = homes-are (set k.homes (t - 1) 0) _ (λ x. home-set k.homes t 0 n lo hi x)

  pub close-at-is : (c : ℕ) (l : List ℕ) → ((j : ℕ) → j < tran_count → get_or l j 0 ≡ kept_home c (get_or k.homes j 0))
      → Is (with_homes k l) (closed (meaning k) (begun_at (meaning k) c))
  unfolding meaning
  close-at-is c l same = homes-are l _ (λ t. go t (split (ltb 0 t && ltb t tran_bound)))
    where
      go : (t : ℕ) → ((ltb 0 t && ltb t tran_bound) ≡ true) ⊎ ((ltb 0 t && ltb t tran_bound) ≡ false)
          → home_of t (get_or l (t - 1) 0) ≡ cond (is_card (home_of t (get_or k.homes (t - 1) 0)) c) none (home_of t (get_or k.homes (t - 1) 0))
      go t (inr e) = rw e
      go t (inl e) =
          let a : 0 < t = ltb-true 0 t (and_l (ltb 0 t) (ltb t tran_bound) e) in
          let b : t < tran_bound = ltb-true t tran_bound (and_r (ltb 0 t) (ltb t tran_bound) e) in
          rw e (ap home_in (same (t - 1) (omega arith)) ∙ kept-home c (get_or k.homes (t - 1) 0))

  -- a placement is added: its mask, its mark, beside marks that keep the kinds of the others, and its serial
  module _ (m mark : ℕ) (n : length k.masks ≡ most_active) (h : k.count < most_active) where
    abbrev marks : ℕ
    marks = bit_or (clean_marks k.count k.marks) mark

    abbrev masks : List ℕ
    masks = set k.masks k.count m

    c : k.count + 1 - 1 ≡ k.count
    c = omega arith

    more-is : (table rails : Bool) → kind_in marks k.count ≡ kind table rails → ((i : ℕ) → i < k.count → kind_in marks i ≡ kind_in k.marks i)
        → Is (with_mask k m mark) (added (meaning k) (record { mask = byte m; choice = chosen_by table rails no_pairs }) (suc k.serial))
    unfolding meaning
    more-is table rails new same = record {
      counted = record { some = omega arith; few = omega arith };
      means = ap₂ (λ (o : List Placement) (n : Placement). part k.stopped o n (byte k.working) (byte k.failed) (meaning k).home tt (suc k.serial)) old last;
    }
      where
        kept : (i : ℕ) → i < k.count → kept_as i (get_or masks i 0) marks no_pairs ≡ placement_in k i
        kept i b = ap₂ (λ (x : ℕ) (r : Choice). record { mask = byte x; choice = r }) (get_or-set_other k.masks k.count i m 0 (λ e. omega arith))
            (marked-same marks k.marks i no_pairs (same i b))

        old : placements_in (λ i. kept_as i (get_or masks i 0) marks no_pairs) (k.count + 1 - 1) ≡ active (meaning k)
        old = ap (placements_in (λ i. kept_as i (get_or masks i 0) marks no_pairs)) c
            ∙ placements-same (λ i. kept_as i (get_or masks i 0) marks no_pairs) (placement_in k) k.count kept ∙ sym (active-is k w)

        last : kept_as (k.count + 1 - 1) (get_or masks (k.count + 1 - 1) 0) marks no_pairs ≡ record { mask = byte m; choice = chosen_by table rails no_pairs }
        last = ap (λ (i : ℕ). kept_as i (get_or masks i 0) marks no_pairs) c
            ∙ ap₂ (λ (x : ℕ) (r : Choice). record { mask = byte x; choice = r }) (get_or-set_same k.masks k.count m 0 (omega arith))
            (marked-is marks k.count table rails no_pairs new)

  module _ (m : ℕ) (n : length k.masks ≡ most_active) (h : k.count < most_active) (byte-marks : k.marks < 256) where
    pub add_is : Is (with_mask k m (bit_of k.count)) (added (meaning k) (from_mask (byte m)) (suc k.serial))
    add_is = more-is m (bit_of k.count) n h false true (rails-added k.count k.marks h byte-marks) (rails-kept k.count k.marks h byte-marks)

    pub add-table-is : Is (with_mask k m (8 / 2 ^ k.count)) (added (meaning k) (record { mask = byte m; choice = by_table no_pairs }) (suc k.serial))
    add-table-is = rw (table-bit k.count h)
        (more-is m (bit_of (most_active + k.count)) n h true false (table-added k.count k.marks h byte-marks) (table_kept k.count k.marks h byte-marks))

  -- by rails, and not by table
  pub newest-rails : is_by_rails (meaning k).newest.choice ≡ cond (table_mark_in k.marks (k.count - 1)) false (mark_in k.marks (k.count - 1))
  unfolding meaning
  newest-rails = chosen-rails (table_mark_in k.marks (k.count - 1)) (mark_in k.marks (k.count - 1)) no_pairs

  pub retire-is : (m marks : ℕ) (table rails : Bool) → m ≡ newest_mask k → table ≡ table_mark_in k.marks (k.count - 1)
      → rails ≡ is_by_rails (meaning k).newest.choice → marks ≡ cond table (bit_of most_active) (cond rails (bit_of 0) 0)
      → Is (record { stopped = k.stopped; count = 1; masks = m ∷ 0 ∷ 0 ∷ 0 ∷ []; working = k.working; failed = k.failed; marks = marks; homes = k.homes; serial = k.serial })
      (only_newest (meaning k))
  unfolding meaning
  retire-is m marks table rails em et er e = record {
    counted = record { some = omega arith; few = omega arith };
    means = means;
  }
    where
      choice : chosen_by (table_mark_in marks 0) (mark_in marks 0) no_pairs ≡ chosen_by (table_mark_in k.marks (k.count - 1)) (mark_in k.marks (k.count - 1)) no_pairs
      choice = ap (λ (x : ℕ). chosen_by (table_mark_in x 0) (mark_in x 0) no_pairs) e
          ∙ marked-is (cond table (bit_of most_active) (cond rails (bit_of 0) 0)) 0 table rails no_pairs (kind-first table rails)
          ∙ ap₂ (λ (t r : Bool). chosen_by t r no_pairs) et (er ∙ newest-rails)
          ∙ settled (table_mark_in k.marks (k.count - 1)) (mark_in k.marks (k.count - 1))
        where
          settled : (t r : Bool) → chosen_by t (cond t false r) no_pairs ≡ chosen_by t r no_pairs
          settled true r = refl
          settled false r = refl

      means : meaning (record { stopped = k.stopped; count = 1; masks = m ∷ 0 ∷ 0 ∷ 0 ∷ []; working = k.working; failed = k.failed; marks = marks; homes = k.homes; serial = k.serial })
          ≡ only_newest (meaning k)
      means = ap (with_placements (meaning k) []) (ap₂ (λ (x : ℕ) (c : Choice). record { mask = byte x; choice = c }) em choice)

  pub cards-are : (x y : ℕ) (p q : Byte) → byte x ≡ p → byte y ≡ q
      → Is (record { stopped = k.stopped; count = k.count; masks = k.masks; working = x; failed = y; marks = k.marks; homes = k.homes; serial = k.serial }) (with_cards (meaning k) p q)
  unfolding meaning
  cards-are x y p q ep eq = record { counted = record { some = w.some; few = w.few }; means = ap₂ (with_cards (meaning k)) ep eq }

-- No transaction is open where all bytes are zero.
pub at-zeros : (n i : ℕ) → ◌≡◌ {A = ℕ} (get_or (replicate n 0) i 0) 0
at-zeros zero i = refl
at-zeros (suc n) zero = refl
at-zeros (suc n) (suc i) = at-zeros n i

none_open : (t : ℕ) → home_of t (get_or (replicate tran_count 0) (t - 1) 0) ≡ none
none_open t = rw (at-zeros tran_count (t - 1)) (go (ltb 0 t && ltb t tran_bound))
  where
    go : (b : Bool) → cond b (home_in 0) none ≡ none
    go true = refl
    go false = refl

pub halt-is : (k : Control) → Counted k
    → Is (record { stopped = true; count = k.count; masks = k.masks; working = k.working; failed = k.failed; marks = k.marks; homes = replicate tran_count 0; serial = k.serial })
    (halted (meaning k))
unfolding meaning
halt-is k w = record { counted = record { some = w.some; few = w.few }; means = ap (with_home (halted (meaning k))) (fun_ext none_open) }

pub rest-is : (k : Control) → Counted k → (s : Bool)
    → Is (record { stopped = s; count = k.count; masks = k.masks; working = k.working; failed = k.failed; marks = k.marks; homes = k.homes; serial = k.serial })
    (part s (meaning k).older (meaning k).newest (meaning k).working (meaning k).failed (meaning k).home (meaning k).setting (meaning k).serial)
unfolding meaning
rest-is k w s = record { counted = record { some = w.some; few = w.few }; means = refl }

pub start_is : (m : ℕ)
    → Is (record { stopped = false; count = 1; masks = m ∷ 0 ∷ 0 ∷ 0 ∷ []; working = m; failed = 0; marks = bit_of 0; homes = replicate tran_count 0; serial = 1 })
    (started (from_mask (byte m)) (byte m) no_cards tt first_serial)
unfolding meaning
start_is m = record {
  counted = record { some = omega arith; few = omega arith };
  means = ap (with_home (started (from_mask (byte m)) (byte m) no_cards tt first_serial)) (fun_ext none_open);
}
