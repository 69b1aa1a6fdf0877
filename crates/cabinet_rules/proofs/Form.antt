-- The control form holds of the control part of a store that runs with the invariant, and of the one that a stopping fail leaves. Assumes nothing.
use Prim.Native.Nat.{◌+◌, ◌<◌, ◌≤◌, suc, zero, ℕ}
use borrow.Author.Tests.{eq-eqb, le-leb, le-ltb, leb-false, leb-true, lt-leb, lt-ltb, ltb-false, ltb-true}
use lib.Dec.{eqb, leb, ltb}
use lib.ListN.{length, length-reverse}
use mathlib.Core.Bool.{Bool, ◌&&◌, ◌||◌, cond, false, not, true}
use mathlib.Core.List.{List, [], ◌∷◌, reverse}
use mathlib.Core.Logic.{◌⊎◌, inl, inr}
use mathlib.Core.Option.{Option, none, some}
use mathlib.Core.Path.{◌∙◌, ◌≡◌, ap, refl, sym}
use native.Mathlib.Omega.{arith}
use Rattle.lists.specs.Tests.{In, count_below}
use Rattle.lists.proofs.Bools.{and_in, imp, is-not, nand, or_l, or_r, split, tf}
use Rattle.lists.proofs.Counts.{all-below, any_below_lem}
use Rattle.lists.proofs.Lists.{all_in_lem}
use Rattle.image.specs.Layout.{card_count, control_size, copy_count, most_active, most_placed, tail_size, tran_bound}
use Rattle.mask.specs.Masks.{Byte, are_apart, common, has_card, is_one_more, is_within, is_within_either, size, with_card}
use Rattle.mask.specs.Placements.{Placement, Usable, pairs_ok}
use Rattle.mask.proofs.Masks.{has-card, has-with, same_number}
use Rattle.method.specs.ControlPart.{active, is_open, part}
use Rattle.method.specs.Rules.{lost, lost_of}
use Rattle.method.proofs.Capacity.{Chain, ControlInv, OneMore, bounded}
use Rattle.method.proofs.Invariant.{Form}
use Rattle.method.proofs.Legal.{Legal, is-resting, is-running}
use Rattle.method.proofs.Stopped.{Rests}
use Rattle.control.specs.ControlBytes.{Part, control_byte, count_in, tail_byte}
use Rattle.control.specs.Serials.{serial_bound, serial_most}
use Rattle.control.specs.Stamps.{no_stamp, stamp_byte, stamp_of}
use Rattle.control.proofs.StampLaws.{stamp-back, stamp-same}
use Rattle.control_form.specs.ControlForm.{chain_ok, count_ok, form_ok, front_ok, home_ok, is_safe, kept_ok, masks_of, members_ok, part_ok, serial_ok, tables_ok, zero_fields_ok}
use Rattle.control_form.proofs.RoundTrip.{read-control, read_count}
use Rattle.cabinet_rules.specs.Cabinet.{cabinet, tran_ok}
use Rattle.cabinet_rules.specs.Delivery.{Numbered, current, resuming}
use Rattle.cabinet_rules.proofs.Lawful.{ControlLaws, DeliveryLaws, StampLaws}
use Rattle.cabinet_rules.proofs.PlacingLaws.{lawful, rule_laws}

-- ---- the stop rule and the clause of the control form on it
-- a placement is safe exactly where it is not lost
pub safe-is : (working failed m : Byte) → is_safe working failed m ≡ not (lost_of cabinet tt working failed m)
unfolding is_safe lost_of common
safe-is working failed m = go (split (leb copy_count x)) (split (ltb y copy_count))
  where
    x : ℕ
    x = count_below card_count (λ c. has_card m c && has_card failed c)

    y : ℕ
    y = count_below card_count (λ c. has_card m c && has_card working c)

    go : (leb copy_count x ≡ true) ⊎ (leb copy_count x ≡ false) → (ltb y copy_count ≡ true) ⊎ (ltb y copy_count ≡ false)
        → (ltb x copy_count && leb copy_count y) ≡ not (leb copy_count x || ltb y copy_count)
    go (inl e) r = rw (e, le-ltb x copy_count (leb-true copy_count x e))
    go (inr e) (inl f) = rw (e, f, lt-ltb x copy_count (leb-false copy_count x e), lt-leb copy_count y (ltb-true y copy_count f))
    go (inr e) (inr f) = rw (e, f, lt-ltb x copy_count (leb-false copy_count x e), le-leb copy_count y (ltb-false y copy_count f))

-- ---- more placements than the limit
pub length-masks : (l : List Placement) → length (masks_of l) ≡ length l
length-masks [] = refl
length-masks (p ∷ l) = ap suc (length-masks l)

-- the card that a placement has besides is one that its mask has besides
is-one-more : (d : Byte) (newest p : Placement) → OneMore cabinet lawful d newest p → is_one_more d newest.mask p.mask ≡ true
unfolding is_one_more
is-one-more d newest p o =
    let lt : o.extra < card_count = has-card d o.extra o.extra-failed in
    any_below_lem card_count (λ x. has_card d x && (not (has_card newest.mask x) && eqb p.mask.0 (with_card newest.mask x).0)) o.extra lt
    (and_in _ _ o.extra-failed (and_in _ _ (is-not (has_card newest.mask o.extra) o.extra-new)
    (eq-eqb p.mask.0 (with_card newest.mask o.extra).0
    (same_number p.mask (with_card newest.mask o.extra) (λ x. o.extra-is x ∙ sym (has-with newest.mask o.extra x (lt-ltb o.extra card_count lt)))))))

-- while more than the limit are active, each was added by a failure
chain-ok : (limit : ℕ) (d : Byte) (newest : Placement) (j : ℕ) (l : List Placement) → Chain cabinet lawful d j newest l
    → suc (length l) ≤ limit + j → chain_ok limit d newest.mask (masks_of l) ≡ true
unfolding chain_ok
chain-ok limit d newest j [] c h = refl
chain-ok limit d newest zero (p ∷ l) c h = rw (le-ltb limit (suc (suc (length (masks_of l)))) few)
  where
    few : suc (suc (length (masks_of l))) ≤ limit
    few = omega (arith, length-masks l)
chain-ok limit d newest (suc j) (p ∷ l) c h = go (ltb limit (suc (suc (length (masks_of l))))) (chain-ok limit d p j l c.1 (omega arith))
  where
    go : (b : Bool) → chain_ok limit d p.mask (masks_of l) ≡ true → cond b (is_one_more d newest.mask p.mask && chain_ok limit d p.mask (masks_of l)) true ≡ true
    go true older = and_in _ _ (is-one-more d newest p c.0) older
    go false older = refl

room-ok : (d : Byte) (newest : Placement) (j : ℕ) (l : List Placement) → Chain cabinet lawful d j newest (reverse l)
    → suc (length l) ≤ most_placed + j → chain_ok most_placed d newest.mask (masks_of (reverse l)) ≡ true
room-ok d newest j l c h = chain-ok most_placed d newest j (reverse l) c (omega (arith, length-reverse l))

-- ---- the serial
serial-ok : (k : Part) → Numbered k → serial_ok k ≡ true
unfolding serial_ok
serial-ok k n = and_in _ _ (le-leb (suc (length k.older)) k.serial n.counted) (le-leb (k.serial + size k.newest.mask) serial_most n.few)

module _ (k : Part) (f : Form cabinet k) (u : ControlInv cabinet lawful k) where
  -- never more than four placements
  pub few-older : suc (length k.older) ≤ most_active
  few-older = let h : suc (length k.older) < most_placed + copy_count = bounded cabinet lawful k f u.room in omega arith

  -- members are working or failed
  known : (p : Placement) (c : ℕ) → In p (active k) → has_card p.mask c ≡ true → (has_card k.working c || has_card k.failed c) ≡ true
  known p c m e = go (split (has_card k.failed c))
    where
      go : (has_card k.failed c ≡ true) ⊎ (has_card k.failed c ≡ false) → (has_card k.working c || has_card k.failed c) ≡ true
      go (inl d) = or_r (has_card k.working c) (has_card k.failed c) d
      go (inr d) = or_l (has_card k.working c) (has_card k.failed c) (f.base.known p c m e d)

  -- ---- a store that runs
  pub running-ok : part_ok k ≡ true
  unfolding part_ok are_apart is_within is_within_either members_ok home_ok
  running-ok =
      and_in _ _ (all-below card_count _ (λ c h. nand (has_card k.working c) (has_card k.failed c) (f.base.apart c)))
      (and_in _ _ (all_in_lem (λ p. members_ok k.working k.failed p.mask) (active k)
      (λ p m. and_in _ _ (le-leb copy_count (size p.mask) (f.base.sound p m).enough) (all-below card_count _ (λ c h. imp (has_card p.mask c) _ (known p c m)))))
      (and_in _ _ (room-ok k.failed k.newest u.room.steps k.older u.room.chain u.room.few)
      (and_in _ _ (or_r k.stopped _ (all-below card_count _ (λ c h. imp (has_card k.newest.mask c) (has_card k.working c) (f.new_works c))))
      (and_in _ _ (or_r k.stopped _ (all_in_lem (λ p. is_safe k.working k.failed p.mask) (active k)
      (λ p m. safe-is k.working k.failed p.mask ∙ is-not (lost cabinet k p) (f.base.safe p m))))
      (and_in _ _ (all-below tran_bound _ (λ t h. home t (k.home t) refl)) (serial-ok k u.numbers))))))
    where
      home : (t : ℕ) (o : Option ℕ) → k.home t ≡ o → home_ok k.stopped k.working (k.home t) ≡ true
      home t none e = rw e
      home t (some h) e = rw (e, f.base.running) (u.homes t h e)

-- ---- a store that has stopped
module _ (k : Part) (r : Rests cabinet lawful k) where
  few-resting : suc (length k.older) ≤ most_active
  few-resting = let h : suc (length k.older) < most_placed + copy_count = r.bound in omega arith

  known-resting : (p : Placement) (c : ℕ) → In p (active k) → has_card p.mask c ≡ true → (has_card k.working c || has_card k.failed c) ≡ true
  known-resting p c m e = go (split (has_card k.failed c))
    where
      go : (has_card k.failed c ≡ true) ⊎ (has_card k.failed c ≡ false) → (has_card k.working c || has_card k.failed c) ≡ true
      go (inl d) = or_r (has_card k.working c) (has_card k.failed c) d
      go (inr d) = or_l (has_card k.working c) (has_card k.failed c) (r.known p c m e d)

  pub resting-ok : part_ok k ≡ true
  unfolding part_ok are_apart is_within_either members_ok home_ok
  resting-ok =
      and_in _ _ (all-below card_count _ (λ x h. nand (has_card k.working x) (has_card k.failed x) (r.apart x)))
      (and_in _ _ (all_in_lem (λ p. members_ok k.working k.failed p.mask) (active k)
      (λ p m. and_in _ _ (le-leb copy_count (size p.mask) (r.sound p m).enough) (all-below card_count _ (λ x h. imp (has_card p.mask x) _ (known-resting p x m)))))
      (and_in _ _ (room-ok k.failed k.newest r.room.steps k.older r.room.chain r.room.few)
      (and_in _ _ (or_l k.stopped _ r.stays)
      (and_in _ _ (or_l k.stopped _ r.stays)
      (and_in _ _ (all-below tran_bound (λ t. home_ok k.stopped k.working (k.home t)) (λ t h. rw (r.shut t))) (serial-ok k r.numbers))))))

-- ---- bytes that were written from a control part that meets the clauses have the control form
pub written-form : (k : Part) → suc (length k.older) ≤ most_active → ((t : ℕ) → is_open k t ≡ true → tran_ok t ≡ true) → ((t h : ℕ) → k.home t ≡ some h → h < card_count)
    → k.serial < serial_bound → part_ok k ≡ true → ((p : Placement) → In p (active k) → Usable p) → (g t : ℕ → ℕ) → ((n : ℕ) → n < control_size → g n ≡ control_byte k n)
    → ((n : ℕ) → n < tail_size → t n ≡ tail_byte k n) → form_ok g t ≡ true
unfolding form_ok front_ok kept_ok tables_ok count_ok zero_fields_ok
written-form k few opens homes small part usable g t wrote behind =
    let n : count_in (g 0) ≡ suc (length k.older) = read_count k few opens homes g t wrote behind in
    rw (read-control k few opens homes g t wrote behind small) (
    and_in _ _ (and_in _ _ (and_in _ _ (le-leb 1 (count_in (g 0)) (omega arith)) (le-leb (count_in (g 0)) most_active (omega arith)))
    (and_in _ _ (all-below control_size _ (λ i h. eq-eqb (g i) (control_byte k i) (wrote i h))) part))
    (and_in _ _ (all-below tail_size _ (λ i h. eq-eqb (t i) (tail_byte k i) (behind i h))) (all_in_lem (λ p. pairs_ok p.mask p.choice) (active k) (λ p m. (usable p m).pairs))))

-- ---- the same of a control part in which no transaction is open
module _ (k : Part) (shut : (t : ℕ) → k.home t ≡ none) where
  none-opens : (t : ℕ) → is_open k t ≡ true → tran_ok t ≡ true
  none-opens t e = tf (is_open k t) e (rw (shut t))

  none-homes : (t h : ℕ) → k.home t ≡ some h → h < card_count
  none-homes t h e = let z : ◌≡◌ {A = Option ℕ} none (some h) = sym (shut t) ∙ e in let y : ◌≡◌ {A = ℕ} 0 1 = cc in absurd (omega arith)

-- ---- A.7, the delivery in force
pub control_laws : ControlLaws resuming rule_laws
control_laws = record {
  reads = λ k f u g t w. read-control k (few-older k f u) u.opens (homes k u) g t w.front w.behind (small k u.numbers);
  formed = λ k f u g t w. written-form k (few-older k f u) u.opens (homes k u) (small k u.numbers) (running-ok k f u) f.base.sound g t w.front w.behind;
  rest_read = λ k r g t w. read-control k (few-resting k r) (none-opens k r.shut) (none-homes k r.shut) g t w.front w.behind (small k r.numbers);
  rest-formed = λ k r g t w.
      written-form k (few-resting k r) (none-opens k r.shut) (none-homes k r.shut) (small k r.numbers) (resting-ok k r) r.sound g t w.front w.behind;
}
  where
    homes : (k : Part) → ControlInv cabinet lawful k → (t h : ℕ) → k.home t ≡ some h → h < card_count
    homes k u t h e = has-card k.working h (u.homes t h e)

    small : (k : Part) → Numbered k → k.serial < serial_bound
    small k n = omega (arith, n.few)

-- A stamp of a serial that the form takes is shown again.
legal-small : (k : Part) → Legal cabinet lawful k → k.serial < serial_bound
legal-small k (is-running f u) = let n = u.numbers.few in omega arith
legal-small k (is-resting r) = let n = r.numbers.few in omega arith

pub stamp_laws : StampLaws resuming rule_laws
stamp_laws = record {
  same-stamp = stamp-same;
  none-shown = λ e h. stamp-same e (stamp_byte no_stamp) h ∙ stamp-back no_stamp (omega arith);
  stamp-shown = λ k l e h. stamp-same e (stamp_byte (stamp_of k)) h ∙ stamp-back (stamp_of k) (legal-small k l);
}

abbrev pub current_laws : DeliveryLaws current
current_laws = record {
  rules = rule_laws;
  control = control_laws;
  stamps = stamp_laws;
}
