-- What the control form of an image gives, clause by clause, and that the control part of a running store that has it meets what the theorem
-- asks. Assumes nothing.
use Prim.Native.Nat.{◌-◌, ◌+◌, ◌<◌, ◌≤◌, suc, ℕ}
use borrow.Author.Tests.{eqb-true, leb-true, lt-ltb, ltb-false, ltb-true}
use lib.Dec.{eqb, leb, ltb}
use lib.ListN.{get_or, length, length-reverse}
use mathlib.Core.Bool.{Bool, ◌&&◌, ◌||◌, cond, false, not, true}
use mathlib.Core.List.{List, [], ◌∷◌, reverse}
use mathlib.Core.Logic.{◌⊎◌, inl, inr}
use mathlib.Core.Option.{Option, none, some}
use mathlib.Core.Path.{◌∙◌, ◌≡◌, ap, refl, sym}
use native.Mathlib.Omega.{arith}
use Rattle.lists.specs.Tests.{In, elem}
use Rattle.lists.proofs.Bools.{and_l, and_r, imp-out, not_is, split, tf}
use Rattle.lists.proofs.Counts.{any-below-out, below_all}
use Rattle.lists.proofs.Lists.{all-out, in_right}
use Rattle.image.specs.Layout.{most_active, block_count, card_count, least_members, most_placed, tran_bound}
use Rattle.mask.specs.Masks.{Byte, are_apart, has_card, is_one_more, is_within, is_within_either, size, with_card}
use Rattle.mask.specs.Placements.{Placement, Usable, sites_of}
use Rattle.mask.proofs.Masks.{byte-path, has-card, has-with}
use Rattle.mask.proofs.SiteLaws.{site-member}
use Rattle.method.specs.ControlPart.{active, is_open}
use Rattle.method.specs.Rules.{lost}
use Rattle.method.specs.Slots.{is_some}
use Rattle.method.proofs.Capacity.{Chain, ControlInv, OneMore}
use Rattle.method.proofs.Invariant.{Form}
use Rattle.method.proofs.Stopped.{Rests}
use Rattle.control.specs.ControlBytes.{control_of, count_in, home_in, placement_at, home_at}
use Rattle.control.specs.Serials.{serial_most}
use Rattle.control_form.specs.ControlForm.{control_form, home_ok, is_safe, members_ok, chain_ok, masks_of, serial_ok}
use Rattle.control_form.proofs.RoundTrip.{Clauses, form-count, form-pairs, form-part, part-clauses}
use Rattle.control.proofs.Struct.{length-placements}
use Rattle.control.proofs.Fields.{shown-home}
use Rattle.cabinet_rules.specs.Cabinet.{cabinet, tran_ok}
use Rattle.cabinet_rules.specs.Delivery.{Numbered}
use Rattle.cabinet_rules.specs.Images.{Image, control_in, tail_in}
use Rattle.cabinet_rules.proofs.Form.{length-masks, safe-is}
use Rattle.cabinet_rules.proofs.PlacingLaws.{lawful}

-- a mask that is one more than another: the card that it has besides
one_more : (d : Byte) (newest third : Placement) → is_one_more d newest.mask third.mask ≡ true → OneMore cabinet lawful d newest third
unfolding is_one_more
one_more d newest third e =
    let t = any-below-out card_count (λ c. has_card d c && (not (has_card newest.mask c) && eqb third.mask.0 (with_card newest.mask c).0)) e in
    let x : ℕ = t.0 in
    let r : (not (has_card newest.mask x) && eqb third.mask.0 (with_card newest.mask x).0) ≡ true = and_r (has_card d x) _ t.2 in
    let same : third.mask ≡ with_card newest.mask x =
    byte-path third.mask (with_card newest.mask x)
    (eqb-true third.mask.0 (with_card newest.mask x).0 (and_r (not (has_card newest.mask x)) (eqb third.mask.0 (with_card newest.mask x).0) r)) in
    record {
      extra = x;
      extra-failed = and_l (has_card d x) _ t.2;
      extra-new = not_is (has_card newest.mask x) (and_l (not (has_card newest.mask x)) (eqb third.mask.0 (with_card newest.mask x).0) r);
      extra-is = λ y. ap (λ (m : Byte). has_card m y) same ∙ has-with newest.mask x y (lt-ltb x card_count t.1);
    }

-- while more than the limit are active, each was added by a failure
chain_steps : (limit : ℕ) (d : Byte) (newest : Placement) (l : List Placement) → 1 ≤ limit → chain_ok limit d newest.mask (masks_of l) ≡ true
    → (j : ℕ) × Chain cabinet lawful d j newest l × (suc (length l) ≤ limit + j)
unfolding chain_ok
chain_steps limit d newest [] lo e = (0, tt, omega arith)
chain_steps limit d newest (p ∷ l) lo e = go (split (ltb limit (suc (suc (length (masks_of l)))))) (chain_steps limit d p l lo)
  where
    go : (ltb limit (suc (suc (length (masks_of l)))) ≡ true) ⊎ (ltb limit (suc (suc (length (masks_of l)))) ≡ false)
        → (chain_ok limit d p.mask (masks_of l) ≡ true → (j : ℕ) × Chain cabinet lawful d j p l × (suc (length l) ≤ limit + j))
        → (j : ℕ) × Chain cabinet lawful d j newest (p ∷ l) × (suc (suc (length l)) ≤ limit + j)
    go (inl more) older =
        let both : (is_one_more d newest.mask p.mask && chain_ok limit d p.mask (masks_of l)) ≡ true = rw more at e in
        let r = older (and_r (is_one_more d newest.mask p.mask) _ both) in
        (suc r.0, (one_more d newest p (and_l (is_one_more d newest.mask p.mask) _ both), r.1), omega (arith, r.2))
    go (inr few) older = (0, tt, omega (arith, length-masks l, ltb-false limit (suc (suc (length (masks_of l)))) few))

module _ (g : Image) (form : control_form g ≡ true) where
  clauses : Clauses (control_in g)
  clauses = part-clauses (control_in g) (form-part (λ n. get_or g n 0) (tail_in g) form)

  members-of : (p : Placement) → In p (active (control_in g)) → members_ok (control_in g).working (control_in g).failed p.mask ≡ true
  members-of p m = all-out (λ p. members_ok (control_in g).working (control_in g).failed p.mask) (active (control_in g)) p clauses.members m

  -- an active placement has as many members as copies, and pairs of different members where it is by table
  pub usable-active : (p : Placement) → In p (active (control_in g)) → Usable p
  unfolding members_ok
  usable-active p m = record {
    enough = leb-true least_members (size p.mask) (and_l (leb least_members (size p.mask)) (is_within_either p.mask (control_in g).working (control_in g).failed) (members-of p m));
    pairs = form-pairs (λ n. get_or g n 0) (tail_in g) form p m;
  }

  -- the newest is active
  pub newest-usable : Usable (control_in g).newest
  newest-usable = usable-active (control_in g).newest (in_right (control_in g).older ((control_in g).newest ∷ []) (control_in g).newest (inl refl))

  -- and each of its members works or has failed
  pub known_member : (p : Placement) (c : ℕ) → In p (active (control_in g)) → has_card p.mask c ≡ true → (has_card (control_in g).working c || has_card (control_in g).failed c) ≡ true
  unfolding members_ok is_within_either
  known_member p c m h = imp-out (has_card p.mask c) (has_card (control_in g).working c || has_card (control_in g).failed c)
      (below_all card_count (λ x. not (has_card p.mask x) || (has_card (control_in g).working x || has_card (control_in g).failed x)) c
      (and_r (leb least_members (size p.mask)) (is_within_either p.mask (control_in g).working (control_in g).failed) (members-of p m)) (has-card p.mask c h)) h

  -- a card that works has not failed
  pub works-not-failed : (c : ℕ) → has_card (control_in g).working c ≡ true → has_card (control_in g).failed c ≡ false
  unfolding are_apart
  works-not-failed c on = go (has_card (control_in g).failed c)
      (below_all card_count (λ x. not (has_card (control_in g).working x && has_card (control_in g).failed x)) c clauses.apart (has-card (control_in g).working c on))
    where
      go : (d : Bool) → not (has_card (control_in g).working c && d) ≡ true → d ≡ false
      go true e = tf (not (has_card (control_in g).working c && true)) e (rw on)
      go false e = refl

  -- so a site of an active placement has not failed exactly where it works
  pub site-works : (p : Placement) (b c : ℕ) → In p (active (control_in g)) → b < block_count → elem c (sites_of p b) ≡ true
      → not (has_card (control_in g).failed c) ≡ has_card (control_in g).working c
  site-works p b c m hb e = go (split (has_card (control_in g).working c))
    where
      h : has_card p.mask c ≡ true
      h = site-member p b c (usable-active p m) hb e

      go : (has_card (control_in g).working c ≡ true) ⊎ (has_card (control_in g).working c ≡ false) → not (has_card (control_in g).failed c) ≡ has_card (control_in g).working c
      go (inl on) = rw (on, works-not-failed c on)
      go (inr off) = rw (off, rw off at (known_member p c m h))

  -- while the store runs, every member of the newest placement works
  newest-member-works : (control_in g).stopped ≡ false → (c : ℕ) → has_card (control_in g).newest.mask c ≡ true → has_card (control_in g).working c ≡ true
  unfolding is_within
  newest-member-works running c h = imp-out (has_card (control_in g).newest.mask c) (has_card (control_in g).working c)
      (below_all card_count (λ x. not (has_card (control_in g).newest.mask x) || has_card (control_in g).working x) c
      (rw running at clauses.newest-works) (has-card (control_in g).newest.mask c h)) h

  -- and so every site of it
  pub newest-site-works : (control_in g).stopped ≡ false → (b c : ℕ) → b < block_count → elem c (sites_of (control_in g).newest b) ≡ true → has_card (control_in g).working c ≡ true
  newest-site-works running b c hb e = newest-member-works running c (site-member (control_in g).newest b c newest-usable hb e)

  -- and no active placement is lost
  pub not-lost : (control_in g).stopped ≡ false → (p : Placement) → In p (active (control_in g)) → lost cabinet (control_in g) p ≡ false
  not-lost running p m = not_is (lost cabinet (control_in g) p)
      (sym (safe-is (control_in g).working (control_in g).failed p.mask)
      ∙ all-out (λ p. is_safe (control_in g).working (control_in g).failed p.mask) (active (control_in g)) p (rw running at clauses.safe) m)

  known-works : (p : Placement) (c : ℕ) → In p (active (control_in g)) → has_card p.mask c ≡ true → has_card (control_in g).failed c ≡ false → has_card (control_in g).working c ≡ true
  known-works p c m h d = rest (has_card (control_in g).working c) (has_card (control_in g).failed c) (known_member p c m h) d
    where
      rest : (w d : Bool) → (w || d) ≡ true → d ≡ false → w ≡ true
      rest true d e n = refl
      rest false d e n = tf d e n

  -- ---- a store that runs
  -- its control part has the form that the theorem asks for
  pub running-form : (control_in g).stopped ≡ false → Form cabinet (control_in g)
  running-form running = record {
    base = record {
      running = running;
      apart = works-not-failed;
      known = known-works;
      sound = usable-active;
      safe = not-lost running;
    };
    new_works = newest-member-works running;
  }

  -- an open transaction has its number in range
  open-in-range : (t : ℕ) → is_open (control_in g) t ≡ true → tran_ok t ≡ true
  open-in-range t o = go (tran_ok t) (sym (ap is_some (shown-home (λ n. get_or g n 0) (tail_in g) t)) ∙ o)
    where
      go : (r : Bool) → is_some (cond r (home_in (get_or g (home_at t) 0)) none) ≡ true → r ≡ true
      go true e = refl
      go false e = tf false e refl

  home-works : (t h : ℕ) → (control_in g).home t ≡ some h → has_card (control_in g).working h ≡ true
  unfolding home_ok
  home-works t h e =
      let in-range : t < tran_bound = ltb-true t tran_bound (and_r (ltb 0 t) (ltb t tran_bound) (open-in-range t (ap is_some e))) in
      let home : home_ok (control_in g).stopped (control_in g).working ((control_in g).home t) ≡ true = clauses.home t in-range in
      and_r (not (control_in g).stopped) (has_card (control_in g).working h) (sym (ap (home_ok (control_in g).stopped (control_in g).working) e) ∙ home)

  -- the serial fits the placements
  pub numbered-in : Numbered (control_in g)
  unfolding serial_ok
  numbered-in =
      let few : Bool = leb ((control_in g).serial + size (control_in g).newest.mask) serial_most in
      record {
        counted = leb-true (suc (length (control_in g).older)) (control_in g).serial (and_l _ few clauses.serials);
        few = leb-true ((control_in g).serial + size (control_in g).newest.mask) serial_most
            (and_r (leb (suc (length (control_in g).older)) (control_in g).serial) few clauses.serials);
      }

  -- and homes work and the placements are few
  pub running-inv : ControlInv cabinet lawful (control_in g)
  running-inv =
      let f = chain_steps most_placed (control_in g).failed (control_in g).newest (reverse (control_in g).older) (omega arith) clauses.chain in
      let few : suc (length (control_in g).older) ≤ most_placed + f.0 = omega (arith, f.2, length-reverse (control_in g).older) in
      record { homes = home-works; opens = open-in-range; room = record { steps = f.0; chain = f.1; few = few }; numbers = numbered-in }

  -- ---- a store that has stopped
  few-older : length (control_in g).older ≤ most_placed
  unfolding control_of
  few-older =
      let n : ℕ = count_in (get_or g 0 0) in
      let c : n ≤ most_active = (form-count (λ n. get_or g n 0) (tail_in g) form).1 in
      let l : length (control_in g).older ≡ n - 1 = length-placements (placement_at (λ n. get_or g n 0) (tail_in g)) (n - 1) in
      omega (arith, c, l)

  pub resting : (control_in g).stopped ≡ true → Rests cabinet lawful (control_in g)
  unfolding home_ok
  resting stopped = record {
    stays = stopped;
    shut = λ t. shut t ((control_in g).home t) refl;
    apart = works-not-failed;
    known = known-works;
    sound = usable-active;
    room = running-inv.room;
    numbers = numbered-in;
    bound = omega (arith, few-older);
  }
    where
      shut : (t : ℕ) (o : Option ℕ) → (control_in g).home t ≡ o → (control_in g).home t ≡ none
      shut t none e = e
      shut t (some h) e =
          let in-range : t < tran_bound = ltb-true t tran_bound (and_r (ltb 0 t) (ltb t tran_bound) (open-in-range t (ap is_some e))) in
          let home : home_ok (control_in g).stopped (control_in g).working ((control_in g).home t) ≡ true = clauses.home t in-range in
          tf (home_ok (control_in g).stopped (control_in g).working ((control_in g).home t)) home (rw (e, stopped))
