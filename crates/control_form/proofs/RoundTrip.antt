-- What is written is read again, and what is read is written back; the clauses of the form, taken out. Assumes nothing.
use mathlib.Core.Path.{◌≡◌, refl, sym, ap, ap₂, ◌∙◌, fun_ext}
use mathlib.Core.Logic.{◌⊎◌, inl, inr}
use mathlib.Core.Bool.{Bool, true, false, ◌&&◌, ◌||◌}
use mathlib.Core.Option.{Option, some, none}
use mathlib.Core.List.{List, [], ◌∷◌, ◌++◌, reverse}
use Prim.Native.Nat.{ℕ, zero, suc, ◌+◌, ◌-◌, ◌*◌, ◌/◌, ◌%◌, ◌≤◌, ◌<◌}
use native.Mathlib.Omega.{arith}
use native.Mathlib.Nat.{mod-eq_of_lt}
use lib.Dec.{leb, ltb, eqb}
use lib.ListN.{get_or, length, length-append}
use borrow.Author.Tests.{eqb-true, ltb-true, leb-true, le-leb, lt-leb}
use Rattle.lists.specs.Tests.{In, all_in, all_below}
use Rattle.lists.proofs.Bools.{split, and_l, and_r}
use Rattle.lists.proofs.Counts.{below_all}
use Rattle.lists.proofs.Lists.{all-out}
use Rattle.image.specs.Layout.{card_count, control_size, most_active, most_placed, pairs_size, tail_size, tran_bound}
use Rattle.mask.specs.Masks.{Byte, byte, are_apart, is_within}
use Rattle.mask.specs.Pairs.{Pairs}
use Rattle.mask.specs.Placements.{Choice, Placement, by_table, pairs_ok}
use Rattle.mask.proofs.Masks.{byte-path}
use Rattle.method.specs.ControlPart.{active, is_open}
use Rattle.control.specs.ControlBytes.{Part, mask_bytes, marks_from, home_byte, control_byte, count_in, home_of, kept_as, mark_in, pairs_in, placement_at, table_mark_in}
use Rattle.control.specs.ControlBytes.{control_of, failed_at, field, field_bound, first_byte, home_at, last_mask_at}
use Rattle.control.specs.ControlBytes.{chosen_by, kept_byte, marks_at, masks_at, open_bit, placements_in, serial_at, stopped_bit, stopped_in, tail_byte, working_at}
use Rattle.control.specs.Serials.{serial_bound, serial_byte, serial_in}
use Rattle.control_form.specs.ControlForm.{all_safe, chain_ok, count_ok, form_ok, front_ok, home_ok, kept_ok, masks_of, members_ok, part_ok, serial_ok, tables_ok, zero_fields_ok}
use Rattle.control.proofs.Marks.{chosen-back}
use Rattle.control.proofs.Tail.{kept_at, pairs-in, tail_at}
use Rattle.control.proofs.Fields.{at-failed, at_first_lem, at_home, at-marks, at-mask, at-serial, at-working}
use Rattle.control.proofs.SerialLaws.{serial-back, serial-same}

-- ---- what is written is read again
byte-back : (n : ℕ) (m : Byte) → n ≡ m.0 → byte n ≡ m
byte-back n m e = byte-path (byte n) m (rw e (mod-eq_of_lt m.1))

-- The mask and the mark of an element, each where it was written.
mask-of : (l : List Placement) (i : ℕ) (p : Placement) → i < length l → get_or (mask_bytes l) i 0 ≡ (get_or l i p).mask.0
mask-of [] i p h = absurd (omega arith)
mask-of (q ∷ l) zero p h = refl
mask-of (q ∷ l) (suc i) p h = mask-of l i p (omega arith)

placements-back : (l : List Placement) (p : Placement) (f : ℕ → Placement) → ((i : ℕ) → i ≤ length l → f i ≡ get_or (l ++ (p ∷ [])) i p)
    → (placements_in f (length l) ≡ l) × (f (length l) ≡ p)
placements-back [] p f h = (refl, h 0 (omega arith))
placements-back (q ∷ l) p f h =
    let r = placements-back l p (λ i. f (suc i)) (λ i k. h (suc i) (omega arith)) in
    (ap₂ (λ (x : Placement) (y : List Placement). x ∷ y) (h 0 (omega arith)) r.0, r.1)

module _
    (k : Part)
    (few : suc (length k.older) ≤ most_active)
    (opens : (t : ℕ) → is_open k t ≡ true → (ltb 0 t && ltb t tran_bound) ≡ true)
    (homes : (t h : ℕ) → k.home t ≡ some h → h < card_count)
    (g t : ℕ → ℕ)
    (wrote : (n : ℕ) → n < control_size → g n ≡ control_byte k n)
    (behind : (n : ℕ) → n < tail_size → t n ≡ tail_byte k n)
  where
    first : g 0 ≡ first_byte k.stopped (suc (length k.older))
    first = wrote 0 (omega arith) ∙ at_first_lem k

    pub read_count : count_in (g 0) ≡ suc (length k.older)
    read_count = rw first (go k.stopped)
      where
        go : (b : Bool) → count_in (first_byte b (suc (length k.older))) ≡ suc (length k.older)
        go true = omega arith
        go false = omega arith

    read-stopped : stopped_in (g 0) ≡ k.stopped
    read-stopped = rw first (go k.stopped)
      where
        go : (b : Bool) → stopped_in (first_byte b (suc (length k.older))) ≡ b
        go true = le-leb stopped_bit (first_byte true (suc (length k.older))) (omega arith)
        go false = lt-leb stopped_bit (first_byte false (suc (length k.older))) (omega arith)

    read-mask : (i : ℕ) → i ≤ length k.older → g (masks_at + i) ≡ get_or (mask_bytes (active k)) i 0
    read-mask i h = wrote (masks_at + i) (omega arith) ∙ at-mask k i (omega arith)

    read-marks : g marks_at ≡ marks_from 0 (active k)
    read-marks = wrote marks_at (omega arith) ∙ at-marks k

    long : length (active k) ≡ suc (length k.older)
    long = length-append k.older (k.newest ∷ []) ∙ add-one (length k.older)
      where
        add-one : (n : ℕ) → n + 1 ≡ suc n
        add-one n = omega arith

    -- the pairs of a placement by table are those that stand behind the tables
    read_pairs : (i : ℕ) → i ≤ length k.older → (y : Pairs) → (get_or (active k) i k.newest).choice ≡ by_table y → pairs_in t i ≡ y
    read_pairs i h y e = pairs-in t i y (λ j b. behind (i * pairs_size + j) (omega arith) ∙ tail_at (active k) i j b
        ∙ kept_at (active k) i j k.newest (omega (arith, long)) ∙ ap (λ (c : Choice). kept_byte c j) e)

    read-placement : (i : ℕ) → i ≤ length k.older → placement_at g t i ≡ get_or (active k) i k.newest
    read-placement i h =
        ap₂ (λ (m : Byte) (c : Choice). record { mask = m; choice = c })
        (byte-back (g (masks_at + i)) (get_or (active k) i k.newest).mask (read-mask i h ∙ mask-of (active k) i k.newest (omega (arith, long))))
        (ap (λ (n : ℕ). chosen_by (table_mark_in n i) (mark_in n i) (pairs_in t i)) read-marks
        ∙ chosen-back (active k) i k.newest (pairs_in t i) (omega (arith, long)) (omega (arith, long)) (read_pairs i h))

    read-home : (x : ℕ) → home_of x (g (home_at x)) ≡ k.home x
    read-home t = go (k.home t) refl (split (ltb 0 t && ltb t tran_bound))
      where
        home-at : (ltb 0 t && ltb t tran_bound) ≡ true → g (home_at t) ≡ home_byte (k.home t)
        home-at e =
            let a : 0 < t = ltb-true 0 t (and_l (ltb 0 t) (ltb t tran_bound) e) in
            let b : t < tran_bound = ltb-true t tran_bound (and_r (ltb 0 t) (ltb t tran_bound) e) in
            let s : suc (t - 1) ≡ t = omega arith in
            wrote (home_at t) (omega arith) ∙ at_home k (t - 1) (omega arith) ∙ ap (λ (x : ℕ). home_byte (k.home x)) s

        go : (o : Option ℕ) → k.home t ≡ o → ((ltb 0 t && ltb t tran_bound) ≡ true) ⊎ ((ltb 0 t && ltb t tran_bound) ≡ false)
            → home_of t (g (home_at t)) ≡ k.home t
        go none e (inl r) = rw (home-at r, e, r)
        go none e (inr r) = rw (r, e)
        go (some h) e z =
            let r : (ltb 0 t && ltb t tran_bound) ≡ true = opens t (rw e) in
            let b : h < card_count = homes t h e in
            rw (home-at r, e, r, le-leb open_bit (open_bit + h * field) (omega arith)) (ap {B = Option ℕ} some (same h b))
          where
            same : (h : ℕ) → h < card_count → (open_bit + h * field) / field % field_bound ≡ h
            same h b = omega arith

    read-serial : k.serial < serial_bound → serial_in (λ j. g (serial_at + j)) ≡ k.serial
    read-serial small = serial-same (λ j. g (serial_at + j)) (serial_byte k.serial) (λ j h. wrote (serial_at + j) (omega arith) ∙ at-serial k j h)
        ∙ serial-back k.serial small

    -- The control part that the bytes show is the one that was written, where its serial has three bytes.
    pub read-control : k.serial < serial_bound → control_of g t ≡ k
    unfolding control_of
    read-control small = λ i. record {
      stopped = read-stopped i;
      older = old i;
      newest = new i;
      working = byte-back (g working_at) k.working (wrote working_at (omega arith) ∙ at-working k) i;
      failed = byte-back (g failed_at) k.failed (wrote failed_at (omega arith) ∙ at-failed k) i;
      home = fun_ext read-home i;
      setting = tt;
      serial = read-serial small i;
    }
      where
        both : (placements_in (placement_at g t) (length k.older) ≡ k.older) × (placement_at g t (length k.older) ≡ k.newest)
        both = placements-back k.older k.newest (placement_at g t) read-placement

        one_less : count_in (g 0) - 1 ≡ length k.older
        one_less = omega (arith, read_count)

        old : placements_in (placement_at g t) (count_in (g 0) - 1) ≡ k.older
        old = ap (placements_in (placement_at g t)) one_less ∙ both.0

        last : last_mask_at (count_in (g 0)) ≡ masks_at + length k.older
        last = omega (arith, read_count)

        new : kept_as (count_in (g 0) - 1) (g (last_mask_at (count_in (g 0)))) (g marks_at) (pairs_in t (count_in (g 0) - 1)) ≡ k.newest
        new = ap₂ (λ (i n : ℕ). kept_as i (g n) (g marks_at) (pairs_in t i)) one_less last ∙ both.1

-- ---- what is read is written back
module _ (g t : ℕ → ℕ) (form : form_ok g t ≡ true) where
  abbrev k : Part
  k = control_of g t

  form-front : (count_ok g && (zero_fields_ok k g && part_ok k)) ≡ true
  unfolding form_ok front_ok
  form-front = and_l (count_ok g && (zero_fields_ok k g && part_ok k)) (kept_ok k t && tables_ok k) form

  form-rest : (zero_fields_ok k g && part_ok k) ≡ true
  form-rest = and_r (count_ok g) (zero_fields_ok k g && part_ok k) form-front

  form-behind : (kept_ok k t && tables_ok k) ≡ true
  unfolding form_ok
  form-behind = and_r (front_ok k g) (kept_ok k t && tables_ok k) form

  pub control-back : (n : ℕ) → n < control_size → control_byte (control_of g t) n ≡ g n
  unfolding zero_fields_ok
  control-back n h = sym (eqb-true (g n) (control_byte k n) (below_all control_size (λ n. eqb (g n) (control_byte k n)) n (and_l (zero_fields_ok k g) (part_ok k) form-rest) h))

  pub tail-back : (n : ℕ) → n < tail_size → tail_byte (control_of g t) n ≡ t n
  unfolding kept_ok
  tail-back n h = sym (eqb-true (t n) (tail_byte k n) (below_all tail_size (λ n. eqb (t n) (tail_byte k n)) n (and_l (kept_ok k t) (tables_ok k) form-behind) h))

  -- The count is 1 to 4, and the clauses on the control part hold.
  pub form-count : (1 ≤ count_in (g 0)) × (count_in (g 0) ≤ most_active)
  unfolding count_ok
  form-count =
      let c : count_ok g ≡ true = and_l (count_ok g) (zero_fields_ok k g && part_ok k) form-front in (
        leb-true 1 (count_in (g 0)) (and_l (leb 1 (count_in (g 0))) (leb (count_in (g 0)) most_active) c),
        leb-true (count_in (g 0)) most_active (and_r (leb 1 (count_in (g 0))) (leb (count_in (g 0)) most_active) c),
      )

  pub form-part : part_ok (control_of g t) ≡ true
  form-part = and_r (zero_fields_ok k g) (part_ok k) form-rest

  -- The pairs of placements by table are two different members each.
  pub form-pairs : (p : Placement) → In p (active (control_of g t)) → pairs_ok p.mask p.choice ≡ true
  unfolding tables_ok
  form-pairs p m = all-out (λ p. pairs_ok p.mask p.choice) (active k) p (and_r (kept_ok k t) (tables_ok k) form-behind) m

-- ---- the clauses on a control part, each taken out
pub record Clauses (k : Part) : Type 0 where
  pub apart : are_apart k.working k.failed ≡ true
  pub members : all_in (λ p. members_ok k.working k.failed p.mask) (active k) ≡ true
  pub chain : chain_ok most_placed k.failed k.newest.mask (masks_of (reverse k.older)) ≡ true
  pub newest-works : (k.stopped || is_within k.newest.mask k.working) ≡ true
  pub safe : (k.stopped || all_safe k) ≡ true
  pub home : (t : ℕ) → t < tran_bound → home_ok k.stopped k.working (k.home t) ≡ true
  pub serials : serial_ok k ≡ true

-- Seven tests that all hold.
seven : (a b c d e f g : Bool) → (a && (b && (c && (d && (e && (f && g)))))) ≡ true
    → (a ≡ true) × (b ≡ true) × (c ≡ true) × (d ≡ true) × (e ≡ true) × (f ≡ true) × (g ≡ true)
seven a b c d e f g h =
    let p = and_r a (b && (c && (d && (e && (f && g))))) h in
    let q = and_r b (c && (d && (e && (f && g)))) p in
    let r = and_r c (d && (e && (f && g))) q in
    let s = and_r d (e && (f && g)) r in
    let t = and_r e (f && g) s in
    (and_l a _ h, and_l b _ p, and_l c _ q, and_l d _ r, and_l e _ s, and_l f g t, and_r f g t)

pub part-clauses : (k : Part) → part_ok k ≡ true → Clauses k
unfolding part_ok
part-clauses k h =
    let r = seven (are_apart k.working k.failed) (all_in (λ p. members_ok k.working k.failed p.mask) (active k))
    (chain_ok most_placed k.failed k.newest.mask (masks_of (reverse k.older)))
    (k.stopped || is_within k.newest.mask k.working) (k.stopped || all_safe k)
    (all_below tran_bound (λ t. home_ok k.stopped k.working (k.home t))) (serial_ok k) h in
    record {
      apart = r.0;
      members = r.1;
      chain = r.2;
      newest-works = r.3;
      safe = r.4;
      home = λ t b. below_all tran_bound (λ t. home_ok k.stopped k.working (k.home t)) t r.5 b;
      serials = r.6;
    }
