-- The form from before A.7. The bytes with a serial show the control part from before A.7 as A.7 tells it. So the form is the form in force of them, and no
-- serial of their own: where they have the form in force, all other bytes are those that were written. Assumes nothing.
use mathlib.Core.Path.{◌≡◌, ap, ap₂, refl, sym, ◌∙◌}
use mathlib.Core.Bool.{Bool, ◌&&◌, cond, false, true}
use mathlib.Core.List.{List}
use mathlib.Core.Logic.{⊎_elim}
use Prim.Native.Nat.{ℕ, ◌*◌, ◌+◌, ◌-◌, ◌<◌}
use native.Mathlib.Omega.{arith}
use lib.Dec.{eqb}
use lib.ListN.{get_or}
use Rattle.lists.specs.Tabulate.{tabulate}
use Rattle.lists.specs.Tests.{all_below}
use Rattle.lists.proofs.Bools.{and_l, and_r, same_test}
use Rattle.lists.proofs.Cases.{lt-or-ge}
use Rattle.lists.proofs.Counts.{all-below, below_all, below-ext}
use Rattle.lists.proofs.Tabulate.{at-tabulate, length-tabulate}
use Rattle.image.specs.Layout.{control_size, most_active, pairs_size}
use Rattle.mask.specs.Masks.{byte}
use Rattle.mask.specs.Pairs.{are_pairs_of}
use Rattle.control.specs.ControlBytes.{Part, control_byte, control_of, marks_at, masks_at, pairs_in, serial_at, serial_size, table_mark_in}
use Rattle.control.proofs.Fields.{shown-serial}
use Rattle.control_form.specs.ControlForm.{count_ok, form_ok, front_ok, kept_ok, part_ok, tables_ok, zero_fields_ok}
use Rattle.control_form.specs.Reading.{kept_ok_at}
use Rattle.control_form.proofs.FrontBytes.{control-same, front_same}
use Rattle.control_form.proofs.Kept.{behind-front, past_end}
use Rattle.method.specs.ControlPart.{part}
use Rattle.cabinet_rules.specs.Delivery.{stamp_memory}
use Rattle.cabinet_rules.specs.Retired.{before_stamps, now_part, retired_bytes, retired_form, retired_part}
use Rattle.cabinet_rules.proofs.Retired.{map_back}
use Rattle.converter.specs.Steps.{is_unnumbered, older_front_ok, shown_front}
use Rattle.converter.proofs.Front.{by-serial, in-serial, is_serials, shown-before, shown-small}

-- ---- the control part
module _ (g t : ℕ → ℕ) where
  abbrev s : ℕ → ℕ
  s = shown_front g

  abbrev k : Part
  k = control_of s t

  pub now-is : now_part stamp_memory before_stamps (retired_part stamp_memory before_stamps g t) ≡ control_of (shown_front g) t
  now-is = λ i. part k.stopped (map_back (λ p. p) (λ p. p) (λ p. refl) k.older i) k.newest k.working k.failed k.home k.setting
      (sym (shown-serial s t) i)

  -- ---- the bytes that were written of it
  abbrev own : Part → ℕ → Bool
  own p n = eqb (g n) (cond (is_serials n) 0 (control_byte p n))

  own-serial : (n : ℕ) → is_serials n ≡ true → own k n ≡ eqb (g n) 0
  own-serial n e = rw e

  own-other : (n : ℕ) → is_serials n ≡ false → own k n ≡ eqb (s n) (control_byte k n)
  own-other n e = rw e

  own_is : zero_fields_ok k s ≡ true → all_below control_size (own k) ≡ is_unnumbered g
  unfolding zero_fields_ok is_unnumbered
  own_is z = same_test (all_below control_size (own k)) (all_below serial_size (λ j. eqb (g (serial_at + j)) 0))
      (λ e. all-below serial_size (λ j. eqb (g (serial_at + j)) 0) (λ j h.
      sym (own-serial (serial_at + j) (in-serial (serial_at + j) (omega arith) (omega arith))) ∙ below_all control_size (own k) (serial_at + j) e (omega arith)))
      (λ e. all-below control_size (own k) (λ n h. by-serial (λ n. n < control_size → own k n ≡ true) n
      (λ i l u b. let at : serial_at + (n - serial_at) ≡ n = omega arith in
      own-serial n i ∙ ap (λ (m : ℕ). eqb (g m) 0) (sym at) ∙ below_all serial_size (λ j. eqb (g (serial_at + j)) 0) (n - serial_at) e (omega arith))
      (λ i b. own-other n i ∙ below_all control_size (λ n. eqb (s n) (control_byte k n)) n z b) h))

  front-zeros : front_ok k s ≡ true → zero_fields_ok k s ≡ true
  unfolding front_ok
  front-zeros f = and_l (zero_fields_ok k s) (part_ok k) (and_r (count_ok s) (zero_fields_ok k s && part_ok k) f)

  written_is : front_ok (control_of (shown_front g) t) (shown_front g) ≡ true
      → all_below control_size (λ n. eqb (g n) (retired_bytes stamp_memory before_stamps (retired_part stamp_memory before_stamps g t) n)) ≡ is_unnumbered g
  written_is f = ap (λ (p : Part). all_below control_size (own p)) now-is ∙ own_is (front-zeros f)

-- ---- the form
-- The form in force asks f before the tables and b behind them, and w is that the bytes were written; where f holds, b is what the code asks there, c, and w
-- is that there is no serial, u.
arrange : (f b w u c : Bool) → (f ≡ true → (b ≡ c) × (w ≡ u)) → ((f && b) && w) ≡ ((u && f) && c)
arrange false b w true c p = refl
arrange false b w false c p = refl
arrange true b w u c p = ap₂ ◌&&◌ (p refl).0 (p refl).1 ∙ turn c u
  where
    turn : (c u : Bool) → (c && u) ≡ ((u && true) && c)
    turn true true = refl
    turn true false = refl
    turn false true = refl
    turn false false = refl

module _ (l : List ℕ) (t : ℕ → ℕ) (bytes : (n : ℕ) → get_or l n 0 < 256) where
  abbrev shown : ℕ → ℕ
  shown = shown_front (λ n. get_or l n 0)

  abbrev told : Part
  told = control_of shown t

  abbrev first : List ℕ
  first = tabulate control_size shown

  at_front : (n : ℕ) → n < control_size → get_or first n 0 ≡ shown n
  at_front n h = at-tabulate control_size shown n h

  pub front-shown : front_ok (control_of (λ n. get_or (tabulate control_size (shown_front (λ n. get_or l n 0))) n 0) t) (λ n. get_or (tabulate control_size (shown_front (λ n. get_or l n 0))) n 0)
      ≡ front_ok (control_of (shown_front (λ n. get_or l n 0)) t) (shown_front (λ n. get_or l n 0))
  front-shown = front_same (λ n. get_or first n 0) shown at_front t

  front-small : (n : ℕ) → get_or first n 0 < 256
  front-small n = ⊎_elim (λ h. rw (at_front n h) (shown-small (λ n. get_or l n 0) bytes n))
      (λ h. rw (past_end first n (rw (length-tabulate control_size shown) h)) (omega arith)) (lt-or-ge n control_size)

  kept-shown : (i : ℕ) → i < most_active → kept_ok_at first t i ≡ kept_ok_at l t i
  unfolding kept_ok_at
  kept-shown i h = ap₂ (λ (marks mask : ℕ). cond (table_mark_in marks i) (are_pairs_of (byte mask) (pairs_in t i)) (all_below pairs_size (λ j. eqb (t (i * pairs_size + j)) 0)))
      (its marks_at (omega arith)) (its (masks_at + i) (omega arith))
    where
      its : (n : ℕ) → n < serial_at → get_or first n 0 ≡ get_or l n 0
      its n b = at_front n (omega arith) ∙ shown-before (λ n. get_or l n 0) n b

  behind-is : front_ok told shown ≡ true → (kept_ok told t && tables_ok told) ≡ all_below most_active (kept_ok_at l t)
  behind-is f = ap (λ (p : Part). kept_ok p t && tables_ok p) (sym (control-same (λ n. get_or first n 0) shown at_front t))
      ∙ behind-front first t front-small (front-shown ∙ f) ∙ below-ext most_active (kept_ok_at first t) (kept_ok_at l t) kept-shown

  -- THE LAW
  pub numbered-form : retired_form stamp_memory before_stamps (λ n. get_or l n 0) t ≡ (older_front_ok (λ n. get_or l n 0) t && all_below most_active (kept_ok_at l t))
  unfolding retired_form older_front_ok form_ok
  numbered-form = arrange (front_ok told shown) (kept_ok told t && tables_ok told)
      (all_below control_size (λ n. eqb (get_or l n 0) (retired_bytes stamp_memory before_stamps (retired_part stamp_memory before_stamps (λ n. get_or l n 0) t) n)))
      (is_unnumbered (λ n. get_or l n 0)) (all_below most_active (kept_ok_at l t)) (λ f. (behind-is f, written_is (λ n. get_or l n 0) t f))
