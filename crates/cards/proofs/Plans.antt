-- What accepted calls of this family leave, by the image that was read and the control part that was written; and the promise of a refused call.
-- Assumes nothing.
use Prim.Native.Nat.{◌<◌, ◌≤◌, suc, ℕ}
use Rattle.std.specs.Prelude.{Result, Ok}
use Rattle.refusals.specs.Refusals.{number}
use Rattle.refusals.specs.declared.Refusal.{Refusal}
use Rattle.refusals.proofs.HandedOn.{HandsOn}
use lib.ListN.{length}
use mathlib.Core.Path.{◌∙◌, ◌≡◌, refl, ap}
use Rattle.image.specs.Layout.{card_count, control_size, most_active}
use Rattle.image.specs.Parts.{Whole}
use Rattle.mask.specs.Masks.{Byte, byte, with_card, without_card}
use Rattle.mask.specs.Placements.{from_mask}
use native.Mathlib.Omega.{arith}
use Rattle.method.specs.ControlPart.{added, with_cards}
use Rattle.method.specs.Rules.{Call, Plan, act, clear_card, clear_stamp, fit, ok, place, stamp_all, stamping, unwritten, withdraw, writing}
use Rattle.control.specs.ControlBytes.{Part, front_part}
use Rattle.control.specs.Stamps.{Stamp, put_stamps, stamp_of}
use Rattle.control.specs.Meaning.{Is, meaning, put_control}
use Rattle.control.specs.declared.Control.{Control as Struct}
use Rattle.control_form.proofs.Put.{length-put}
use Rattle.cabinet_rules.specs.Cabinet.{cabinet}
use Rattle.cabinet_rules.specs.Delivery.{current}
use Rattle.cabinet_rules.specs.Images.{Image, after_plan, control_in, end_of, plan_on}
use Rattle.cabinet_rules.specs.Places.{by_mask}
use Rattle.promise.specs.Given.{Given, rows_on, view_of}
use Rattle.promise.specs.Promise.{Done}
use Rattle.promise.specs.declared.Answer.{Answer as AnswerValue}
use Rattle.promise.specs.declared.Answer.TheVariants.{Accepted}
use Rattle.promise.proofs.Finish.{by-plan, by-rules, by-stamps-alone, form-good, given-whole}
use Rattle.promise.proofs.Laid.{KeepsTail, more-tail, over-control, same-tail}
use Rattle.promise.proofs.Stamping.{added_is, added_on, stamped-as}
use Rattle.cards.specs.Emptied.{emptied}
use Rattle.cards.proofs.Rows.{fit-front, fit-range, fit-rows, place-few, place-front, place-rows, rows_of, withdraw-front, withdraw-range, withdraw-rows}

-- ---- the rules' plans
module _ (g : Image) where
  abbrev fitted : ℕ → Part
  fitted c = with_cards (control_in g) (with_card (control_in g).working c) (without_card (control_in g).failed c)

  abbrev withdrawn : ℕ → Part
  withdrawn c = with_cards (control_in g) (without_card (control_in g).working c) (control_in g).failed

  fit-plan : (c : ℕ) → plan_on (fit c) g ≡ stamping cabinet (writing cabinet ok (fitted c) (clear_card cabinet c)) (clear_stamp cabinet c)
  unfolding act
  fit-plan c = refl

  withdraw-plan : (c : ℕ) → plan_on (withdraw c) g ≡ stamping cabinet (writing cabinet ok (withdrawn c) (clear_card cabinet c)) (clear_stamp cabinet c)
  unfolding act
  withdraw-plan c = refl

  place-plan : (m : Byte) → plan_on (place (by_mask m)) g ≡ stamping cabinet (unwritten cabinet ok (added_on g (from_mask m))) (stamp_all cabinet (added_on g (from_mask m)))
  unfolding act
  place-plan m = refl

-- ---- on an image that was read
module _ {k : Struct} {g : Image} (is : Given k g) where
  -- a control part is written over a table that was emptied
  abbrev clearing : ℕ → Part → Plan cabinet
  clearing c p = stamping cabinet (writing cabinet ok p (clear_card cabinet c)) (clear_stamp cabinet c)

  cleared : (c : ℕ) (p : Part) → KeepsTail p g → put_control (emptied c g) (front_part p) ≡ after_plan current (clearing c p) g
  unfolding emptied
  cleared c p keeps = over-control (clear_card cabinet c) (λ d. end_of current (clear_stamp cabinet c d)) g p keeps

  -- the rows of the struct are those of the image
  rows_on_lem : (c : Call cabinet) → rows_of c (front_part (control_in g)) ≡ rows_on c g → {n : ℕ} → n ≡ rows_of c (meaning k) → n ≡ rows_on c g
  rows_on_lem c same e = e ∙ ap (rows_of c) is.is.means ∙ same

  pub fit_refused : (c : ℕ) (r : Refusal) (a : Result AnswerValue Refusal) → number r ≡ rows_of (fit c) (meaning k) → HandsOn r a → Done (fit c) g a g
  fit_refused c r a e = by-rules (fit c) refl g is.formed r a (rows_on_lem (fit c) (fit-front (control_in g) c ∙ fit-rows (control_in g) (view_of g) c) e)

  pub withdraw-refused-on : (c : ℕ) (r : Refusal) (a : Result AnswerValue Refusal) → number r ≡ rows_of (withdraw c) (meaning k) → HandsOn r a → Done (withdraw c) g a g
  withdraw-refused-on c r a e = by-rules (withdraw c) refl g is.formed r a (rows_on_lem (withdraw c) (withdraw-front (control_in g) c ∙ withdraw-rows (control_in g) (view_of g) c) e)

  pub place-refused : (m : Byte) (r : Refusal) (a : Result AnswerValue Refusal) → number r ≡ rows_of (place (by_mask m)) (meaning k) → HandsOn r a → Done (place (by_mask m)) g a g
  place-refused m r a e = by-rules (place (by_mask m)) refl g is.formed r a (rows_on_lem (place (by_mask m)) (place-front (control_in g) m ∙ place-rows (control_in g) (view_of g) m) e)

  pub fit-done : (c : ℕ) (x : Struct) (behind : Image) → 0 ≡ rows_of (fit c) (meaning k)
      → Is x (with_cards (meaning k) (with_card (meaning k).working c) (without_card (meaning k).failed c))
      → behind ≡ put_control (emptied c g) (meaning x) → Done (fit c) g (Ok Accepted) behind
  fit-done c x behind e ix l =
      let p : meaning x ≡ front_part (fitted g c) = ix.means ∙ ap (λ (q : Part). with_cards q (with_card q.working c) (without_card q.failed c)) is.is.means in
      by-plan (fit c) refl g is.formed Accepted (clearing c (fitted g c)) behind
      (rows_on_lem (fit c) (fit-front (control_in g) c ∙ fit-rows (control_in g) (view_of g) c) e) (fit-plan g c) refl
      (l ∙ ap (put_control (emptied c g)) p ∙ cleared c (fitted g c) (same-tail g (form-good g is.formed)))

  pub withdraw-done : (c : ℕ) (x : Struct) (behind : Image) → 0 ≡ rows_of (withdraw c) (meaning k)
      → Is x (with_cards (meaning k) (without_card (meaning k).working c) (meaning k).failed)
      → behind ≡ put_control (emptied c g) (meaning x) → Done (withdraw c) g (Ok Accepted) behind
  withdraw-done c x behind e ix l =
      let p : meaning x ≡ front_part (withdrawn g c) = ix.means ∙ ap (λ (q : Part). with_cards q (without_card q.working c) q.failed) is.is.means in
      by-plan (withdraw c) refl g is.formed Accepted (clearing c (withdrawn g c)) behind
      (rows_on_lem (withdraw c) (withdraw-front (control_in g) c ∙ withdraw-rows (control_in g) (view_of g) c) e) (withdraw-plan g c) refl
      (l ∙ ap (put_control (emptied c g)) p ∙ cleared c (withdrawn g c) (same-tail g (form-good g is.formed)))

  pub place-done : (m : ℕ) (x : Struct) (out behind : Image) {s : Stamp} → 0 ≡ rows_of (place (by_mask (byte m))) (meaning k)
      → Is x (added (meaning k) (from_mask (byte m)) (suc k.serial)) → out ≡ put_control g (meaning x)
      → s ≡ stamp_of (meaning x) → behind ≡ put_stamps out (byte x.working) s card_count → Done (place (by_mask (byte m))) g (Ok Accepted) behind
  place-done m x out behind e ix o shown l =
      let p : Part = added_on g (from_mask (byte m)) in
      let means : meaning x ≡ front_part p = added_is is x (from_mask (byte m)) ix in
      by-stamps-alone (place (by_mask (byte m))) refl g is.formed Accepted p behind
      (rows_on_lem (place (by_mask (byte m))) (place-front (control_in g) (byte m) ∙ place-rows (control_in g) (view_of g) (byte m)) e) (place-plan g (byte m))
      (more-tail g (control_in g) (from_mask (byte m)) (form-good g is.formed) refl refl (suc (control_in g).serial))
      (l ∙ stamped-as x p means shown out ∙ ap (λ (i : Image). put_stamps i p.working (stamp_of p) card_count) (o ∙ ap (put_control g) means))

  -- what the functions below an accepted call ask
  pub long : control_size ≤ length g
  long = let w : Whole g = given-whole is in omega arith

  pub whole-written : (x : Struct) (out : Image) → out ≡ put_control g (meaning x) → Whole out
  whole-written x out e = ap length e ∙ length-put g (meaning x) long ∙ given-whole is

  pub fit-card : (c : ℕ) → 0 ≡ rows_of (fit c) (meaning k) → c < card_count
  fit-card c e = fit-range (meaning k) c e

  pub withdraw-card : (c : ℕ) → 0 ≡ rows_of (withdraw c) (meaning k) → c < card_count
  withdraw-card c e = withdraw-range (meaning k) c e

  pub place-room : (m : Byte) → 0 ≡ rows_of (place (by_mask m)) (meaning k) → k.count < most_active
  place-room m e = place-few k is.is.counted m e
