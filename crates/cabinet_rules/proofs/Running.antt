-- Every image that is refused neither 1, 2 nor 4, reached by calls or not, shows a running store. Assumes nothing.
use Prim.Native.Nat.{ℕ}
use borrow.Author.Tests.{eqb-true}
use lib.Dec.{eqb}
use lib.ListN.{get_or, length}
use mathlib.Core.Bool.{◌&&◌, false, not, true}
use mathlib.Core.Logic.{◌⊎◌, inl, inr}
use mathlib.Core.Path.{◌≡◌, refl, sym}
use Rattle.lists.proofs.Bools.{not-not-is, split}
use Rattle.image.specs.Layout.{image_size}
use Rattle.slot.specs.Blocks.{empty_block}
use Rattle.method.specs.Rules.{is_start, Call, answer_of, begin, commit, delete, fail, fit, get, load, look, move, next_state, place, rollback, row}
use Rattle.method.specs.Rules.{settle, start, state, store, visible, withdraw}
use Rattle.method.proofs.Refusals.{row-clear}
use Rattle.method.proofs.Legal.{Legal, is-resting, is-running}
use Rattle.method.proofs.Run.{Beside}
use Rattle.control_form.specs.ControlForm.{control_form, form_refusal, form_rows}
use Rattle.control_form.proofs.RoundTrip.{control-back, tail-back}
use Rattle.cabinet_rules.specs.Cabinet.{cabinet}
use Rattle.cabinet_rules.specs.ByTheRules.{CallsByTheRules, RunsByTheRules}
use Rattle.cabinet_rules.specs.Delivery.{current}
use Rattle.cabinet_rules.specs.Images.{Image, answer, control_in, next, state_by, state_in, tail_in}
use Rattle.cabinet_rules.proofs.Form.{current_laws}
use Rattle.cabinet_rules.proofs.FormLaws.{resting, running-form, running-inv}
use Rattle.cabinet_rules.proofs.PlacingLaws.{lawful}
use Rattle.cabinet_rules.proofs.Shows.{Shows}
use Rattle.cabinet_rules.proofs.Legible.{Legible}
use Rattle.cabinet_rules.proofs.Transport.{answer-legible, answer-start, run-rules, state-after, state-next, state-start}

-- ---- an image that is refused neither 1 nor 2
pub form-long : (g : Image) → form_refusal g ≡ 0 → length g ≡ image_size
unfolding form_refusal
form-long g e = eqb-true (length g) image_size (not-not-is (eqb (length g) image_size) (row-clear (not (eqb (length g) image_size)) 0 e).0)

pub form-good : (g : Image) → form_refusal g ≡ 0 → control_form g ≡ true
unfolding form_refusal
form-good g e = not-not-is (control_form g) (row-clear (not (control_form g)) 1 (row-clear (not (eqb (length g) image_size)) 0 e).1).0

-- ---- a running store
pub record Running (g : Image) : Type 0 where
  pub long : length g ≡ image_size
  pub formed : control_form g ≡ true
  pub running : (control_in g).stopped ≡ false

-- Rows 1, 2 and 4 do not apply.
pub running-image : (g : Image) → form_rows false (control_form g) g (row 4 (control_in g).stopped 0) ≡ 0 → Running g
running-image g e =
    let from-2 = row-clear (not (eqb (length g) image_size)) 0 e in
    let from-4 = row-clear (not (control_form g)) 1 from-2.1 in
    record {
      long = eqb-true (length g) image_size (not-not-is (eqb (length g) image_size) from-2.0);
      formed = not-not-is (control_form g) from-4.0;
      running = (row-clear (control_in g).stopped 3 from-4.1).0;
    }

-- Every image that is refused neither 1 nor 2 is legible, whether it shows a running store or a stopped one.
pub formed-legible : (g : Image) → length g ≡ image_size → control_form g ≡ true → Legible current current_laws g
formed-legible g long form = record {
  part = control_in g;
  legal = go (split (control_in g).stopped);
  long = long;
  wrote = record { front = λ n h. sym (control-back (λ n. get_or g n 0) (tail_in g) form n h); behind = λ n h. sym (tail-back (λ n. get_or g n 0) (tail_in g) form n h) };
}
  where
    go : ((control_in g).stopped ≡ true) ⊎ ((control_in g).stopped ≡ false) → Legal cabinet lawful (control_in g)
    go (inl e) = is-resting (resting g form e)
    go (inr e) = is-running (running-form g form e) (running-inv g form)

-- Its control part is the one that its bytes show, and its view is what the rules see of it.
pub running-shows : (g : Image) → Running g → Shows current current_laws g (control_in g) (look cabinet (state_in g))
running-shows g r = record {
  seen = formed-legible g r.long r.formed;
  form = running-form g r.formed r.running;
  full = running-inv g r.formed;
  idle = idle;
  beside = beside;
}
  where
    idle : (c b : ℕ) → visible cabinet (control_in g) c b ≡ false → look cabinet (state_in g) c b ≡ empty_block
    idle c b e = unfold look state_by in (rw e)

    beside : Beside cabinet lawful (state_in g) (control_in g) (look cabinet (state_in g))
    beside = unfold state_by in (record { same-control = refl; same-look = refl })

-- ---- what the rules give holds on images
pub calls-by-the-rules : CallsByTheRules
unfolding CallsByTheRules
calls-by-the-rules c g e =
    let h = row-clear (not (eqb (length g) image_size)) 0 e in
    by_kind c (eqb-true (length g) image_size (not-not-is (eqb (length g) image_size) h.0)) (row-clear (not (is_start c) && not (control_form g)) 1 h.1).0
  where
    Same : Call cabinet → Type 0
    Same c = (answer c g ≡ answer_of cabinet c (state_in g)) × (state_in (next c g) ≡ next_state cabinet c (state_in g))

    other : (c : Call cabinet) → length g ≡ image_size → not (control_form g) ≡ false → Same c
    other c long e =
        let s : Legible current current_laws g = formed-legible g long (not-not-is (control_form g) e) in
        (answer-legible current current_laws c g s, state-next current current_laws c g s)

    by_kind : (c : Call cabinet) → length g ≡ image_size → (not (is_start c) && not (control_form g)) ≡ false → Same c
    by_kind (start m) long e = (answer-start current current_laws m g long, state-start current current_laws m g long)
    by_kind (begin t h) long e = other (begin t h) long e
    by_kind (get t r) long e = other (get t r) long e
    by_kind (store t r n) long e = other (store t r n) long e
    by_kind (delete t r) long e = other (delete t r) long e
    by_kind (commit t) long e = other (commit t) long e
    by_kind (rollback t) long e = other (rollback t) long e
    by_kind (fit c) long e = other (fit c) long e
    by_kind (withdraw c) long e = other (withdraw c) long e
    by_kind (place m) long e = other (place m) long e
    by_kind (fail c) long e = other (fail c) long e
    by_kind (move c b) long e = other (move c b) long e
    by_kind settle long e = other settle long e
    by_kind state long e = other state long e
    by_kind (load c) long e = other (load c) long e

pub runs-by-the-rules : RunsByTheRules
unfolding RunsByTheRules
runs-by-the-rules l g e =
    let s : Legible current current_laws g = formed-legible g (form-long g e) (form-good g e) in
    (run-rules current current_laws l g s, (state-after current current_laws l g s).1)
