-- One step on an image that goes beside the rules and the plain record list: noise leaves it so, and each step shows what the plain list shows and leaves it so.
-- Assumes nothing.
use Prim.Native.Nat.{ℕ}
use lib.Dec.{leb}
use lib.ListN.{get_or}
use mathlib.Core.Bool.{Bool, ◌&&◌, cond, false, not, true}
use mathlib.Core.List.{[]}
use mathlib.Core.Logic.{◌⊎◌, inl, inr}
use mathlib.Core.Path.{◌∙◌, ◌≡◌, ap, fun_ext, refl, subst, sym}
use Rattle.image.specs.Layout.{control_size}
use Rattle.mask.specs.Masks.{has_card}
use Rattle.method.specs.OneRecordList.{settle_accepted}
use Rattle.method.specs.PlainList.{PlainList}
use Rattle.method.specs.Returning.{return_refusal}
use Rattle.method.specs.Rules.{State, View}
use Rattle.method.specs.ThroughStops.{Step, Tables, after_step, plain_observed, plain_step, recorded}
use Rattle.method.proofs.Returning.{running-refusal}
use Rattle.method.proofs.StepsThrough.{Goes, Through, counted, passed, through-noise}
use Rattle.method.proofs.ThroughStops.{through-step}
use Rattle.control.specs.ControlBytes.{Part}
use Rattle.cabinet_rules.specs.Cabinet.{cabinet}
use Rattle.cabinet_rules.specs.ByTheRules.{noise_by}
use Rattle.cabinet_rules.specs.Claims.{noisy}
use Rattle.cabinet_rules.specs.Delivery.{current}
use Rattle.cabinet_rules.specs.Images.{Image, card_by, control_in, state_by, state_in}
use Rattle.cabinet_rules.specs.Returns.{after_return_on}
use Rattle.cabinet_rules.specs.ThroughStops.{AsRecordedBy, after_step_by, counts_by, observed_by, recorded_byte}
use Rattle.cabinet_rules.proofs.Form.{current_laws}
use Rattle.cabinet_rules.proofs.GoesThrough.{Continues}
use Rattle.cabinet_rules.proofs.PlacingLaws.{lawful}
use Rattle.cabinet_rules.proofs.Legible.{Legible, legible-noise, state-noise}
use Rattle.cabinet_rules.proofs.Returns.{refused-image, return-rows}
use Rattle.cabinet_rules.proofs.Shows.{Shows}
use Rattle.cabinet_rules.proofs.Sound.{Sound}
use Rattle.cabinet_rules.proofs.ThroughStops.{counts_same, legible-step, observed-same, recorded-as, recorded-same, state-step, tables_by}

-- ---- noise
pub noise-continues : (noise : ℕ → ℕ) (g : Image) (z : State cabinet) (q : PlainList cabinet) (t : ℕ → ℕ) → Continues g z q t → Continues (noisy noise g) z q t
noise-continues noise g z q t c = record {
  seen = legible-noise current current_laws noise g c.seen;
  through = subst (λ (s : State cabinet). Through cabinet lawful s z q (tables_by current current_laws t)) (sym (state-noise current current_laws noise g c.seen))
      (through-noise cabinet lawful (noise_by current noise) (state_in g) z q (tables_by current current_laws t) c.through);
}

-- ---- a step: one that counts is a step of the rules and of the plain list too
pub data GoesOn (g : Image) (z : State cabinet) (q : PlainList cabinet) (t : ℕ → ℕ) (e : Step cabinet) : Type 0 where
  counts-on : counts_by current e g ≡ true → observed_by current e g ≡ plain_observed cabinet e q
      → Continues (after_step_by current e g) (after_step cabinet e z) (plain_step cabinet (settle_accepted cabinet z) e q) (recorded_byte current g (after_step_by current e g) t)
      → GoesOn g z q t e
  passes_on : counts_by current e g ≡ false → observed_by current e g ≡ []
      → Continues (after_step_by current e g) z q (recorded_byte current g (after_step_by current e g) t) → GoesOn g z q t e

module _ (g : Image) (z : State cabinet) (q : PlainList cabinet) (t : ℕ → ℕ) (c : Continues g z q t) (e : Step cabinet) where
  -- the image and the recorded bytes after the step, as the rules have them
  move-on : (y : State cabinet) (p : PlainList cabinet)
      → Through cabinet lawful (after_step cabinet e (state_in g)) y p (recorded cabinet (state_in g) (after_step cabinet e (state_in g)) (tables_by current current_laws t))
      → Continues (after_step_by current e g) y p (recorded_byte current g (after_step_by current e g) t)
  move-on y p h = record {
    seen = legible-step current current_laws e g c.seen;
    through = subst (λ (x : Tables cabinet). Through cabinet lawful (state_in (after_step_by current e g)) y p x) (recorded-same current current_laws g (after_step_by current e g) t)
        (subst (λ (s : State cabinet). Through cabinet lawful s y p (recorded cabinet (state_in g) s (tables_by current current_laws t)))
        (sym (state-step current current_laws e g c.seen)) h);
  }

  pub step-continues : AsRecordedBy current e g t → GoesOn g z q t e
  step-continues i = go (through-step cabinet lawful refl (state_in g) z q (tables_by current current_laws t) c.through e (recorded-as current current_laws e g t c.seen i))
    where
      go : Goes cabinet lawful (state_in g) z q (tables_by current current_laws t) e → GoesOn g z q t e
      go (counted n o h) = counts-on (counts_same current current_laws e g c.seen ∙ n) (observed-same current current_laws e g c.seen ∙ o) (move-on _ _ h)
      go (passed n o h) = passes_on (counts_same current current_laws e g c.seen ∙ n) (observed-same current current_laws e g c.seen ∙ o) (move-on _ _ h)

-- ---- nothing is recorded between an image and itself
pub recorded-still : (g : Image) (t : ℕ → ℕ) → recorded_byte current g g t ≡ t
unfolding recorded_byte
recorded-still g t = fun_ext (λ n. go (leb control_size n) (has_card (control_in g).failed (card_by current.memory.layout n)) n)
  where
    go : (a f : Bool) (n : ℕ) → cond (a && (f && not f)) (get_or g n 0) (t n) ≡ t n
    go true true n = refl
    go true false n = refl
    go false f n = refl

-- ---- a running store refuses every return
pub running-return : (c : ℕ) (g : Image) → Legible current current_laws g → (control_in g).stopped ≡ false → after_return_on c g ≡ g
running-return c g s r = go (running-refusal cabinet (control_in g) (state_in g).stamp c r)
  where
    go : (return_refusal cabinet (control_in g) (state_in g).stamp c ≡ 3) ⊎ (return_refusal cabinet (control_in g) (state_in g).stamp c ≡ 8) → after_return_on c g ≡ g
    go (inl e) = refused-image current current_laws c g 2 (return-rows current current_laws c g s ∙ e)
    go (inr e) = refused-image current current_laws c g 7 (return-rows current current_laws c g s ∙ e)

-- so where the image goes beside the rules, or shows a running store
pub sound-return : (c : ℕ) (g : Image) (z : State cabinet) (q : PlainList cabinet) → Sound current current_laws g z q → after_return_on c g ≡ g
unfolding state_by
sound-return c g z q s = running-return c g s.seen (ap (λ (k : Part). k.stopped) s.ready.store_beside.same-control ∙ s.ready.inv.form.base.running)

pub shows-return : (c : ℕ) (g : Image) (k : Part) (v : View cabinet) → Shows current current_laws g k v → after_return_on c g ≡ g
unfolding state_by
shows-return c g k v s = running-return c g s.seen (ap (λ (p : Part). p.stopped) s.beside.same-control ∙ s.form.base.running)
