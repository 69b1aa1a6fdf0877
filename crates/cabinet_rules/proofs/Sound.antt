-- An image beside the plain record list: it is legible, and the state that it shows is ready beside the list. Noise on failed cards and calls
-- keep this. Assumes nothing.
use Prim.Native.Nat.{ℕ}
use mathlib.Core.Bool.{false}
use mathlib.Core.List.{List, [], ◌∷◌}
use mathlib.Core.Path.{◌∙◌, ◌≡◌, ap, subst, sym}
use Rattle.mask.specs.Masks.{Byte}
use Rattle.method.specs.OneRecordList.{plain_after, rules_after, is_last, observe, plain_observe, settle_accepted, zeroed}
use Rattle.method.specs.Parameters.{Parameters}
use Rattle.method.specs.PlainList.{PlainList, plain_next, plain_start}
use Rattle.method.specs.Rules.{Call, State, answer_of, next_state, ok, start}
use Rattle.method.proofs.Laws.{Laws}
use Rattle.method.proofs.Run.{Ready, next_start, ready-noise, ready-start, ready-step}
use Rattle.cabinet_rules.specs.Cabinet.{rules_of}
use Rattle.cabinet_rules.specs.ByTheRules.{noise_by}
use Rattle.cabinet_rules.specs.Claims.{NoStopBy, NoisyCallBy, image_after_by, image_calls_by, noisy_by}
use Rattle.cabinet_rules.specs.Delivery.{Delivery}
use Rattle.cabinet_rules.specs.Images.{Image, answer_by, next_by, state_by}
use Rattle.cabinet_rules.proofs.Lawful.{DeliveryLaws, lawful_by}
use Rattle.cabinet_rules.proofs.Shows.{Shows}
use Rattle.cabinet_rules.proofs.Legible.{Legible, legible-noise, state-noise}
use Rattle.cabinet_rules.proofs.Transport.{answer-legible, legible-next, legible-start, start-long}
use Rattle.cabinet_rules.proofs.Transport.{start-row, state-next, state-start}

module _ (D : Delivery) (W : DeliveryLaws D) where
  abbrev P : Parameters
  P = rules_of D

  abbrev L : Laws P
  L = lawful_by D W.rules

  pub record Sound (g : Image) (z : State P) (q : PlainList P) : Type 0 where
    pub seen : Legible D W g
    pub ready : Ready P L (state_by D g) z q

  -- such an image shows the list's control part and what the store beside it sees
  pub sound-shows : (g : Image) (z : State P) (q : PlainList P) (s : Sound g z q) → Shows D W g q.control s.ready.sees
  sound-shows g z q s = record { seen = s.seen; form = s.ready.inv.form; full = s.ready.full; idle = s.ready.inv.idle; beside = s.ready.store_beside }

  -- ready is what a state is, however it is given
  is-ready : (s t z : State P) (q : PlainList P) → s ≡ t → Ready P L t z q → Ready P L s z q
  is-ready s t z q e = subst (λ (x : State P). Ready P L x z q) (sym e)

  -- ---- noise on failed cards is not seen
  pub noise-sound : (noise : ℕ → ℕ) (g : Image) (z : State P) (q : PlainList P) → Sound g z q → Sound (noisy_by D noise g) z q
  noise-sound noise g z q s = record {
    seen = legible-noise D W noise g s.seen;
    ready = is-ready _ _ z q (state-noise D W noise g s.seen) (ready-noise P L (noise_by D noise) (state_by D g) z q s.ready);
  }

  -- ---- a call
  pub answer-sound : (c : Call P) (g : Image) (z : State P) (q : PlainList P) → Sound g z q → answer_by D c g ≡ answer_of P c (state_by D g)
  answer-sound c g z q s = answer-legible D W c g s.seen

  -- one call, on an image that is sound: it shows what the plain list shows, and where it does not stop the store the image stays sound
  pub record ImageStep (g : Image) (z : State P) (q : PlainList P) (c : Call P) : Type 0 where
    pub shows : observe P c (answer_by D c g) ≡ plain_observe P c q
    pub goes_on : is_last P (plain_observe P c q) ≡ false
        → Sound (next_by D c g) (next_state P c z) (plain_next P (settle_accepted P z) c q)

  pub step-sound : (g : Image) (z : State P) (q : PlainList P) → Sound g z q → (c : Call P) → ImageStep g z q c
  step-sound g z q s c =
      let h = ready-step P L (state_by D g) z q s.ready c in
      record {
        shows = ap (observe P c) (answer-sound c g z q s) ∙ h.shows;
        goes_on = λ e. record { seen = legible-next D W c g s.seen; ready = is-ready _ _ _ _ (state-next D W c g s.seen) (h.goes_on e) };
      }

  -- ---- an accepted start, on memory of any contents
  pub start-sound : (m : Byte) (before : Image) → answer_by D (start m) before ≡ ok → Sound (next_by D (start m) before) (zeroed P m) (plain_start P m)
  start-sound m before e =
      let row-9 = start-row D W m before e in
      record {
        seen = legible-start D W m before e;
        ready = is-ready _ _ _ _ (state-start D W m before (start-long D W m before e) ∙ next_start P L m (state_by D before) row-9) (ready-start P L m row-9);
      }

  -- ---- a list of calls that does not stop the store leaves the image sound
  pub sound-after : (l : List (NoisyCallBy D)) (g : Image) (z : State P) (q : PlainList P) → Sound g z q → NoStopBy D l g
      → Sound (image_after_by D l g) (rules_after P (image_calls_by D l) z) (plain_after P (image_calls_by D l) z q)
  unfolding image_after_by NoStopBy rules_after plain_after
  sound-after [] g z q s h = s
  sound-after (e ∷ l) g z q s h =
      let st = step-sound (noisy_by D e.0 g) z q (noise-sound e.0 g z q s) e.1 in
      sound-after l (next_by D e.1 (noisy_by D e.0 g)) (next_state P e.1 z) (plain_next P (settle_accepted P z) e.1 q)
      (st.goes_on (sym (ap (is_last P) st.shows) ∙ h.0)) h.1
