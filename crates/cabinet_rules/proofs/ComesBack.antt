-- What comes back after a stop, on images: the laws of the rules on the state that the image shows. Assumes nothing.
use Prim.Native.Nat.{◌+◌, ◌<◌, ℕ}
use borrow.Author.Tests.{lt-ltb}
use lib.ListN.{get_or}
use mathlib.Core.Bool.{false, true}
use mathlib.Core.List.{List}
use mathlib.Core.Path.{◌∙◌, ◌≡◌, ap, refl, subst, sym}
use Rattle.lists.proofs.Bools.{never_true, tf}
use Rattle.image.specs.Layout.{card_count, table_size, table_start}
use Rattle.mask.specs.Masks.{Byte, has_card}
use Rattle.mask.proofs.Masks.{has-card}
use Rattle.method.specs.ComesBack.{MembersStamped, Returns, UnnamedIsStale}
use Rattle.method.specs.OneRecordList.{Noise, disturb, zeroed}
use Rattle.method.specs.PlainList.{PlainList, plain_start}
use Rattle.method.specs.Returning.{return_refusal}
use Rattle.method.specs.Rules.{State, start}
use Rattle.method.specs.ThroughStops.{Step, Tables, plain_through, rules_through, state_through, steps_taken}
use Rattle.method.proofs.ComesBack.{through-members, through-returns, through-twins, unnamed-is-stale}
use Rattle.method.proofs.StepsThrough.{Through}
use Rattle.method.proofs.ThroughStops.{through-after}
use Rattle.control.specs.Stamps.{stamp_in, stamp_of}
use Rattle.control_form.specs.ControlForm.{form_refusal}
use Rattle.cabinet_rules.specs.Cabinet.{cabinet}
use Rattle.cabinet_rules.specs.Claims.{noisy_by}
use Rattle.cabinet_rules.specs.ComesBack.{AfterStepsOnImages, MembersAreStamped, MembersComeBack, TwinsAgreeThroughStopsOnImages, UnnamedStaysAway}
use Rattle.cabinet_rules.specs.ComesBack.{IdleStaysAway, recorded_through_by}
use Rattle.cabinet_rules.specs.Delivery.{current}
use Rattle.cabinet_rules.specs.Images.{Image, control_in, end_in, next, state_by, state_in}
use Rattle.cabinet_rules.specs.Returns.{return_refusal_on}
use Rattle.cabinet_rules.specs.Twins.{TwinsOn}
use Rattle.cabinet_rules.specs.ThroughStops.{IntactBy, NoisyStep, image_through_by}
use Rattle.cabinet_rules.proofs.Form.{current_laws}
use Rattle.cabinet_rules.proofs.FormLaws.{running-form}
use Rattle.cabinet_rules.proofs.GoesThrough.{Continues, start-continues, state-through, tables-through}
use Rattle.cabinet_rules.proofs.PlacingLaws.{lawful}
use Rattle.cabinet_rules.proofs.Legible.{Legible, legible-noise, state-noise}
use Rattle.cabinet_rules.proofs.Returns.{return-rows}
use Rattle.cabinet_rules.proofs.Running.{form-good, form-long, formed-legible}
use Rattle.cabinet_rules.proofs.ThroughStops.{intact-same, legible-through, same_end, stepped_by, tables_by}
use Rattle.cabinet_rules.proofs.Twins.{twins-shown}

-- ---- after a list of steps the image still goes beside the rules and the plain list
module _ (l : List NoisyStep) (g : Image) (z : State cabinet) (q : PlainList cabinet) (t : ℕ → ℕ) where
  abbrev steps : List (Noise cabinet × Step cabinet)
  steps = stepped_by current current_laws l

  abbrev z' : State cabinet
  z' = rules_through cabinet (steps_taken cabinet steps (state_in g)) z

  abbrev q' : PlainList cabinet
  q' = plain_through cabinet (steps_taken cabinet steps (state_in g)) z q

  pub continues-after : Continues g z q t → IntactBy current l g t → Continues (image_through_by current l g) z' q' (recorded_through_by current l g t)
  continues-after c i = record {
    seen = legible-through current current_laws l g c.seen;
    through = subst (λ (s : State cabinet). Through cabinet lawful s z' q' (tables_by current current_laws (recorded_through_by current l g t))) (sym (state-through current current_laws l g c.seen))
        (subst (λ (x : Tables cabinet). Through cabinet lawful (state_through cabinet steps (state_in g)) z' q' x) (sym (tables-through current current_laws l g t c.seen))
        (through-after cabinet lawful refl steps (state_in g) z q (tables_by current current_laws t) c.through (intact-same current current_laws l g t c.seen i)));
  }

-- so whatever is so of every such image is so after a start
after-start : (Q : Image → (ℕ → ℕ) → Type 0)
    → ((g : Image) (z : State cabinet) (q : PlainList cabinet) (t : ℕ → ℕ) → Continues g z q t → Q g t) → AfterStepsOnImages Q
after-start Q h m before e t l i = h (image_through_by current l (next (start m) before)) _ _ (recorded_through_by current l (next (start m) before) t)
    (continues-after l (next (start m) before) (zeroed cabinet m) (plain_start cabinet m) t (start-continues m before e t) i)

-- the stamp of a card that there is
stamp-at : (g : Image) (c : ℕ) → c < card_count → (state_in g).stamp c ≡ stamp_in (end_in g c)
unfolding state_by
stamp-at g c h = rw (lt-ltb c card_count h)

members-shown : (g : Image) (z : State cabinet) (q : PlainList cabinet) (t : ℕ → ℕ) → Continues g z q t → (control_in g).stopped ≡ false
    → (c : ℕ) → has_card (control_in g).newest.mask c ≡ true → (stamp_in (end_in g c) ≡ stamp_of (control_in g)) × (has_card (control_in g).failed c ≡ false)
unfolding state_by
members-shown g z q t h runs c named =
    let s : MembersStamped cabinet (state_in g) = through-members cabinet lawful (state_in g) z q (tables_by current current_laws t) h.through in
    (sym (stamp-at g c (has-card (control_in g).newest.mask c named)) ∙ (s runs c named).0, (s runs c named).1)

pub members-are-stamped : MembersAreStamped
unfolding MembersAreStamped
members-are-stamped = after-start _ members-shown

come-back : (g : Image) (z : State cabinet) (q : PlainList cabinet) (t : ℕ → ℕ) → Continues g z q t → (control_in g).stopped ≡ true → (c : ℕ)
    → has_card (control_in g).failed c ≡ true → has_card (control_in g).newest.mask c ≡ true
    → (noise : ℕ → ℕ) → ((j : ℕ) → j < table_size → get_or (noisy_by current noise g) (table_start c + j) 0 ≡ t (table_start c + j))
    → return_refusal_on c (noisy_by current noise g) ≡ 0
unfolding state_by disturb
come-back g z q t h stopped c failed named noise same =
    let n : Image = noisy_by current noise g in
    let r : Returns cabinet (state_in g) (tables_by current current_laws t) = through-returns cabinet lawful (state_in g) z q (tables_by current current_laws t) h.through in
    return-rows current current_laws c n (legible-noise current current_laws noise g h.seen)
    ∙ ap (λ (s : State cabinet). return_refusal cabinet s.control (state_in n).stamp c) (state-noise current current_laws noise g h.seen)
    ∙ r stopped c failed named (state_in n).stamp (same_end current current_laws n t c same)

pub members-come-back : MembersComeBack
unfolding MembersComeBack
members-come-back = after-start _ come-back

pub continues-twins : (g : Image) (z : State cabinet) (q : PlainList cabinet) (t : ℕ → ℕ) → Continues g z q t → TwinsOn g
continues-twins g z q t h = twins-shown g (through-twins cabinet lawful (state_in g) z q (tables_by current current_laws t) h.through)

pub twins-agree-through-stops-on-images : TwinsAgreeThroughStopsOnImages
unfolding TwinsAgreeThroughStopsOnImages
twins-agree-through-stops-on-images = after-start (λ g t. TwinsOn g) continues-twins

-- every image that is refused neither 1 nor 2
form-legible : (g : Image) → form_refusal g ≡ 0 → Legible current current_laws g
form-legible g e = formed-legible g (form-long g e) (form-good g e)

pub unnamed-stays-away : UnnamedStaysAway
unfolding UnnamedStaysAway UnnamedIsStale
unnamed-stays-away g form stopped c hc failed unnamed =
    let s : Legible current current_laws g = form-legible g form in
    return-rows current current_laws c g s ∙ unnamed-is-stale cabinet (control_in g) (state_in g).stamp c (lt-ltb c card_count hc) stopped failed unnamed

-- a running store's newest placement has working cards alone
idle-unnamed : (g : Image) → form_refusal g ≡ 0 → (control_in g).stopped ≡ false → (c : ℕ) → has_card (control_in g).working c ≡ false
    → has_card (control_in g).newest.mask c ≡ false
idle-unnamed g form runs c idle = never_true (has_card (control_in g).newest.mask c) (λ named.
    tf (has_card (control_in g).working c) ((running-form g (form-good g form) runs).new_works c named) idle)

pub idle-stays-away : IdleStaysAway
unfolding IdleStaysAway UnnamedStaysAway
idle-stays-away g h form formed runs stopped same c hc idle failed = unnamed-stays-away h formed stopped c hc failed
    (ap (λ (m : Byte). has_card m c) same ∙ idle-unnamed g form runs c idle)
