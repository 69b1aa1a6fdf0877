-- When state answers protected, on images: the proofs. Assumes nothing.
use Prim.Native.Nat.{◌<◌, suc, zero, ℕ}
use borrow.Author.Tests.{eqb-false}
use lib.Dec.{eqb}
use mathlib.Core.Bool.{Bool, ◌&&◌, false, not, true}
use mathlib.Core.List.{List}
use mathlib.Core.Path.{◌∙◌, ◌≡◌, ap, fun_ext, refl, sym}
use native.Mathlib.Omega.{arith}
use Rattle.lists.specs.Tests.{all_below, count_below}
use Rattle.lists.proofs.Bools.{and_l, never_true, not_is, tf}
use Rattle.lists.proofs.Counts.{below_all, count_none, count-some}
use Rattle.image.specs.Layout.{card_count}
use Rattle.mask.specs.Masks.{has_card}
use Rattle.mask.proofs.Masks.{has-card}
use Rattle.method.specs.OneRecordList.{plain_after, rules_after, is_stop, zeroed}
use Rattle.method.specs.PlainList.{PlainList, or_refused, plain_protected, plain_start}
use Rattle.method.specs.Protection.{ProtectedByFails, no_fail_stops, protection}
use Rattle.method.specs.Rules.{Call, State, answer_of, fail, look, protected, refusal, start, state, stopping, unprotected}
use Rattle.method.proofs.Protection.{fail-stops, protected-by-fails, state-ready}
use Rattle.cabinet_rules.specs.Cabinet.{cabinet}
use Rattle.cabinet_rules.specs.Claims.{NoStopBy, NoisyCall, image_after, image_calls, noisy}
use Rattle.cabinet_rules.specs.Delivery.{current}
use Rattle.cabinet_rules.specs.Images.{Image, answer, answer_by, control_in, next, plan_on, refusal_by, refusal_on, state_by}
use Rattle.cabinet_rules.specs.Images.{state_in}
use Rattle.cabinet_rules.specs.Protection.{ProtectedByFailsOnImages, ProtectedByPlainListOnImages, ProtectedFromEarlier}
use Rattle.cabinet_rules.specs.Protection.{no_fail_stops_on}
use Rattle.cabinet_rules.proofs.Earlier.{earlier-sound}
use Rattle.cabinet_rules.proofs.Form.{current_laws}
use Rattle.cabinet_rules.proofs.PlacingLaws.{lawful}
use Rattle.cabinet_rules.proofs.Running.{Running, running-image, running-shows}
use Rattle.cabinet_rules.proofs.Shows.{answer-shows}
use Rattle.cabinet_rules.proofs.Sound.{Sound, answer-sound, noise-sound, sound-after, start-sound}

-- ---- an image of which state is not refused
module _ (g : Image) (clear : refusal_on state g ≡ 0) where
  runs : Running g
  unfolding refusal_by refusal
  runs = running-image g clear

  answer-is : (c : Call cabinet) → answer c g ≡ answer_of cabinet c (state_in g)
  answer-is c = answer-shows current current_laws c g (control_in g) (look cabinet (state_in g)) (running-shows g runs)

  -- only a fail of a card can answer 'stopped' there
  stop-card : (c : ℕ) → is_stop cabinet (answer (fail c) g) ≡ true → c < card_count
  unfolding answer_of state_by
  stop-card c e =
      let s : (has_card (control_in g).working c && stopping cabinet (control_in g) c) ≡ true =
      sym (fail-stops cabinet lawful (control_in g) (look cabinet (state_in g)) runs.running c) ∙ ap (is_stop cabinet) (sym (answer-is (fail c))) ∙ e in
      has-card (control_in g).working c (and_l (has_card (control_in g).working c) (stopping cabinet (control_in g) c) s)

pub protected-by-fails-on-images : ProtectedByFailsOnImages
unfolding ProtectedByFailsOnImages no_fail_stops_on
protected-by-fails-on-images g clear = answer-is g clear state
    ∙ unfold ProtectedByFails state_by in (protected-by-fails cabinet lawful (state_in g) (runs g clear).running)
    ∙ unfold no_fail_stops in
    (ap (λ (f : ℕ → Bool). protection cabinet (all_below card_count (λ c. not (f c)))) (fun_ext (λ c. ap (is_stop cabinet) (sym (answer-is g clear (fail c))))))

-- ---- what each of its two words says
-- an accepted state answers a word; a refused one does not
accepted : (g : Image) (n : ℕ) (t : Bool) → or_refused cabinet n (plan_on state g).answer ≡ protection cabinet t → n ≡ 0
accepted g zero t e = refl
accepted g (suc n) true e = let z : ◌≡◌ {A = ℕ} 0 1 = cc in absurd (omega arith)
accepted g (suc n) false e = let z : ◌≡◌ {A = ℕ} 0 1 = cc in absurd (omega arith)

same_word : (s t : Bool) → protection cabinet s ≡ protection cabinet t → s ≡ t
same_word true true e = refl
same_word true false e = let z : ◌≡◌ {A = ℕ} 0 1 = cc in absurd (omega arith)
same_word false true e = let z : ◌≡◌ {A = ℕ} 0 1 = cc in absurd (omega arith)
same_word false false e = refl

module _ (g : Image) (t : Bool) (e : answer state g ≡ protection cabinet t) where
  clear : refusal_on state g ≡ 0
  clear = accepted g (refusal_on state g) t (unfold answer_by in e)

  word : no_fail_stops_on g ≡ t
  unfolding ProtectedByFailsOnImages
  word = same_word (no_fail_stops_on g) t (sym (protected-by-fails-on-images g clear) ∙ e)

-- protected: no fail answers 'stopped'
pub safe-of : (g : Image) → answer state g ≡ protected → (c : ℕ) → is_stop cabinet (answer (fail c) g) ≡ false
unfolding no_fail_stops_on
safe-of g e c = never_true (is_stop cabinet (answer (fail c) g)) (λ s.
    tf (is_stop cabinet (answer (fail c) g)) s (not_is (is_stop cabinet (answer (fail c) g))
    (below_all card_count (λ c. not (is_stop cabinet (answer (fail c) g))) c (word g true e) (stop-card g (clear g true e) c s))))

-- unprotected: a fail of some card does
pub stop-of : (g : Image) → answer state g ≡ unprotected → (c : ℕ) × (c < card_count) × (is_stop cabinet (answer (fail c) g) ≡ true)
unfolding no_fail_stops_on
stop-of g e =
    let f : ℕ → Bool = λ c. is_stop cabinet (answer (fail c) g) in
    let n : eqb (count_below card_count f) 0 ≡ false = count_none card_count f ∙ word g false e in
    let d : count_below card_count f ≡ 0 → ⊥ = eqb-false (count_below card_count f) 0 n in
    count-some card_count f (omega arith)

-- ---- a list of calls that did not stop the store, from an image that is sound
word_after : (g : Image) (z : State cabinet) (q : PlainList cabinet) → Sound current current_laws g z q → (l : List NoisyCall) → NoStopBy current l g → (noise : ℕ → ℕ)
    → answer state (noisy noise (image_after l g)) ≡ protection cabinet (plain_protected cabinet (plain_after cabinet (image_calls l) z q))
word_after g z q s l runs noise =
    let h : Image = image_after l g in
    let y : State cabinet = rules_after cabinet (image_calls l) z in
    let p : PlainList cabinet = plain_after cabinet (image_calls l) z q in
    let t : Sound current current_laws (noisy noise h) y p = noise-sound current current_laws noise h y p (sound-after current current_laws l g z q s runs) in
    answer-sound current current_laws state (noisy noise h) y p t ∙ state-ready cabinet lawful (state_in (noisy noise h)) y p t.ready

-- from a start
pub protected-by-plain-list-on-images : ProtectedByPlainListOnImages
unfolding ProtectedByPlainListOnImages
protected-by-plain-list-on-images m before e = word_after (next (start m) before) (zeroed cabinet m) (plain_start cabinet m) (start-sound current current_laws m before e)

-- from a store that earlier deliveries left
pub protected-from-earlier : ProtectedFromEarlier
unfolding ProtectedFromEarlier
protected-from-earlier s e = word_after s.image s.rules s.plain (earlier-sound s e)
