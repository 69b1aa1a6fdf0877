-- What 'none' is worth to a caller: no moves let settle succeed afterwards. A call that lists moves is played as one that is refused. Assumes
-- nothing.
use Prim.Native.Nat.{◌<◌, ℕ}
use lib.Dec.{eqb, leb}
use lib.ListN.{get_or, length}
use lib.Seq.{ext_get_or}
use mathlib.Core.Bool.{Bool, ◌&&◌, cond, false, not, true}
use mathlib.Core.List.{List, [], ◌++◌, ◌∷◌, map}
use mathlib.Core.Logic.{◌≢◌}
use mathlib.Core.Path.{◌∙◌, ◌≡◌, ap, refl, subst, sym}
use native.Mathlib.Omega.{arith}
use Rattle.lists.proofs.Tabulate.{at-tabulate, length-tabulate}
use Rattle.image.specs.Layout.{card_count, control_size, image_size, layout}
use Rattle.mask.specs.Masks.{byte, has_card}
use Rattle.method.specs.MoveList.{no_list}
use Rattle.method.specs.OneRecordList.{is_last, is_stop, observe, settle_accepted, zeroed}
use Rattle.method.specs.PlainList.{PlainList, plain_next, plain_start}
use Rattle.method.specs.Rules.{Answer, Call, begin, commit, delete, fail, fit, get, load, move}
use Rattle.method.specs.Rules.{absent, copied, loaded, ok, place, placed, protected, refusal, refused, retired, rollback, row, settle, start, state, stops}
use Rattle.method.specs.Rules.{store, unplaced, unprotected, value, withdraw, unless_refused, State, next_state}
use Rattle.cabinet_rules.specs.Cabinet.{cabinet}
use Rattle.cabinet_rules.specs.Claims.{NoStopBy, NoisyCall, image_after, image_after_by, noisy, noisy_by, noisy_byte}
use Rattle.cabinet_rules.specs.Delivery.{current}
use Rattle.cabinet_rules.specs.Images.{Image, answer, card_by, control_in, form_by, next, next_by, refusal_by}
use Rattle.cabinet_rules.specs.MoveLists.{NeverSettles, NoneIsFinal, NoneIsFinalFromEarlier, list_answer_on, list_refusal}
use Rattle.cabinet_rules.proofs.MoveLists.{none-clear, none-is-final, none-is-final-from-earlier}
use Rattle.store.specs.MoveList.{NoneGoesOnOfCalls, NoneIsFinalOfCalls, NoneIsFinalOn}
use Rattle.store.specs.Runs.{IsRun, NeverStopped, NoneStops, RunCall, memory_left, meant_calls, memory_after, run_calls, run_steps}
use Rattle.cabinet_rules.proofs.Earlier.{earlier-sound}
use Rattle.cabinet_rules.proofs.Form.{current_laws}
use Rattle.cabinet_rules.proofs.Sound.{Sound, noise-sound, start-sound, step-sound}
use Rattle.cabinet_rules.proofs.StepsOn.{sound-return}
use Rattle.store.proofs.OneRecordList.{StaysAtReturns, Stepwise, kept-steps}
use Rattle.store.proofs.MoveRuns.{given}
use Rattle.store.proofs.MoveList.{rule_entry, given-moves, settle-given}

-- A call that lists moves leaves the memory as one that is refused: here a fit of a card that there is not.
abbrev idle : Call cabinet
idle = fit card_count

idle-leaves : (g : Image) → next idle g ≡ g
unfolding next_by refusal_by refusal
idle-leaves g = leaves (not (eqb (length g) image_size)) (not (form_by current g)) _
  where
    leaves : (a b : Bool) (changed : Image) → unless_refused (row 1 a (row 2 b 3)) g changed ≡ g
    leaves true b changed = refl
    leaves false true changed = refl
    leaves false false changed = refl

-- Noise that gives the bytes that are there.
still : Image → ℕ → ℕ
still g n = get_or g n 0

still-is : (g : Image) → noisy (still g) g ≡ g
unfolding still noisy_by noisy_byte
still-is g = ext_get_or 0 (noisy (still g) g) g (length-tabulate (length g) (noisy_byte current (still g) g)) (λ n h.
    let l : n < length g = omega (arith, h, length-tabulate (length g) (noisy_byte current (still g) g)) in
    at-tabulate (length g) (noisy_byte current (still g) g) n l ∙ either (leb control_size n && has_card (control_in g).failed (card_by layout n)) (get_or g n 0))
  where
    either : (b : Bool) (x : ℕ) → cond b x x ≡ x
    either true x = refl
    either false x = refl

-- Calls on g with no noise, and then others.
stepped : List (Call cabinet × Answer cabinet) → Image → List NoisyCall → List NoisyCall
stepped [] g l = l
stepped (s ∷ ss) g l = (still g, s.0) ∷ stepped ss (next s.0 g) l

-- The calls of a run on g as the rules are given them, each with the noise before it, and then this noise.
played : List RunCall → (ℕ → ℕ) → Image → List NoisyCall
played [] noise g = (noise, idle) ∷ []
played (r ∷ l) noise g =
    (r.noise, idle) ∷ stepped (meant_calls r.made) (noisy r.noise g) (played l noise (memory_left r.made (noisy r.noise g)))

-- A call whose answer is no stop ends no list of observations.
goes_on : (c : Call cabinet) (x : Answer cabinet) → is_stop cabinet x ≡ false → is_last cabinet (observe cabinet c x) ≡ false
goes_on (start m) x e = refl
goes_on (begin t h) x e = refl
goes_on (get t r) x e = refl
goes_on (store t r n) x e = refl
goes_on (delete t r) x e = refl
goes_on (commit t) x e = refl
goes_on (rollback t) x e = refl
goes_on (fit c) x e = refl
goes_on (withdraw c) x e = refl
goes_on (place m) x e = refl
goes_on (fail c) x e = e
goes_on (move c b) x e = refl
goes_on settle x e = refl
goes_on state x e = refl
goes_on (load c) x e = refl

no_stop : (a : Answer cabinet) → a ≢ stops → is_stop cabinet a ≡ false
no_stop ok n = refl
no_stop (value m) n = refl
no_stop absent n = refl
no_stop (placed m) n = refl
no_stop unplaced n = refl
no_stop stops n = absurd (n refl)
no_stop (copied m) n = refl
no_stop (retired m) n = refl
no_stop protected n = refl
no_stop unprotected n = refl
no_stop (loaded m) n = refl
no_stop (refused m) n = refl

-- What they leave, and that none of them stopped the store.
stepped-leaves : (ss : List (Call cabinet × Answer cabinet)) (g h : Image) → Stepwise ss g h → (l : List NoisyCall)
    → image_after (stepped ss g l) g ≡ image_after l h
unfolding stepped image_after_by Stepwise
stepped-leaves [] g h e l = ap (image_after l) (sym e)
stepped-leaves ((c, a) ∷ ss) g h e l =
    ap (λ (x : Image). image_after (stepped ss (next c g) l) (next c x)) (still-is g) ∙ stepped-leaves ss (next c g) h e.1 l

stepped-runs : (ss : List (Call cabinet × Answer cabinet)) (g h : Image) → Stepwise ss g h → NoneStops ss → (l : List NoisyCall) → NoStopBy current l h
    → NoStopBy current (stepped ss g l) g
unfolding stepped NoStopBy Stepwise NoneStops
stepped-runs [] g h e n l r = subst (NoStopBy current l) e r
stepped-runs ((c, a) ∷ ss) g h e n l r =
    subst (λ (x : Image). (is_last cabinet (observe cabinet c (answer c x)) ≡ false) × NoStopBy current (stepped ss (next c g) l) (next c x)) (sym (still-is g)) (
      goes_on c (answer c g) (ap (is_stop cabinet) (sym e.0) ∙ no_stop a n.0),
      stepped-runs ss (next c g) h e.1 n.1 l r,
    )

none-stop-first : (ss l : List (Call cabinet × Answer cabinet)) → NoneStops (ss ++ l) → NoneStops ss × NoneStops l
unfolding NoneStops
none-stop-first [] l n = (tt, n)
none-stop-first (s ∷ ss) l n = let h = none-stop-first ss l n.1 in ((n.0, h.0), h.1)

-- Where no call stops the store, it runs before each of them, so that returns change nothing.
steps-sound : (ss : List (Call cabinet × Answer cabinet)) (g h : Image) (z : State cabinet) (q : PlainList cabinet) → Sound current current_laws g z q → Stepwise ss g h → NoneStops ss
    → (y : State cabinet) × (p : PlainList cabinet) × Sound current current_laws h y p
unfolding Stepwise NoneStops
steps-sound [] g h z q s e n = (z, q, subst (λ (x : Image). Sound current current_laws x z q) (sym e) s)
steps-sound ((c, a) ∷ ss) g h z q s e n =
    let x = step-sound current current_laws g z q s c in
    steps-sound ss (next c g) h (next_state cabinet c z) (plain_next cabinet (settle_accepted cabinet z) c q)
    (x.goes_on (sym (ap (is_last cabinet) x.shows) ∙ goes_on c (answer c g) (ap (is_stop cabinet) (sym e.0) ∙ no_stop a n.0))) e.1 n.1

-- A run on a sound image, the store running before each call.
unfoldable Awake : List RunCall → Image → Type 0
Awake [] g = Unit {0}
Awake (r ∷ l) g = StaysAtReturns (noisy r.noise g) × Awake l (memory_left r.made (noisy r.noise g))

awake : (l : List RunCall) (g : Image) (z : State cabinet) (q : PlainList cabinet) → Sound current current_laws g z q → IsRun l g → NeverStopped l → Awake l g
unfolding Awake IsRun
awake [] g z q s e n = tt
awake (r ∷ l) g z q s e n =
    let G : Image = noisy r.noise g in
    let here : Sound current current_laws G z q = noise-sound current current_laws r.noise g z q s in
    let stays : StaysAtReturns G = λ c. sound-return c G z q here in
    let m = none-stop-first (meant_calls r.made) (run_steps l) n in
    let h = steps-sound (meant_calls r.made) G (memory_left r.made G) z q here (kept-steps r.made G stays e.0) m.0 in
    (stays, awake l (memory_left r.made G) h.0 h.1 h.2 e.1 m.1)

module _ (noise : ℕ → ℕ) where
  played-leaves : (l : List RunCall) (g : Image) → Awake l g → IsRun l g → image_after (played l noise g) g ≡ noisy noise (memory_after l g)
  unfolding played image_after_by memory_after IsRun Awake
  played-leaves [] g w e = idle-leaves (noisy noise g)
  played-leaves (r ∷ l) g w e =
      let G : Image = noisy r.noise g in
      let H : Image = memory_left r.made G in
      ap (image_after (stepped (meant_calls r.made) G (played l noise H))) (idle-leaves G)
      ∙ stepped-leaves (meant_calls r.made) G H (kept-steps r.made G w.0 e.0) (played l noise H) ∙ played-leaves l H w.1 e.1

  played-runs : (l : List RunCall) (g : Image) → Awake l g → IsRun l g → NeverStopped l → NoStopBy current (played l noise g) g
  unfolding played NoStopBy IsRun Awake
  played-runs [] g w e n = (refl, tt)
  played-runs (r ∷ l) g w e n =
      let G : Image = noisy r.noise g in
      let H : Image = memory_left r.made G in
      let m = none-stop-first (meant_calls r.made) (run_steps l) n in (
        refl,
        subst (NoStopBy current (stepped (meant_calls r.made) G (played l noise H))) (sym (idle-leaves G))
            (stepped-runs (meant_calls r.made) G H (kept-steps r.made G w.0 e.0) m.0 (played l noise H) (played-runs l H w.1 e.1 m.1)),
      )

-- Where 'none' is final after calls on an image, it is after a run.
none-final : (g : Image) (z : State cabinet) (q : PlainList cabinet) → Sound current current_laws g z q
    → ((l : List NoisyCall) → NoStopBy current l g → (room : ℕ) → list_answer_on room (image_after l g) ≡ no_list → NeverSettles (image_after l g))
    → NoneIsFinalOn g
unfolding NoneIsFinalOn NeverSettles
none-final g z q sound final l r runs noise lent filled list entries said t =
    settle-given here clear entries said t ∙ never (given (run_calls t.moves)) (map rule_entry entries) (given-moves here clear entries said t) t.noise
  where
    here : Image
    here = noisy noise (memory_after l g)

    clear : list_refusal here ≡ 0
    clear = (none-clear here (length lent) (sym list.answers)).0

    wake : Awake l g
    wake = awake l g z q sound r runs

    left : image_after (played l noise g) g ≡ here
    left = played-leaves noise l g wake r

    never : NeverSettles here
    never = subst NeverSettles left (final (played l noise g) (played-runs noise l g wake r runs) (length lent) (ap (list_answer_on (length lent)) left ∙ sym list.answers))

pub none-is-final-of-calls : NoneIsFinalOfCalls
unfolding NoneIsFinalOfCalls NoneIsFinal
none-is-final-of-calls m before behind d = rw d.leaves (none-final (next (start (byte m)) before) (zeroed cabinet (byte m)) (plain_start cabinet (byte m))
    (start-sound current current_laws (byte m) before (sym d.answers)) (none-is-final (byte m) before (sym d.answers)))

pub none-goes-on-of-calls : NoneGoesOnOfCalls
unfolding NoneGoesOnOfCalls NoneIsFinalFromEarlier
none-goes-on-of-calls s e = none-final s.image s.rules s.plain (earlier-sound s e) (none-is-final-from-earlier s e)
