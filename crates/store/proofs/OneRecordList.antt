-- Demand 3 of the calls: a call that keeps its promise did what it means to the rules, and the rules keep an image sound; so a run shows what the
-- plain record list shows. A kind of call enters by its clause of `kept-steps` alone. Assumes nothing.
use Prim.Native.Nat.{ℕ}
use mathlib.Core.Bool.{Bool, cond, false, true}
use mathlib.Core.List.{List, [], ◌++◌, ◌∷◌, map}
use mathlib.Core.Path.{◌∙◌, ◌≡◌, ap, refl, subst, sym}
use Rattle.mask.specs.Masks.{byte}
use Rattle.method.specs.OneRecordList.{Observation, is_last, observe, plain_observe, run_plain, settle_accepted, zeroed}
use Rattle.method.specs.PlainList.{PlainList, plain_next, plain_start}
use Rattle.method.specs.Rules.{Answer, Call, State, next_state}
use Rattle.cabinet_rules.specs.Cabinet.{cabinet}
use Rattle.cabinet_rules.specs.Claims.{noisy}
use Rattle.cabinet_rules.specs.Delivery.{current, resuming}
use Rattle.cabinet_rules.specs.Images.{Image, answer, next}
use Rattle.cabinet_rules.specs.Converting.{stamped_image}
use Rattle.cabinet_rules.specs.Retired.{by_tables}
use Rattle.cabinet_rules.specs.Returns.{after_return_on}
use Rattle.cabinet_rules.proofs.Earlier.{converted-legible, earlier-sound, tables-sound}
use Rattle.cabinet_rules.proofs.Legible.{Legible}
use Rattle.cabinet_rules.proofs.Form.{current_laws}
use Rattle.cabinet_rules.proofs.Sound.{Sound, ImageStep, noise-sound, start-sound, step-sound}
use Rattle.store.specs.Runs.{Converted, GoesOnOfCalls, IsRun, Kept, Made, OneRecordListOfCalls, RunCall, memory_left, list_call, meant_calls, observed, observed_in}
use Rattle.cabinet_rules.proofs.StepsOn.{sound-return}
use Rattle.cabinet_rules.proofs.Tables.{table_laws}
use Rattle.store.specs.Runs.{return_call, run_calls, run_steps, store_call, table_call, taken}

-- These calls were answered so, one after the other on g, and left h.
unfoldable pub Stepwise : List (Call cabinet × Answer cabinet) → Image → Image → Type 0
Stepwise [] g h = h ≡ g
Stepwise (s ∷ l) g h = (s.1 ≡ answer s.0 g) × Stepwise l (next s.0 g) h

-- A return changes nothing there, as while the store runs.
abbrev pub StaysAtReturns : Image → Type 0
StaysAtReturns g = (c : ℕ) → after_return_on c g ≡ g

-- A call that kept its promise did what it means to the rules.
pub kept-steps : (m : Made) (g : Image) → StaysAtReturns g → Kept m g → Stepwise (meant_calls m) g (memory_left m g)
unfolding Stepwise
kept-steps (store_call c a left) g r d = (d.answers, d.leaves)
kept-steps (table_call lines a left) g r d = (d.answers, d.leaves)
kept-steps (return_call c a left) g r d = d.leaves ∙ r c
kept-steps (list_call lent a filled) g r d = refl

-- Calls on an image that is sound show what the plain record list shows, if the calls behind them do.
steps-observed : (ss l : List (Call cabinet × Answer cabinet)) (g h : Image) (z : State cabinet) (q : PlainList cabinet) → Sound current current_laws g z q
    → Stepwise ss g h
    → ((y : State cabinet) (p : PlainList cabinet) → Sound current current_laws h y p → observed_in l ≡ run_plain cabinet (map (λ s. s.0) l) y p)
    → observed_in (ss ++ l) ≡ run_plain cabinet (map (λ s. s.0) (ss ++ l)) z q
unfolding observed_in run_plain Stepwise
steps-observed [] l g h z q s e behind = behind z q (rw e s)
steps-observed ((c, a) ∷ ss) l g h z q s e behind = rw (ap (observe cabinet c) e.0 ∙ x.shows) (last (is_last cabinet (plain_observe cabinet c q)) refl
    (λ t. steps-observed ss l (next c g) h y p t e.1 behind))
  where
    x : ImageStep current current_laws g z q c
    x = step-sound current current_laws g z q s c

    y : State cabinet
    y = next_state cabinet c z

    p : PlainList cabinet
    p = plain_next cabinet (settle_accepted cabinet z) c q

    last : (o : Bool) → is_last cabinet (plain_observe cabinet c q) ≡ o
        → (Sound current current_laws (next c g) y p → observed_in (ss ++ l) ≡ run_plain cabinet (map (λ s. s.0) (ss ++ l)) y p)
        → ◌≡◌ {A = List (Observation cabinet)} (plain_observe cabinet c q ∷ cond o [] (observed_in (ss ++ l)))
        (plain_observe cabinet c q ∷ cond o [] (run_plain cabinet (map (λ s. s.0) (ss ++ l)) y p))
    last true i rest = refl
    last false i rest = ap (λ (t : List (Observation cabinet)). plain_observe cabinet c q ∷ t) (rest (x.goes_on i))

-- So from an image that is sound a run shows what the plain record list shows.
run-observed : (l : List RunCall) (g : Image) (z : State cabinet) (q : PlainList cabinet) → Sound current current_laws g z q → IsRun l g
    → observed l ≡ run_plain cabinet (run_calls l) z q
unfolding IsRun observed_in run_plain
run-observed [] g z q s e = refl
run-observed (r ∷ l) g z q s e =
    steps-observed (meant_calls r.made) (run_steps l) (noisy r.noise g) (memory_left r.made (noisy r.noise g)) z q
    here (kept-steps r.made (noisy r.noise g) (λ c. sound-return c (noisy r.noise g) z q here) e.0)
    (λ y p t. run-observed l (memory_left r.made (noisy r.noise g)) y p t e.1)
  where
    here : Sound current current_laws (noisy r.noise g) z q
    here = noise-sound current current_laws r.noise g z q s

-- What the converter of today leaves of an image of A.6.
pub converted-is : (g left : Image) → Legible by_tables table_laws g → Converted g left → left ≡ stamped_image g
converted-is g left s c = c.done.leaves ∙ converted-legible by_tables resuming table_laws g c.lent s c.room stamped_image

-- DEMAND 3, going on from a store that earlier deliveries left
pub goes-on-of-calls : GoesOnOfCalls
unfolding GoesOnOfCalls
goes-on-of-calls s e left c l =
    let is : left ≡ stamped_image s.image = converted-is s.image left (tables-sound s e).seen c in
    run-observed l left (taken s).rules (taken s).plain
    (subst (λ (g : Image). Sound current current_laws g (taken s).rules (taken s).plain) (sym is)
    (earlier-sound (taken s) (record { was = s; left = e; is = refl })))

-- DEMAND 3
pub one-record-list-of-calls : OneRecordListOfCalls
unfolding OneRecordListOfCalls
one-record-list-of-calls m before behind d l =
    run-observed l behind (zeroed cabinet (byte m)) (plain_start cabinet (byte m))
    (rw d.leaves (start-sound current current_laws (byte m) before (sym d.answers)))
