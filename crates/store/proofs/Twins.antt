-- Twins agree, of the calls: an image that goes beside the rules and the plain record list shows them alike; where an earlier store had stopped, a call that keeps its
-- promise did what it means to the rules, which keep twins alike. Assumes nothing.
use Rattle.std.specs.Prelude.{Ok}
use Prim.Native.Nat.{suc, zero, ℕ}
use mathlib.Core.List.{List, [], ◌∷◌}
use mathlib.Core.Logic.{◌≢◌}
use mathlib.Core.Path.{◌∙◌, ◌≡◌, refl, subst, sym}
use Rattle.mask.specs.Masks.{byte}
use Rattle.method.specs.OneRecordList.{zeroed}
use Rattle.method.specs.PlainList.{or_refused, plain_start}
use Rattle.method.specs.Rules.{Answer, Call, ok, unless_refused}
use Rattle.cabinet_rules.specs.Cabinet.{cabinet}
use Rattle.cabinet_rules.specs.Claims.{noisy}
use Rattle.cabinet_rules.specs.Delivery.{current}
use Rattle.cabinet_rules.specs.Images.{Image, after_plan, next}
use Rattle.cabinet_rules.specs.Returns.{after_return_by, return_answer_by, return_plan_by, return_refusal_on}
use Rattle.cabinet_rules.specs.Twins.{TwinsOn}
use Rattle.cabinet_rules.proofs.ComesBack.{continues-twins}
use Rattle.cabinet_rules.proofs.Earlier.{tables-legible}
use Rattle.cabinet_rules.proofs.Form.{current_laws}
use Rattle.cabinet_rules.proofs.Twins.{AgreedImage, earlier-agreed, next-agreed, noise-agreed, twins-on}
use Rattle.promise.specs.Promise.{Answered, shown}
use Rattle.promise.specs.declared.Answer.TheVariants.{Accepted}
use Rattle.returns.specs.Promise.{ReturnDone}
use Rattle.store.specs.Runs.{IsRun, Kept, Made, RunCall, list_call, meant_calls, memory_after, memory_left, return_call, store_call, table_call, taken}
use Rattle.store.specs.Twins.{NoneCameBack, StaysAway, TwinsAgreeOfCalls, TwinsGoOnOfCalls, TwinsStayOfCalls}
use Rattle.store.proofs.OneRecordList.{Stepwise, converted-is}
use Rattle.store.proofs.ThroughStops.{Continued, begun, ok-shown, run-made, went_on}

-- ---- after a start, and from a running store of earlier deliveries
continued-twins : (g : Image) → Continued g → TwinsOn g
continued-twins g (z, q, t, c) = continues-twins g z q t c

-- TWINS AGREE
pub twins-agree-of-calls : TwinsAgreeOfCalls
unfolding TwinsAgreeOfCalls
twins-agree-of-calls m before behind d t l e i =
    continued-twins (memory_after l behind) (run-made l behind (zeroed cabinet (byte m)) (plain_start cabinet (byte m)) t (begun m before behind d t) e i).1

pub twins-go-on-of-calls : TwinsGoOnOfCalls
unfolding TwinsGoOnOfCalls
twins-go-on-of-calls s b left c t l e i = continued-twins (memory_after l left) (run-made l left (taken s).rules (taken s).plain t (went_on s b left c t) e i).1

-- ---- where no card came back
-- a return that did not say ok changed nothing
away : (c : ℕ) (a : Answered) (g left : Image) → ReturnDone c g a left → a ≢ Ok Accepted → left ≡ g
unfolding return_answer_by after_return_by
away c a g left d n = d.leaves ∙ go (return_refusal_on c g) d.answers
  where
    go : (k : ℕ) → shown a ≡ or_refused cabinet k ok → unless_refused k g (after_plan current (return_plan_by current c g) g) ≡ g
    go zero e = absurd (n (ok-shown a e))
    go (suc k) e = refl

kept-away : (m : Made) (g : Image) → Kept m g → StaysAway m → Stepwise (meant_calls m) g (memory_left m g)
unfolding Stepwise
kept-away (store_call c a left) g d s = (d.answers, d.leaves)
kept-away (table_call lines a left) g d s = (d.answers, d.leaves)
kept-away (return_call c a left) g d s = away c a g left d s
kept-away (list_call lent a filled) g d s = refl

-- the calls that one call means
steps-agreed : (ss : List (Call cabinet × Answer cabinet)) (g h : Image) → Stepwise ss g h → AgreedImage current current_laws g → AgreedImage current current_laws h
unfolding Stepwise
steps-agreed [] g h e a = subst (AgreedImage current current_laws) (sym e) a
steps-agreed ((c, x) ∷ ss) g h e a = steps-agreed ss (next c g) h e.1 (next-agreed current current_laws c g a)

-- a whole run
run-agreed : (l : List RunCall) (g : Image) → IsRun l g → NoneCameBack l → AgreedImage current current_laws g → AgreedImage current current_laws (memory_after l g)
unfolding IsRun memory_after
run-agreed [] g e n a = a
run-agreed (r ∷ l) g e n a =
    run-agreed l (memory_left r.made (noisy r.noise g)) e.1 n.1
    (steps-agreed (meant_calls r.made) (noisy r.noise g) (memory_left r.made (noisy r.noise g)) (kept-away r.made (noisy r.noise g) e.0 n.0)
    (noise-agreed current current_laws r.noise g a))

pub twins-stay-of-calls : TwinsStayOfCalls
unfolding TwinsStayOfCalls
twins-stay-of-calls g left e c l r n =
    twins-on (memory_after l left)
    (run-agreed l left r n (subst (AgreedImage current current_laws) (sym (converted-is g left (tables-legible g e) c)) (earlier-agreed g e)))
