-- Demand 3 through stops, of the calls: a call that kept its promise did what its step means to the rules, on an image that goes beside them and the plain record
-- list; so a run shows what the list shows, and leaves an image that goes on so. Assumes nothing.
use Rattle.std.specs.Prelude.{Ok, Err}
use Prim.Native.Nat.{suc, zero, ℕ}
use mathlib.Core.Bool.{false, true}
use mathlib.Core.List.{List, [], ◌++◌, ◌∷◌}
use mathlib.Core.Path.{◌∙◌, ◌≡◌, ap, refl, subst, sym}
use native.Mathlib.Omega.{arith}
use Rattle.lists.proofs.Bools.{tf}
use Rattle.mask.specs.Masks.{byte}
use Rattle.method.specs.OneRecordList.{Observation, is_zero, observe, settle_accepted, zeroed}
use Rattle.method.specs.PlainList.{PlainList, or_refused, plain_start}
use Rattle.method.specs.Rules.{Answer, Call, State, ok, place, refused, start}
use Rattle.method.specs.ThroughStops.{Step, after_step, call, plain_observed, plain_step, return, run_plain_through}
use Rattle.cabinet_rules.specs.Cabinet.{cabinet}
use Rattle.cabinet_rules.specs.Claims.{noisy}
use Rattle.cabinet_rules.specs.Delivery.{current}
use Rattle.cabinet_rules.specs.Images.{Image, next}
use Rattle.cabinet_rules.specs.GoesOn.{LeftByTables, StoreBy}
use Rattle.cabinet_rules.specs.Places.{by_lines}
use Rattle.cabinet_rules.specs.Retired.{by_tables}
use Rattle.cabinet_rules.specs.Returns.{after_return_on, return_answer_by, return_refusal_on}
use Rattle.cabinet_rules.specs.ThroughStops.{AsRecordedBy, after_step_by, observed_by, recorded_byte, takes_by}
use Rattle.cabinet_rules.proofs.Earlier.{tables-sound}
use Rattle.cabinet_rules.proofs.GoesThrough.{Continues, start-continues, tables-continue}
use Rattle.cabinet_rules.proofs.StepsOn.{GoesOn, counts-on, noise-continues, passes_on, recorded-still, step-continues}
use Rattle.promise.specs.Promise.{Answered, Done, asked, shown}
use Rattle.promise.specs.declared.Answer.TheVariants.{Absent, Copied, Loaded, Accepted, Placed, Protected, Retired}
use Rattle.promise.specs.declared.Answer.TheVariants.{Stopped, Unplaced, Unprotected, Value}
use Rattle.returns.specs.Promise.{ReturnDone}
use Rattle.store.specs.Runs.{Converted, IsRun, Kept, Made, RunCall, list_call, memory_after, memory_left, return_call, store_call, table_call, taken}
use Rattle.store.specs.ThroughStops.{CameBackWhole, CardsIntact, GoesOnThroughStopsOfCalls, OneRecordListThroughStopsOfCalls, meant_steps, observed_of}
use Rattle.store.specs.ThroughStops.{observed_through, return_steps, run_steps_through}
use Rattle.store.proofs.OneRecordList.{converted-is}

-- ---- the answer of a return
-- ok is shown by one answer, and a refusal is no step
pub ok-shown : (a : Answered) → shown a ≡ ok → a ≡ Ok Accepted
ok-shown (Ok Accepted) e = refl
ok-shown (Ok (Value n)) e = let z : ◌≡◌ {A = ℕ} 0 1 = cc in absurd (omega arith)
ok-shown (Ok Absent) e = let z : ◌≡◌ {A = ℕ} 0 1 = cc in absurd (omega arith)
ok-shown (Ok (Placed m)) e = let z : ◌≡◌ {A = ℕ} 0 1 = cc in absurd (omega arith)
ok-shown (Ok Unplaced) e = let z : ◌≡◌ {A = ℕ} 0 1 = cc in absurd (omega arith)
ok-shown (Ok Stopped) e = let z : ◌≡◌ {A = ℕ} 0 1 = cc in absurd (omega arith)
ok-shown (Ok (Copied n)) e = let z : ◌≡◌ {A = ℕ} 0 1 = cc in absurd (omega arith)
ok-shown (Ok (Retired n)) e = let z : ◌≡◌ {A = ℕ} 0 1 = cc in absurd (omega arith)
ok-shown (Ok Protected) e = let z : ◌≡◌ {A = ℕ} 0 1 = cc in absurd (omega arith)
ok-shown (Ok Unprotected) e = let z : ◌≡◌ {A = ℕ} 0 1 = cc in absurd (omega arith)
ok-shown (Ok (Loaded n)) e = let z : ◌≡◌ {A = ℕ} 0 1 = cc in absurd (omega arith)
ok-shown (Err r) e = let z : ◌≡◌ {A = ℕ} 0 1 = cc in absurd (omega arith)

no_step : (c n : ℕ) (a : Answered) → shown a ≡ refused n → return_steps c a ≡ []
no_step c n (Ok Accepted) e = let z : ◌≡◌ {A = ℕ} 0 1 = cc in absurd (omega arith)
no_step c n (Ok (Value m)) e = refl
no_step c n (Ok Absent) e = refl
no_step c n (Ok (Placed m)) e = refl
no_step c n (Ok Unplaced) e = refl
no_step c n (Ok Stopped) e = refl
no_step c n (Ok (Copied m)) e = refl
no_step c n (Ok (Retired m)) e = refl
no_step c n (Ok Protected) e = refl
no_step c n (Ok Unprotected) e = refl
no_step c n (Ok (Loaded m)) e = refl
no_step c n (Err r) e = refl

-- ---- one call
-- What it shows, and where the rules, the plain list and the memory go on, whatever is behind it.
pub record Made-on (m : Made) (g : Image) (z : State cabinet) (q : PlainList cabinet) (t : ℕ → ℕ) : Type 0 where
  pub rules : State cabinet
  pub plain : PlainList cabinet
  pub shows : (l : List (Step cabinet)) (o : List (Observation cabinet)) → o ≡ run_plain_through cabinet l rules plain
      → observed_of m ++ o ≡ run_plain_through cabinet (meant_steps m ++ l) z q
  pub goes : Continues (memory_left m g) rules plain (recorded_byte current g (memory_left m g) t)

module _ (g : Image) (z : State cabinet) (q : PlainList cabinet) (t : ℕ → ℕ) (c : Continues g z q t) where
  -- the memory that was left is the one after the step
  left_is : (left h : Image) (y : State cabinet) (p : PlainList cabinet) → left ≡ h → Continues h y p (recorded_byte current g h t) → Continues left y p (recorded_byte current g left t)
  left_is left h y p e = subst (λ (x : Image). Continues x y p (recorded_byte current g x t)) (sym e)

  -- a call of the rules
  called : (x : Call cabinet) (a : Answered) (left : Image) → Done x g a left → GoesOn g z q t (call x)
      → (m : Made) → memory_left m g ≡ left → observed_of m ≡ observe cabinet x (shown a) ∷ [] → meant_steps m ≡ call x ∷ [] → Made-on m g z q t
  unfolding observed_by after_step_by run_plain_through
  called x a left d (counts-on n o h) m e om sm = record {
    rules = after_step cabinet (call x) z;
    plain = plain_step cabinet (settle_accepted cabinet z) (call x) q;
    shows = λ l r i. rw (om, sm, i) (ap (λ (y : List (Observation cabinet)). y ++ run_plain_through cabinet l (after_step cabinet (call x) z) (plain_step cabinet (settle_accepted cabinet z) (call x) q))
        (ap (λ (y : Answer cabinet). observe cabinet x y ∷ []) d.answers ∙ o));
    goes = left_is (memory_left m g) (next x g) _ _ (e ∙ d.leaves) h;
  }
  called x a left d (passes_on n o h) m e om sm = tf true refl n

  -- a return: taken or refused, as its answer says
  returned : (card : ℕ) (a : Answered) (left : Image) → ReturnDone card g a left → CameBackWhole (return_call card a left) g t → Made-on (return_call card a left) g z q t
  unfolding CameBackWhole return_answer_by AsRecordedBy takes_by after_step_by run_plain_through plain_observed
  returned card a left d w = go (return_refusal_on card g) refl (step-continues g z q t c (return card) (λ i. w (ok-shown a (d.answers ∙ taken-ok (return_refusal_on card g) i))))
    where
      taken-ok : (n : ℕ) → is_zero n ≡ true → or_refused cabinet n ok ≡ ok
      taken-ok zero i = refl
      taken-ok (suc n) i = tf false i refl

      go : (n : ℕ) → return_refusal_on card g ≡ n → GoesOn g z q t (return card) → Made-on (return_call card a left) g z q t
      go zero e (counts-on n o h) = record {
        rules = after_step cabinet (return card) z;
        plain = plain_step cabinet (settle_accepted cabinet z) (return card) q;
        shows = λ l r i. rw (ok-shown a (d.answers ∙ ap (λ (k : ℕ). or_refused cabinet k ok) e)) i;
        goes = left_is left (after_return_on card g) _ _ d.leaves h;
      }
      go zero e (passes_on n o h) = tf (is_zero (return_refusal_on card g)) (ap is_zero e) n
      go (suc k) e (counts-on n o h) = tf (is_zero (return_refusal_on card g)) n (ap is_zero e)
      go (suc k) e (passes_on n o h) = record {
        rules = z;
        plain = q;
        shows = λ l r i. rw (no_step card (suc k) a (d.answers ∙ ap (λ (j : ℕ). or_refused cabinet j ok) e)) i;
        goes = left_is left (after_return_on card g) _ _ d.leaves h;
      }

  pub made-on : (m : Made) → Kept m g → CameBackWhole m g t → Made-on m g z q t
  unfolding AsRecordedBy
  made-on (store_call x a left) d w = called (asked x) a left d (step-continues g z q t c (call (asked x)) tt) (store_call x a left) refl refl refl
  made-on (table_call lines a left) d w = called (place (by_lines lines)) a left d (step-continues g z q t c (call (place (by_lines lines))) tt) (table_call lines a left) refl refl refl
  made-on (return_call card a left) d w = returned card a left d w
  made-on (list_call lent a filled) d w = record {
    rules = z;
    plain = q;
    shows = λ l r i. i;
    goes = subst (Continues g z q) (sym (recorded-still g t)) c;
  }

-- ---- a run
-- An image that goes on beside some run of the rules and some plain list.
abbrev pub Continued : Image → Type 0
Continued g = (z : State cabinet) × (q : PlainList cabinet) × (t : ℕ → ℕ) × Continues g z q t

pub run-made : (l : List RunCall) (g : Image) (z : State cabinet) (q : PlainList cabinet) (t : ℕ → ℕ) → Continues g z q t → IsRun l g → CardsIntact l g t
    → (observed_through l ≡ run_plain_through cabinet (run_steps_through l) z q) × Continued (memory_after l g)
unfolding IsRun CardsIntact memory_after run_plain_through
run-made [] g z q t c e i = (refl, (z, q, t, c))
run-made (r ∷ l) g z q t c e i =
    let G : Image = noisy r.noise g in
    let x : Made-on r.made G z q t = made-on G z q t (noise-continues r.noise g z q t c) r.made e.0 i.0 in
    let h = run-made l (memory_left r.made G) x.rules x.plain (recorded_byte current G (memory_left r.made G) t) x.goes e.1 i.1 in
    (x.shows (run_steps_through l) (observed_through l) h.0, h.1)

-- ---- where it begins
pub begun : (m : ℕ) (before behind : Image) → Done (start (byte m)) before (Ok Accepted) behind → (t : ℕ → ℕ)
    → Continues behind (zeroed cabinet (byte m)) (plain_start cabinet (byte m)) t
begun m before behind d t = rw d.leaves (start-continues (byte m) before (sym d.answers) t)

-- DEMAND 3 THROUGH STOPS
pub one-record-list-through-stops-of-calls : OneRecordListThroughStopsOfCalls
unfolding OneRecordListThroughStopsOfCalls
one-record-list-through-stops-of-calls m before behind d t l e i =
    (run-made l behind (zeroed cabinet (byte m)) (plain_start cabinet (byte m)) t (begun m before behind d t) e i).0

pub went_on : (s : StoreBy by_tables) → LeftByTables s → (left : Image) → Converted s.image left → (t : ℕ → ℕ) → Continues left (taken s).rules (taken s).plain t
went_on s b left c t = rw (converted-is s.image left (tables-sound s b).seen c) (tables-continue s b t)

pub goes-on-through-stops-of-calls : GoesOnThroughStopsOfCalls
unfolding GoesOnThroughStopsOfCalls
goes-on-through-stops-of-calls s b left c t l e i = (run-made l left (taken s).rules (taken s).plain t (went_on s b left c t) e i).0
