-- When state answers protected, the proofs: by the plain record list's fields, by what fails would answer, and over a list of calls. Assumes
-- nothing.
use Prim.Native.Nat.{suc, ℕ}
use borrow.Author.Tests.{lt-ltb}
use lib.Dec.{ltb}
use mathlib.Core.Bool.{Bool, ◌&&◌, cond, false, not, true}
use mathlib.Core.Logic.{◌⊎◌, inl, inr}
use mathlib.Core.Path.{◌∙◌, ◌≡◌, ap, fun_ext, refl, sym}
use Rattle.lists.specs.Tests.{all_below}
use Rattle.lists.proofs.Bools.{and-when, split, tf}
use Rattle.method.specs.Changes.{Control, marked}
use Rattle.method.specs.OneRecordList.{plain_after, rules_after, state_after, calls_of, disturb, is_stop, zeroed}
use Rattle.method.specs.Parameters.{Parameters}
use Rattle.method.specs.PlainList.{PlainList, plain_protected, plain_start, stops_now}
use Rattle.method.specs.Protection.{ProtectedByFails, ProtectedByFields, ProtectedByPlainList, no_fail_stops, protection}
use Rattle.method.specs.Rules.{State, View, act, answer_of, fail, fail_plan, guarded, is_protected, look, stop_plan, unwritten}
use Rattle.method.specs.Rules.{next_state, placed, plan, refusal, row, start, state, stopping, stops, unplaced}
use Rattle.method.proofs.Laws.{Laws}
use Rattle.method.proofs.Reached.{Reached, ready-reached}
use Rattle.method.proofs.Run.{Ready, ready-noise}
use Rattle.method.proofs.StopRule.{stop-same}

module _ (P : Parameters) (L : Laws P) where
  open P use {cards, has, mask, without}
  open L use {has-card}

  card-ok : (k : Control P) (c : ℕ) → has k.working c ≡ true → ltb c cards ≡ true
  card-ok k c on = lt-ltb c cards (has-card k.working c on)

  -- ---- by the plain record list's fields
  pub protected-by-fields : ProtectedByFields P
  unfolding ProtectedByFields is_protected plain_protected
  protected-by-fields q =
      let k = q.control in
      ap (λ (f : ℕ → Bool). all_below cards (λ c. not (f c)))
      (fun_ext (λ c. and-when (has k.working c) (stopping P k c) (stops_now P k c) (λ on. sym (stop-same P L k c (card-ok k c on)))))

  -- ---- by what fails would answer
  module _ (k : Control P) (v : View P) (run : k.stopped ≡ false) where
    -- a fail answers 'stopped' exactly where the card works and the stop rule says so
    pub fail-stops : (c : ℕ) → is_stop P (plan P (fail c) k v).answer ≡ (has k.working c && stopping P k c)
    unfolding plan act
    fail-stops c = go (split (has k.working c))
      where
        said : ℕ → Bool
        said n = is_stop P (guarded P n k (act P (fail c) k v)).answer

        taken : has k.working c ≡ true → refusal P (fail c) k v ≡ 0
        taken on = unfold refusal in (rw (on, card-ok k c on, run))

        not_taken : has k.working c ≡ false → (n : ℕ) × (refusal P (fail c) k v ≡ suc n)
        not_taken off = unfold refusal in (rw (off, run) (rows (not (ltb c cards))))
          where
            rows : (out : Bool) → (n : ℕ) × (row 3 out 8 ≡ suc n)
            rows true = (2, refl)
            rows false = (7, refl)

        goes_on : (b : Bool) → is_stop P (cond b (placed (mask (without k.newest c))) unplaced) ≡ false
        goes_on true = refl
        goes_on false = refl

        stop : (s t : Bool) → s ≡ false → is_stop P (cond s (unwritten P stops (marked P k c)) (cond t (stop_plan P k v c) (fail_plan P k v c))).answer ≡ t
        stop true t z = tf true refl z
        stop false true z = refl
        stop false false z = goes_on (has (mask k.newest) c)

        go : (has k.working c ≡ true) ⊎ (has k.working c ≡ false) → said (refusal P (fail c) k v) ≡ (has k.working c && stopping P k c)
        go (inl on) = ap said (taken on) ∙ rw on (stop k.stopped (stopping P k c) run)
        go (inr off) = ap said (not_taken off).1 ∙ rw off

    state-word : (plan P state k v).answer ≡ protection P (is_protected P k)
    unfolding plan act
    state-word = ap (λ (n : ℕ). (guarded P n k (act P state k v)).answer) taken
      where
        taken : refusal P state k v ≡ 0
        taken = unfold refusal in (rw run)

  pub protected-by-fails : ProtectedByFails P
  unfolding ProtectedByFails no_fail_stops answer_of
  protected-by-fails s run = state-word s.control (look P s) run ∙ unfold is_protected in
      (ap (λ (f : ℕ → Bool). protection P (all_below cards (λ c. not (f c)))) (fun_ext (λ c. sym (fail-stops s.control (look P s) run c))))

  -- ---- by the plain record list that was fed the same calls
  -- a store that is ready answers the word of the plain list beside it
  pub state-ready : (s z : State P) (q : PlainList P) → Ready P L s z q → answer_of P state s ≡ protection P (plain_protected P q)
  unfolding answer_of
  state-ready s z q r =
      let same : s.control ≡ q.control = r.store_beside.same-control in
      let fields : is_protected P q.control ≡ plain_protected P q = unfold ProtectedByFields in (protected-by-fields q) in
      state-word s.control (look P s) (ap (λ (k : Control P). k.stopped) same ∙ r.inv.form.base.running)
      ∙ ap (λ (k : Control P). protection P (is_protected P k)) same ∙ ap (protection P) fields

  pub protected-by-plain-list : ProtectedByPlainList P
  unfolding ProtectedByPlainList
  protected-by-plain-list a before e l runs noise =
      let s : State P = state_after P l (next_state P (start a) before) in
      let z : State P = rules_after P (calls_of P l) (zeroed P a) in
      let q : PlainList P = plain_after P (calls_of P l) (zeroed P a) (plain_start P a) in
      let r : Reached P s = record { argument = a; before = before; begins = e; since = l; running = runs; is = refl } in
      state-ready (disturb P noise s) z q (ready-noise P L noise s z q (ready-reached P L s r))
