-- Calls told apart as a stop needs it: a start, a fail, and any other, which never stops the store and which a stopped store refuses, 3 before
-- 4. Assumes nothing.
use Prim.Native.Nat.{suc, ℕ}
use mathlib.Core.Bool.{Bool, false, true}
use mathlib.Core.Option.{none}
use mathlib.Core.Path.{◌∙◌, ◌≡◌, ap, refl}
use Rattle.method.specs.Changes.{Control}
use Rattle.method.specs.OneRecordList.{is_last, plain_observe}
use Rattle.method.specs.Parameters.{Parameters}
use Rattle.method.specs.PlainList.{PlainList}
use Rattle.method.specs.Rules.{Call, Plan, State, View, act, answer_of, apply, begin, commit, delete, fail, fit, get, guarded, is_halted}
use Rattle.method.specs.Rules.{is_start, later_rows, load, look, move, next_state, out_of_range, place, plan, refusal, refused, rollback, row}
use Rattle.method.specs.Rules.{settle, start, state, store, withdraw}
use Rattle.method.specs.ThroughStops.{fail_card}

module _ (P : Parameters) where
  open P use {StartArgument}

  -- neither a start nor a fail
  pub record Plainly (c : Call P) : Type 0 where
    pub no_start : is_start c ≡ false
    pub no-fail : fail_card P c ≡ none
    pub halts : (k : Control P) → is_halted P c k ≡ k.stopped
    pub no_stop : (q : PlainList P) → is_last P (plain_observe P c q) ≡ false

  pub by_kind : (Q : Call P → Type 0) → ((a : StartArgument) → Q (start a)) → ((x : ℕ) → Q (fail x)) → ((c : Call P) → Plainly c → Q c) → (c : Call P) → Q c
  unfolding plain_observe
  by_kind Q s f o (start a) = s a
  by_kind Q s f o (begin t h) = o (begin t h) (record { no_start = refl; no-fail = refl; halts = λ k. refl; no_stop = λ q. refl })
  by_kind Q s f o (get t r) = o (get t r) (record { no_start = refl; no-fail = refl; halts = λ k. refl; no_stop = λ q. refl })
  by_kind Q s f o (store t r n) = o (store t r n) (record { no_start = refl; no-fail = refl; halts = λ k. refl; no_stop = λ q. refl })
  by_kind Q s f o (delete t r) = o (delete t r) (record { no_start = refl; no-fail = refl; halts = λ k. refl; no_stop = λ q. refl })
  by_kind Q s f o (commit t) = o (commit t) (record { no_start = refl; no-fail = refl; halts = λ k. refl; no_stop = λ q. refl })
  by_kind Q s f o (rollback t) = o (rollback t) (record { no_start = refl; no-fail = refl; halts = λ k. refl; no_stop = λ q. refl })
  by_kind Q s f o (fit c) = o (fit c) (record { no_start = refl; no-fail = refl; halts = λ k. refl; no_stop = λ q. refl })
  by_kind Q s f o (withdraw c) = o (withdraw c) (record { no_start = refl; no-fail = refl; halts = λ k. refl; no_stop = λ q. refl })
  by_kind Q s f o (place a) = o (place a) (record { no_start = refl; no-fail = refl; halts = λ k. refl; no_stop = λ q. refl })
  by_kind Q s f o (fail c) = f c
  by_kind Q s f o (move c b) = o (move c b) (record { no_start = refl; no-fail = refl; halts = λ k. refl; no_stop = λ q. refl })
  by_kind Q s f o settle = o settle (record { no_start = refl; no-fail = refl; halts = λ k. refl; no_stop = λ q. refl })
  by_kind Q s f o state = o state (record { no_start = refl; no-fail = refl; halts = λ k. refl; no_stop = λ q. refl })
  by_kind Q s f o (load c) = o (load c) (record { no_start = refl; no-fail = refl; halts = λ k. refl; no_stop = λ q. refl })

  -- ---- refused calls
  -- a refused call changes nothing and answers its number
  pub refused-next : (c : Call P) (s : State P) (n : ℕ) → refusal P c s.control (look P s) ≡ suc n → next_state P c s ≡ s
  unfolding next_state apply plan
  refused-next c s n e = rw e

  pub refused-answer : (c : Call P) (s : State P) (n : ℕ) → refusal P c s.control (look P s) ≡ suc n → answer_of P c s ≡ refused (suc n)
  unfolding answer_of plan
  refused-answer c s n e = ap (λ (i : ℕ). (guarded P i s.control (act P c s.control (look P s))).answer) e

  -- what a call leaves, and what it answers, by its plan
  pub next-by : (c : Call P) (s : State P) (p : Plan P) → plan P c s.control (look P s) ≡ p → next_state P c s ≡ apply P p s
  unfolding next_state
  next-by c s p e = ap (λ (y : Plan P). apply P y s) e

  pub answer-by : (c : Call P) (s : State P) (p : Plan P) → plan P c s.control (look P s) ≡ p → answer_of P c s ≡ p.answer
  unfolding answer_of
  answer-by c s p e = ap (λ (y : Plan P). y.answer) e

  -- by a stopped store: all but start and fail, 3 or 4
  abbrev pub shut-number : Bool → ℕ
  shut-number true = 2
  shut-number false = 3

  pub shut_row : (b : Bool) → row 3 b 4 ≡ suc (shut-number b)
  shut_row true = refl
  shut_row false = refl

  pub shut-refusal : (c : Call P) → Plainly c → (k : Control P) (v : View P) → k.stopped ≡ true → refusal P c k v ≡ row 3 (out_of_range P c k) 4
  unfolding refusal
  shut-refusal c p k v e = ap (λ (b : Bool). row 3 (out_of_range P c k) (row 4 b (later_rows P c k v))) (p.halts k) ∙ ap (λ (b : Bool). row 3 (out_of_range P c k) (row 4 b (later_rows P c k v))) e
