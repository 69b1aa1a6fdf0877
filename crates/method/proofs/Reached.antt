-- States that are reached by calls from a start: the store there has the invariant, beside the plain list that the same calls leave.
-- Assumes nothing.
use mathlib.Core.List.{List, [], ◌∷◌}
use mathlib.Core.Path.{◌∙◌, ◌≡◌, ap, sym}
use Rattle.method.specs.OneRecordList.{NoStop, plain_after, rules_after, state_after}
use Rattle.method.specs.OneRecordList.{Noise, calls_of, disturb, is_last, settle_accepted, zeroed}
use Rattle.method.specs.Parameters.{Parameters}
use Rattle.method.specs.PlainList.{PlainList, plain_next, plain_start}
use Rattle.method.specs.Rules.{Call, State, answer_of, next_state, ok, start}
use Rattle.method.proofs.Laws.{Laws}
use Rattle.method.proofs.Run.{Ready, accepted-start, next_start, ready-noise, ready-start, ready-step}

module _ (P : Parameters) where
  open P use {StartArgument}

  pub record Reached (s : State P) : Type 0 where
    pub argument : StartArgument
    pub before : State P
    pub begins : answer_of P (start argument) before ≡ ok
    pub since : List (Noise P × Call P)
    pub running : NoStop P since (next_state P (start argument) before)
    pub is : state_after P since (next_state P (start argument) before) ≡ s

module _ (P : Parameters) (L : Laws P) where
  -- a list of calls that does not stop the store leaves it ready
  pub ready-after : (l : List (Noise P × Call P)) (s z : State P) (q : PlainList P) → Ready P L s z q → NoStop P l s
      → Ready P L (state_after P l s) (rules_after P (calls_of P l) z) (plain_after P (calls_of P l) z q)
  unfolding state_after NoStop rules_after plain_after
  ready-after [] s z q r h = r
  ready-after (e ∷ l) s z q r h =
      let st = ready-step P L (disturb P e.0 s) z q (ready-noise P L e.0 s z q r) e.1 in
      ready-after l (next_state P e.1 (disturb P e.0 s)) (next_state P e.1 z) (plain_next P (settle_accepted P z) e.1 q)
      (st.goes_on (sym (ap (is_last P) st.shows) ∙ h.0)) h.1

  -- so every state that is reached has the invariant
  pub ready-reached : (s : State P) (r : Reached P s)
      → Ready P L s (rules_after P (calls_of P r.since) (zeroed P r.argument))
      (plain_after P (calls_of P r.since) (zeroed P r.argument) (plain_start P r.argument))
  ready-reached s r =
      let h = accepted-start P L r.argument r.before r.begins in
      let first : Ready P L (next_state P (start r.argument) r.before) (zeroed P r.argument) (plain_start P r.argument) =
      rw (next_start P L r.argument r.before h) (ready-start P L r.argument h) in
      rw (← r.is) (ready-after r.since (next_state P (start r.argument) r.before) (zeroed P r.argument) (plain_start P r.argument) first r.running)
