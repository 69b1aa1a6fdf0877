-- When state answers protected (request A.2): the same by counts, and the statements. Assumes nothing.
use Rattle.std.specs.Prelude.{suc, ltb, Bool, ◌&&◌, cond, false, not, List, ◌≡◌}
use Rattle.lists.specs.Tests.{all_in, all_below, count_below}
use Rattle.method.specs.Changes.{Control}
use Rattle.method.specs.ControlPart.{active}
use Rattle.method.specs.OneRecordList.{NoStop, plain_after, state_after, Noise, calls_of, disturb, is_stop, zeroed}
use Rattle.method.specs.Parameters.{Parameters}
use Rattle.method.specs.PlainList.{PlainList, plain_protected, plain_start}
use Rattle.method.specs.Rules.{Answer, Call, State, answer_of, fail, is_protected, next_state, ok, protected}
use Rattle.method.specs.Rules.{start, state, unprotected}

module _ (P : Parameters) where
  open P use {Mask, Placement, Setting, Serial, StartArgument, cards, copies, has, mask}

  -- A placement with this mask withstands the failure of any one of its working cards: with one failed member more they
  -- are still fewer than copies, and with one working member less still as many.
  unfoldable pub withstands : Setting → Mask → Mask → Mask → Bool
  withstands σ working failed m =
      ltb (suc (count_below cards (λ c. has m c && has failed c))) (copies σ)
      && ltb (copies σ) (count_below cards (λ c. has m c && has working c))

  -- Every active placement withstands it.
  abbrev pub all_withstand : Control P → Bool
  all_withstand k = all_in (λ p. withstands k.setting k.working k.failed (mask p)) (active k)

  -- The word of state.
  abbrev pub protection : Bool → Answer P
  protection t = cond t protected unprotected

  -- No fail would answer 'stopped' (one of a card that does not work is refused).
  unfoldable pub no_fail_stops : State P → Bool
  no_fail_stops s = all_below cards (λ c. not (is_stop P (answer_of P (fail c) s)))

  -- Of every store: the rules' word is the plain record list's, over the same fields.
  unfoldable pub ProtectedByFields : Type 0
  ProtectedByFields = (q : PlainList P) → is_protected P q.control ≡ plain_protected P q

  -- Of every store that runs: state answers protected exactly where no fail would answer 'stopped'.
  unfoldable pub ProtectedByFails : Type 0
  ProtectedByFails = (s : State P) → s.control.stopped ≡ false → answer_of P state s ≡ protection (no_fail_stops s)

  -- After an accepted start and any calls, none of which stopped the store, with any noise: state answers the word of
  -- the plain record list that was fed the same calls.
  unfoldable pub ProtectedByPlainList : Type 0
  ProtectedByPlainList = (a : StartArgument) (before : State P) → answer_of P (start a) before ≡ ok
      → (l : List (Noise P × Call P)) → NoStop P l (next_state P (start a) before)
      → (noise : Noise P)
      → answer_of P state (disturb P noise (state_after P l (next_state P (start a) before)))
      ≡ protection (plain_protected P (plain_after P (calls_of P l) (zeroed P a) (plain_start P a)))
