-- Twins agree: all working cards that hold a block show the same slots of it. The statement. Assumes nothing.
use Rattle.std.specs.Prelude.{◌<◌, ℕ, true, List, ◌≡◌}
use Rattle.method.specs.OneRecordList.{Noise, state_after}
use Rattle.method.specs.Parameters.{Parameters}
use Rattle.method.specs.Rules.{Call, State, answer_of, next_state, ok, start, visible}

module _ (P : Parameters) where
  open P use {StartArgument, held, slot, slots}

  -- Two working cards that hold a block show the same slot at each of its places: committed state, lock and pending
  -- state alike.
  abbrev pub Twins : State P → Type 0
  Twins s = (c d b i : ℕ) → visible P s.control c b ≡ true → visible P s.control d b ≡ true
      → held (s.block c b) ≡ true → held (s.block d b) ≡ true → i < slots
      → slot (s.block c b) i ≡ slot (s.block d b) i

  -- After an accepted start on memory of any contents and any list of calls, whether they stopped the store or not.
  unfoldable pub TwinsAgree : Type 0
  TwinsAgree = (a : StartArgument) (before : State P) → answer_of P (start a) before ≡ ok
      → (l : List (Noise P × Call P)) → Twins (state_after P l (next_state P (start a) before))
