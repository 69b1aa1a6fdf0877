-- The return of a failed card to a stopped store (request A.7), with its table as the image now has it. Assumes nothing.
use Rattle.std.specs.Prelude.{ℕ, eqb, ltb, Bool, ◌&&◌, ◌||◌, cond, false, not}
use Rattle.std.proofs.Math.Option.{Option, none, some}
use Rattle.lists.specs.Tests.{all_below, all_in}
use Rattle.method.specs.Changes.{Control}
use Rattle.method.specs.ControlPart.{active, part, with_cards}
use Rattle.method.specs.Parameters.{Parameters}
use Rattle.method.specs.Rules.{Answer, Plan, State, View, apply, guarded, lost, ok, row, writing}

-- Every lock: 0 is none.
abbrev pub is_lock : ℕ → Bool
is_lock t = not (eqb t 0)

module _ (P : Parameters) where
  open P use {Block, Stamp, blocks, cards, end_slots, has, held, insert, mask, remove, same_stamp, stamp_of}

  -- ---- the control part
  -- The control form of a running store, where no transaction is open: all members of the newest placement work and no
  -- active placement is lost.
  unfoldable pub can_run : Control P → Bool
  can_run k =
      all_below cards (λ c. not (has (mask k.newest) c) || has k.working c)
      && all_in (λ p. not (lost P k p)) (active k)

  -- The card works and is failed no more.
  abbrev pub admitted : Control P → ℕ → Control P
  admitted k c = with_cards k (insert k.working c) (remove k.failed c)

  -- It is admitted, and the store runs where it can.
  abbrev pub rejoined : Control P → ℕ → Control P
  rejoined k c =
      part (not (can_run (admitted k c))) k.older k.newest (insert k.working c) (remove k.failed c) k.home
      k.setting k.serial

  -- ---- refusals
  -- Stale: the card's stamp is not the newest placement's, or this does not name the card.
  unfoldable pub is_stale : Control P → Stamp → ℕ → Bool
  is_stale k m c = not (same_stamp m (stamp_of k) && has (mask k.newest) c)

  -- The refusal table from 3 on, beside all cards' stamps: 8 where the store runs or the card is not failed, 19 where it
  -- is stale.
  unfoldable pub return_refusal : Control P → (ℕ → Stamp) → ℕ → ℕ
  return_refusal k m c =
      row 3 (not (ltb c cards)) (
      row 8 (not k.stopped || not (has k.failed c)) (
      row 19 (is_stale k (m c) c) 0))

  -- ---- what it writes
  -- In the blocks that the card holds every lock, and what is pending under it, is dropped. The view is of the tables as
  -- they are, that of the failed card too.
  unfoldable pub drop_locks : Control P → View P → ℕ → ℕ → ℕ → Option Block
  drop_locks k v card c b =
      cond (eqb c card && (ltb b (blocks k.setting) && held (v c b))) (some (end_slots false is_lock (v c b))) none

  -- A return that is taken answers ok, whether or not the store then runs.
  abbrev pub return_plan : Control P → View P → ℕ → Plan P
  return_plan k v c = writing P ok (rejoined k c) (drop_locks k v c)

  -- ---- the whole return
  -- It is refused and nothing changes, or it is done.
  unfoldable pub returning : ℕ → State P → Plan P
  returning c s =
      guarded P (return_refusal s.control s.stamp c) s.control (return_plan s.control s.block c)

  -- What it answers, and what it leaves.
  unfoldable pub return_answer : ℕ → State P → Answer P
  return_answer c s = (returning c s).answer

  unfoldable pub after_return : ℕ → State P → State P
  after_return c s = apply P (returning c s) s
