-- What a move of block m from card c leaves on a card x: at a newest site, elsewhere, and in the other blocks. Assumes nothing.
use Prim.Native.Nat.{ℕ}
use lib.Dec.{eqb}
use mathlib.Core.Bool.{Bool, cond, false, true}
use mathlib.Core.Option.{none, some}
use mathlib.Core.Path.{◌≡◌, refl}
use Rattle.lists.specs.Tests.{elem}
use Rattle.method.specs.Changes.{Control}
use Rattle.method.specs.Parameters.{Parameters}
use Rattle.method.specs.Rules.{View, move_writes, newest_sites, updated}

module _ (P : Parameters) (k : Control P) (v : View P) (c m x b : ℕ) where
  open P use {empty, held}

  -- a newest site that has the block keeps its own; one that lacks it gets the origin's
  pub moved-site : eqb b m ≡ true → elem x (newest_sites P k b) ≡ true → updated (move_writes P k v c m x b) (v x b) ≡ cond (held (v x b)) (v x b) (v c b)
  unfolding move_writes
  moved-site p q = rw (p, q) (pick (held (v x b)))
    where
      pick : (h : Bool) → updated (cond h none (some (v c b))) (v x b) ≡ cond h (v x b) (v c b)
      pick true = refl
      pick false = refl

  -- no site: the origin drops the block, another card keeps its own
  pub moved_other : eqb b m ≡ true → elem x (newest_sites P k b) ≡ false → updated (move_writes P k v c m x b) (v x b) ≡ cond (eqb x c) empty (v x b)
  unfolding move_writes
  moved_other p q = rw (p, q) (pick (eqb x c))
    where
      pick : (h : Bool) → updated (cond h (some empty) none) (v x b) ≡ cond h empty (v x b)
      pick true = refl
      pick false = refl

  -- other blocks stay
  pub moved-away : eqb b m ≡ false → updated (move_writes P k v c m x b) (v x b) ≡ v x b
  unfolding move_writes
  moved-away p = rw p
