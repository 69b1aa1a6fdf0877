-- A stopped store that can run again: every failed card that its newest placement names has come back, so that the wish of the stopped store
-- is what the running store sees. Assumes nothing.
use Prim.Native.Nat.{ℕ}
use lib.Dec.{ltb}
use mathlib.Core.Bool.{Bool, ◌&&◌, ◌||◌, cond, false, true}
use mathlib.Core.Path.{◌≡◌, fun_ext, refl}
use Rattle.lists.proofs.Bools.{and_l, and_r, never_true, tf}
use Rattle.method.specs.Changes.{Control}
use Rattle.method.specs.ControlPart.{active}
use Rattle.method.specs.Parameters.{Parameters}
use Rattle.method.specs.Returning.{admitted, can_run}
use Rattle.method.specs.Rules.{State, View, look, visible}
use Rattle.method.specs.Slots.{Slot}
use Rattle.method.proofs.Invariant.{BlockInv, Invariant}
use Rattle.method.proofs.Laws.{Laws}
use Rattle.method.proofs.Resting.{Halt, halt-returned, hoped, hopes, returned, wish}
use Rattle.method.proofs.Returning.{admitted_as, form-again, newest-works}

module _ (P : Parameters) (L : Laws P) where
  open P use {Block, Stamp, blocks, cards, empty, has, mask}

  -- where all members of the newest placement work, none is still hoped for
  module _ (k : Control P) (v : View P) (records : ℕ → Slot) (h : Halt P L k v records)
      (all-work : (x : ℕ) → has (mask k.newest) x ≡ true → has k.working x ≡ true) where
    none-hoped : (x : ℕ) → hoped P L k x ≡ false
    none-hoped x = never_true (hoped P L k x) (λ e. tf (has k.failed x) (and_l (has k.failed x) (has (mask k.newest) x) e)
        (h.rests.apart x (all-work x (and_r (has k.failed x) (has (mask k.newest) x) e))))

    only-working : hopes P L k ≡ has k.working
    only-working = fun_ext (λ x. rw (none-hoped x) (go (has k.working x)))
      where
        go : (b : Bool) → (b || false) ≡ b
        go true = refl
        go false = refl

    only_seen : (λ (x b : ℕ). cond (visible P k x b) (v x b) empty) ≡ wish P L k v
    unfolding wish
    only_seen = fun_ext (λ x. fun_ext (λ b. rw (none-hoped x) (go (has k.working x) (ltb b (blocks k.setting)) (v x b))))
      where
        go : (w l : Bool) (y : Block) → cond (w && l) y empty ≡ cond l (cond w y empty) empty
        go true true y = refl
        go true false y = refl
        go false true y = refl
        go false false y = refl

    each_seen : (b : ℕ) → ltb b (blocks k.setting) ≡ true
        → BlockInv P k.setting (active k) (has k.working) (λ (x b : ℕ). cond (visible P k x b) (v x b) empty) records b
    each_seen b bk = rw (only_seen, ← only-working) (h.each b bk)

  -- after a return with which the store can run it has the invariant of a running store
  module _ (k : Control P) (v : View P) (records : ℕ → Slot) (i : Halt P L k v records) (c : ℕ) (c-ok : ltb c cards ≡ true)
      (down : has k.failed c ≡ true) (named : has (mask k.newest) c ≡ true) (can : can_run P (admitted P k c) ≡ true) (m : ℕ → Stamp) where
    abbrev again : State P
    again = record { control = admitted_as P L k c false; block = returned P L k v records i c c-ok down named; stamp = m }

    pub runs-again : Invariant P (admitted_as P L k c false) (look P again) records
    unfolding look
    runs-again = record {
      form = form-again P L k i.rests c c-ok named can;
      idle = λ x b e. rw e;
      each = each_seen (admitted_as P L k c true) (returned P L k v records i c c-ok down named) records (halt-returned P L k v records i c c-ok down named)
          (newest-works P L k i.rests c c-ok named can);
    }
