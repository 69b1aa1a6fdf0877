-- The image after a return that is taken: the locks of the card are dropped, and then the control part is written over it. The placements stay, and so
-- do the bytes behind the tables. Assumes nothing.
use Prim.Native.Nat.{◌<◌, ℕ}
use lib.ListN.{length}
use mathlib.Core.Bool.{Bool, false, not}
use mathlib.Core.Path.{◌∙◌, ◌≡◌, ap, ap₂}
use Rattle.image.specs.Layout.{card_count}
use Rattle.image.specs.Parts.{Whole}
use Rattle.mask.specs.Masks.{byte, no_cards, with_card, without_card}
use Rattle.slot.specs.Blocks.{in_set}
use Rattle.method.specs.ControlPart.{part, with_cards}
use Rattle.method.specs.Returning.{admitted, can_run, drop_locks, is_lock, rejoined}
use Rattle.control.specs.ControlBytes.{Part, front_part}
use Rattle.control.specs.Meaning.{Is, meaning, put_control}
use Rattle.control.specs.declared.Control.{Control as Struct}
use Rattle.cabinet_rules.specs.Cabinet.{cabinet}
use Rattle.cabinet_rules.specs.Images.{Image, Writes, control_in, state_in}
use Rattle.promise.specs.Given.{Given}
use Rattle.promise.specs.Laid.{laid}
use Rattle.promise.proofs.Finish.{form-good}
use Rattle.promise.proofs.Laid.{same-tail, whole-laid, write-control}
use Rattle.tables.specs.Tables.{end_writes, set_of}
use Rattle.returns.specs.Rejoining.{rejoined_on}
use Rattle.returns.proofs.Locks.{drops-every}
use Rattle.returns.proofs.Running.{front-runs}

-- a control part, stopped or not
abbrev rest_as : Bool → Part → Part
rest_as s p = part s p.older p.newest p.working p.failed p.home p.setting p.serial

module _ {k : Struct} {g : Image} (is : Given k g) (c : ℕ) (hc : c < card_count) where
  -- ---- the control part
  -- the card works
  module _ {a : Struct} (ia : Is a (with_cards (meaning k) (with_card (meaning k).working c) (without_card (meaning k).failed c))) where
    admitted-is : meaning a ≡ front_part (admitted cabinet (control_in g) c)
    admitted-is = ia.means ∙ ap (λ (p : Part). admitted cabinet p c) is.is.means

    -- and the store, if it can
    rejoined-is : {x : Struct} {b : Bool} → b ≡ can_run cabinet (meaning a)
        → Is x (rest_as (not b) (meaning a))
        → meaning x ≡ front_part (rejoined cabinet (control_in g) c)
    rejoined-is {b = b} e ix =
        let runs : b ≡ can_run cabinet (admitted cabinet (control_in g) c) = e ∙ ap (can_run cabinet) admitted-is ∙ front-runs (admitted cabinet (control_in g) c) in
        ix.means ∙ ap₂ (λ (s : Bool) (p : Part). rest_as (not s) p) runs admitted-is

    -- ---- the image
    pub rejoins : {x : Struct} {b : Bool} {out : Image} (m set : ℕ) → byte m ≡ with_card no_cards c → set ≡ set_of is_lock
        → out ≡ laid (end_writes (byte m) false (in_set set) g) g
        → b ≡ can_run cabinet (meaning a)
        → Is x (rest_as (not b) (meaning a))
        → put_control out (meaning x) ≡ rejoined_on c g
    unfolding rejoined_on
    rejoins m set em es eo e ix =
        let w : Writes = drop_locks cabinet (control_in g) (state_in g).block c in
        ap₂ put_control (eo ∙ drops-every g c hc em es) (rejoined-is e ix)
        ∙ write-control w g (rejoined cabinet (control_in g) c) (same-tail g (form-good g is.formed))

-- the image stays as long as it was
pub whole-ended : (m set : ℕ) (take : Bool) (g : Image) {out : Image} → out ≡ laid (end_writes (byte m) take (in_set set) g) g → Whole out
whole-ended m set take g e = ap length e ∙ whole-laid (end_writes (byte m) take (in_set set) g) g
