-- A placement that is added, in the code's values: its control part, and the stamp that goes to every working card. Assumes nothing.
use Prim.Native.Nat.{◌<◌, suc, ℕ}
use mathlib.Core.Path.{◌∙◌, ◌≡◌, ap, ap₂}
use native.Mathlib.Omega.{arith}
use Rattle.image.specs.Layout.{card_count}
use Rattle.mask.specs.Masks.{Byte, byte}
use Rattle.mask.specs.Placements.{Placement, pairless}
use Rattle.method.specs.ControlPart.{added}
use Rattle.control.specs.ControlBytes.{Part, front_part}
use Rattle.control.specs.Meaning.{Is, meaning}
use Rattle.control.specs.Serials.{serial_bound}
use Rattle.control.specs.Stamps.{Stamp, put_stamps, stamp_of}
use Rattle.control.specs.declared.Control.{Control as Struct}
use Rattle.control.proofs.Front.{added-front}
use Rattle.cabinet_rules.specs.Images.{Image, control_in}
use Rattle.cabinet_rules.proofs.FormLaws.{numbered-in}
use Rattle.promise.specs.Given.{Given}
use Rattle.promise.proofs.Finish.{form-good}

-- The control part with one placement more, by the rules.
abbrev pub added_on : Image → Placement → Part
added_on g p = added (control_in g) p (suc (control_in g).serial)

module _ {k : Struct} {g : Image} (is : Given k g) where
  pub serial-is : k.serial ≡ (control_in g).serial
  unfolding meaning
  serial-is = ap (λ (q : Part). q.serial) is.is.means

  -- there is a serial for it
  pub serial-small : k.serial < serial_bound
  serial-small = let n = (numbered-in g (form-good g is.formed)).few in omega (arith, serial-is)

  pub added_is : (x : Struct) (p : Placement) → Is x (added (meaning k) (pairless p) (suc k.serial)) → meaning x ≡ front_part (added_on g p)
  added_is x p ix = ix.means ∙ ap₂ (λ (q : Part) (ν : ℕ). added q (pairless p) (suc ν)) is.is.means serial-is ∙ added-front (control_in g) p (suc (control_in g).serial)

-- The stamp of the code's struct is that of the control part.
pub stamped-as : (x : Struct) (p : Part) {s : Stamp} → meaning x ≡ front_part p → s ≡ stamp_of (meaning x) → (i : Image)
    → put_stamps i (byte x.working) s card_count ≡ put_stamps i p.working (stamp_of p) card_count
unfolding meaning
stamped-as x p e m i = ap₂ (λ (w : Byte) (s : Stamp). put_stamps i w s card_count) (ap (λ (q : Part). q.working) e) (m ∙ ap stamp_of e)
