-- The newest placement is the last that the image shows, and its sites can be read there. Assumes nothing.
use Prim.Native.Nat.{◌-◌, ◌<◌}
use native.Mathlib.Omega.{arith}
use Rattle.image.specs.Layout.{most_active}
use Rattle.mask.specs.Placements.{Usable}
use Rattle.control.specs.declared.Control.{Control}
use Rattle.cabinet_rules.specs.Images.{Image}
use Rattle.promise.specs.Given.{Given}
use Rattle.trail.specs.Trail.{shown_at}
use Rattle.trail.proofs.Holding.{usable_at}

module _ (k : Control) (g : Image) (is : Given k g) where
  pub last-active : k.count - 1 < most_active
  last-active = omega (arith, is.is.counted.some, is.is.counted.few)

  pub last-usable : Usable (shown_at g (k.count - 1))
  last-usable = usable_at k g is (k.count - 1) (omega (arith, is.is.counted.some))
