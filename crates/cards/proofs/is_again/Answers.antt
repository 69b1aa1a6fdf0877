-- A placement of another mask is never the same, and one of this mask where it is by rails. Assumes nothing.
use mathlib.Core.Bool.{Bool, ◌&&◌, and-false, and-true}
use mathlib.Core.Path.{◌∙◌, ◌≡◌, ap, ap₂, sym}
use Prim.Native.Nat.{◌<◌, ℕ}
use native.Mathlib.Nat.{mod-eq_of_lt}
use borrow.Author.Rules.{rules}
use borrow.Author.Tests.{eq-eqb, ne_eqb}
use lib.Dec.{eqb}
use Rattle.mask.specs.Masks.{Byte, byte}
use Rattle.mask.specs.Placements.{is_by_rails}
use Rattle.control.specs.Meaning.{meaning, newest_mask}
use Rattle.control.specs.declared.Control.{Control}
use Rattle.control.proofs.Struct.{newest-mask-is}
use Rattle.cards.proofs.is_again.Goals as goal

-- Both masks are bytes, and the test compares them.
both-bytes : (k : Control) {m n : ℕ} → m < 256 → n < 256 → n ≡ newest_mask k → eqb (byte m).0 (meaning k).newest.mask.0 ≡ eqb m n
both-bytes k {m} {n} given read e = ap₂ eqb (mod-eq_of_lt given) (sym (ap (λ (b : Byte). b.0) (newest-mask-is k n e)) ∙ mod-eq_of_lt read)

pub returns-then-mask-newest_mask : goal.returns-then-mask-newest_mask
returns-then-mask-newest_mask c =
    let compared = both-bytes c.args.k (search rules) c.newest_mask.type_inv c.newest_mask.ensures in
    let rails = is_by_rails (meaning c.args.k).newest.choice in
    sym (ap (λ (b : Bool). rails && b) (compared ∙ ne_eqb _ _ c.if-mask-newest_mask.true) ∙ and-false rails)

pub returns : goal.returns
returns c =
    let compared = both-bytes c.args.k (search rules) c.newest_mask.type_inv c.newest_mask.ensures in
    let rails = is_by_rails (meaning c.args.k).newest.choice in
    c.newest_by_rails.ensures ∙ sym (ap (λ (b : Bool). rails && b) (compared ∙ eq-eqb _ _ c.if-mask-newest_mask.false) ∙ and-true rails)
