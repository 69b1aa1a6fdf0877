-- A mask is a byte, so that it is the number of its meaning. Assumes nothing.
use Rattle.std.proofs.Common.{ℕ, ◌∙◌, ◌≡◌, ap, arith}
use Rattle.mask.specs.Masks.{byte}
use Rattle.control.specs.Meaning.{meaning}
use Rattle.control.proofs.Control.stamp.Goals as goal

pub returns : goal.returns
unfolding meaning
returns c =
    let number : c.newest_mask.result ≡ (byte c.newest_mask.result).0 = omega (arith, c.newest_mask.type_inv) in
    ap (λ (m : ℕ). record { serial = c.args.self.serial; mask = m }) (number ∙ ap (λ (m : ℕ). (byte m).0) c.newest_mask.ensures)
