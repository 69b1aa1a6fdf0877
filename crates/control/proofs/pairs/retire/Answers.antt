-- The pairs that were read are written at the front, and the part behind them is lent and zeroed. Assumes nothing.
use mathlib.Core.Path.{◌≡◌, ap, ◌∙◌}
use mathlib.Core.List.{List}
use Prim.Native.Nat.{ℕ, ◌+◌, ◌*◌, ◌-◌}
use native.Mathlib.Omega.{arith}
use lib.ListN.{length}
use Rattle.lists.specs.Segments.{segment, splice}
use Rattle.image.specs.Layout.{image_size, pairs_size, tail_size, tail_start}
use Rattle.image.specs.Parts.{zeros}
use Rattle.image.proofs.Parts.{length_part, part_left}
use Rattle.image.proofs.Zeros.{length-zeros}
use Rattle.control.proofs.PutTail.{length_front, put-retired}
use Rattle.control.proofs.pairs.retire.Goals as goal

pub returns : goal.returns
returns c =
    let l = c.args.image.now in
    let i : ℕ = c.args.count - 1 in
    let few = c.requires.2 in
    let xs = c.read_at-pairs.result in
    let is : xs ≡ segment l (tail_start + i * pairs_size) pairs_size = c.read_at-pairs.ensures ∙ ap (λ (a : ℕ). segment l a pairs_size) c.start.ensures in
    let long = length_front l i xs c.requires.0 (omega (arith, few, c.requires.1)) is in
    let at : ℕ = tail_start + pairs_size in
    let k : ℕ = image_size - at in
    let m = c.put.new.image in
    let e : m ≡ splice l tail_start xs = c.put.ensures in
    let n : length m ≡ length l = ap length e ∙ long in
    part_left at k m (zeros (tail_size - pairs_size)) _ (c.clear.ensures ∙ ap zeros (length_part at k m (tail_size - pairs_size) (omega arith) (omega (arith, n, c.requires.0))))
    (omega (arith, length-zeros (tail_size - pairs_size)))
    ∙ ap (λ (m : List ℕ). splice m at (zeros (tail_size - pairs_size))) e
    ∙ put-retired l i xs c.requires.0 (omega (arith, few, c.requires.1)) is
