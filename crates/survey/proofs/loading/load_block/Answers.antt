-- The lent part is the card's block. Assumes nothing.
use Prim.Native.Nat.{◌+◌, ◌-◌}
use mathlib.Core.Path.{◌∙◌, ◌≡◌, ap, sym}
use native.Mathlib.Omega.{arith}
use borrow.Rule.Slice.PartMut.{mid_of}
use Rattle.image.specs.Layout.{block_size}
use Rattle.slot.specs.Blocks.{BlockBytes, committed_count, is_held, of_list}
use Rattle.cabinet_rules.specs.Images.{block_in}
use Rattle.promise.proofs.Laid.{of_part}
use Rattle.survey.proofs.Loads.{load-bare, load-held}
use Rattle.survey.proofs.loading.load_block.Goals as goal

pub returns-then-is_held : goal.returns-then-is_held
returns-then-is_held c =
    -- the card's block, and the lent part that it is
    let found : BlockBytes = let a = c.args in block_in a.image.now a.card.0 a.block.0 in
    let lent_is : let t = c.block_address-start.result in
    of_list (mid_of t (t + block_size - t) c.args.image.now) ≡ found = let a = c.args in
    let t = c.block_address-start.result in
    of_part a.image.now c.requires.whole.0 a.card.0 a.block.0 c.requires.whole.1 c.requires.whole.2 t (t + block_size - t) c.block_address-start.ensures (omega arith) in
    load-held found c.args.n c.committed_count.result
    (sym (ap is_held lent_is) ∙ sym c.is_held.ensures ∙ c.if-is_held.true) (c.committed_count.ensures ∙ ap committed_count lent_is)

pub returns : goal.returns
returns c =
    -- the card's block, and the lent part that it is
    let found : BlockBytes = let a = c.args in block_in a.image.now a.card.0 a.block.0 in
    let lent_is : let t = c.block_address-start.result in
    of_list (mid_of t (t + block_size - t) c.args.image.now) ≡ found = let a = c.args in
    let t = c.block_address-start.result in
    of_part a.image.now c.requires.whole.0 a.card.0 a.block.0 c.requires.whole.1 c.requires.whole.2 t (t + block_size - t) c.block_address-start.ensures (omega arith) in
    load-bare found c.args.n (sym (ap is_held lent_is) ∙ sym c.is_held.ensures ∙ c.if-is_held.false)
