-- The load of the blocks before b has been added up, and it is at most eight a block. Assumes nothing.
use Prim.Native.Nat.{◌+◌, ◌≤◌}
use mathlib.Core.Path.{◌∙◌, ◌≡◌, ap}
use native.Mathlib.Omega.{arith}
use Rattle.image.specs.Layout.{block_count, slot_count}
use Rattle.method.specs.Rules.{committed_in}
use Rattle.cabinet_rules.specs.Cabinet.{cabinet}
use Rattle.cabinet_rules.specs.Images.{block_in}
use Rattle.survey.specs.Loads.{load_below}
use Rattle.survey.proofs.Loads.{load-more, load-none}
use Rattle.survey.proofs.loading.load_table.Goals as goal

pub loop-b-init : goal.loop-b-init
loop-b-init c = let a = c.args in (omega arith, load-none a.image.now a.card.0)

pub loop-b-preserved : goal.loop-b-preserved
loop-b-preserved c =
    let a = c.args in
    let few : c.load_block-n.result ≤ c.loop-b.n + slot_count = c.load_block-n.ensures.1 in
    let e : c.load_block-n.result ≡ c.loop-b.n + committed_in cabinet (block_in a.image.now a.card.0 c.loop-b.b) = c.load_block-n.ensures.0 in
    let m : committed_in cabinet (block_in a.image.now a.card.0 c.loop-b.b) + load_below a.image.now a.card.0 c.loop-b.b ≡ load_below a.image.now a.card.0 (c.loop-b.b + 1) =
    load-more a.image.now a.card.0 c.loop-b.b in
    (omega arith, omega arith)

pub returns : goal.returns
returns c =
    let l = c.loop-b in
    let a = c.args in
    let e : l.b ≡ block_count = omega arith in
    l.invariant.1 ∙ ap (load_below a.image.now a.card.0) e
