-- By the mark for a table: the masks of the pairs, which are lent, or those that the placement's mask gives. Assumes nothing.
use mathlib.Core.Path.{◌∙◌, sym}
use Prim.Native.Nat.{◌+◌, ◌-◌}
use native.Mathlib.Omega.{arith}
use lib.ListN.{get_or}
use borrow.Rule.Slice.PartMut.{mid_of}
use Rattle.image.specs.Layout.{pairs_size}
use Rattle.mask.specs.Placements.{Placement, meant}
use Rattle.mask.specs.SiteMasks.{SitesIn}
use Rattle.control.specs.ControlBytes.{tail_at}
use Rattle.control.proofs.ShownSites.{lent-pair, masked-enough, of-masked, table-masks}
use Rattle.control.proofs.sites.fill.Goals as goal

pub returns-then-by_table : goal.returns-then-by_table
returns-then-by_table c =
    let l = c.args.image.now in
    let t = c.start-start.result in
    table-masks (λ n. get_or l n 0) (tail_at l) c.args.i c.fill.new.masks (λ j. get_or (mid_of t (t + pairs_size - t) l) j 0) (sym c.by_table.ensures ∙ c.if-by_table.true)
    (lent-pair l c.args.i t (t + pairs_size - t) c.start-start.ensures (omega arith)) c.fill.ensures.1

pub fill-requires-2 : goal.fill-requires-2
fill-requires-2 c =
    let l = c.args.image.now in
    record { masks_len = c.requires.masks_len.0; enough = masked-enough (λ n. get_or l n 0) (tail_at l) c.args.i c.requires.usable (meant c.masked.result) c.masked.ensures }

pub returns : goal.returns
returns c =
    let l = c.args.image.now in
    of-masked (λ n. get_or l n 0) (tail_at l) c.args.i (λ (p : Placement). SitesIn c.fill-2.new.masks c.fill-2.result p)
    (sym c.by_table.ensures ∙ c.if-by_table.false) (meant c.masked.result) c.masked.ensures c.fill-2.ensures
