-- By the mark for a table: the cards of the pair, or what the mask gives. Assumes nothing.
use mathlib.Core.Path.{◌∙◌, sym}
use lib.ListN.{get_or}
use Rattle.mask.specs.Placements.{AreSites, Placement, meant}
use Rattle.control.specs.ControlBytes.{tail_at}
use Rattle.control.proofs.ShownSites.{masked-enough, of-masked, table-sites-are}
use Rattle.control.proofs.sites.at.Goals as goal

pub returns-then-by_table : goal.returns-then-by_table
returns-then-by_table c =
    let l = c.args.image.now in
    table-sites-are (λ n. get_or l n 0) (tail_at l) c.args.i c.sites.result c.args.block.0 c.pair.result c.requires.usable c.requires.whole.2
    (sym c.by_table.ensures ∙ c.if-by_table.true) c.pair.ensures.0 c.sites.ensures

pub sites-requires-2 : goal.sites-requires-2
sites-requires-2 c =
    let l = c.args.image.now in
    record { enough = masked-enough (λ n. get_or l n 0) (tail_at l) c.args.i c.requires.usable (meant c.masked.result) c.masked.ensures; block_lt_block_count = c.requires.whole.2 }

pub returns : goal.returns
returns c =
    let l = c.args.image.now in
    let b = c.args.block.0 in
    of-masked (λ n. get_or l n 0) (tail_at l) c.args.i (λ (p : Placement). AreSites c.sites-2.result p b)
    (sym c.by_table.ensures ∙ c.if-by_table.false) (meant c.masked.result) c.masked.ensures c.sites-2.ensures
