-- One round of the members gives the masks of as many blocks, and then the sites come again. Assumes nothing.
use mathlib.Core.Path.{◌≡◌}
use lib.ListN.{drop}
use Rattle.mask.specs.Masks.{byte, members}
use Rattle.mask.specs.Placements.{is_site, meant, placed}
use Rattle.mask.specs.SiteMasks.{MasksBelow}
use Rattle.mask.proofs.site_masks.fill.Given as goal

abbrev pub invariant-loop-i : goal.invariant-loop-i
invariant-loop-i l = record {
  rest : members (byte l.left) ≡ drop l.i (members (byte l.placement.mask));
  so_far : MasksBelow (is_site (placed (meant l.placement))) l.masks l.i;
}
