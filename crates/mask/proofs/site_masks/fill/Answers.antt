-- The members from number i on are left: while i is below their number some are, and the masks are eight at most. Assumes nothing.
use mathlib.Core.Path.{◌≡◌, ap, ◌∙◌}
use Prim.Native.Nat.{ℕ, ◌<◌}
use native.Mathlib.Omega.{arith}
use lib.ListN.{drop, length, length-drop}
use lib.Seq.{drop-drop}
use Rattle.mask.specs.Masks.{Byte, byte, members, size}
use Rattle.mask.specs.Placements.{is_site, meant, placed}
use Rattle.mask.proofs.Masks.{size-members}
use Rattle.mask.proofs.MaskSites.{few-members}
use Rattle.mask.proofs.SiteMasks.{masks-more, masks-round}
use Rattle.mask.proofs.site_masks.fill.Goals as goal

some-left : (m : Byte) (left i : ℕ) → members (byte left) ≡ drop i (members m) → i < size m → 0 < length (members (byte left))
some-left m left i rest h = omega (arith, h, size-members m, ap length rest, length-drop i (members m))

pub sites_from-requires-clause-nonzero : goal.sites_from-requires-clause-nonzero
sites_from-requires-clause-nonzero c =
    let l = c.loop-i in some-left (byte c.args.placement.mask) l.left l.i l.invariant.rest (omega arith)

pub bounds-masks-i : goal.bounds-masks-i
bounds-masks-i c =
    let m = byte c.args.placement.mask in omega (arith, size-members m, few-members m)

pub without_first-left-requires : goal.without_first-left-requires
without_first-left-requires c =
    let l = c.loop-i in some-left (byte c.args.placement.mask) l.left l.i l.invariant.rest (omega arith)

pub loop-i-preserved : goal.loop-i-preserved
loop-i-preserved c =
    let l = c.loop-i in
    let m = byte c.args.placement.mask in record {
      rest = c.without_first-left.ensures.0 ∙ ap (drop 1) l.invariant.rest ∙ drop-drop 1 l.i (members m);
      so_far = masks-more (is_site (placed (meant c.args.placement))) l.masks l.i c.sites_from.result (omega (arith, size-members m, few-members m)) l.invariant.so_far
          (c.sites_from.ensures l.i l.invariant.rest);
    }

pub returns : goal.returns
returns c =
    let l = c.loop-i in
    let m = byte c.args.placement.mask in
    masks-round (meant c.args.placement) l.masks c.members-count.result (omega (arith, size-members m)) (omega (arith, c.requires.enough)) (omega (arith, size-members m, few-members m))
    (λ b h. l.invariant.so_far b (omega arith))
