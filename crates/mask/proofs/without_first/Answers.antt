-- Without it the others are left, computed for every mask. Assumes nothing.
use mathlib.Core.Path.{◌∙◌, ◌≡◌, ap}
use native.Mathlib.Omega.{arith}
use Rattle.mask.specs.Masks.{byte, members, without_card}
use lib.ListN.{get_or}
use Rattle.mask.proofs.FirstMember.{rest-is}
use Rattle.mask.proofs.without_first.Goals as goal

pub returns : goal.returns
returns c =
    let m = c.args.mask in
    let e : byte c.without_card.result ≡ without_card (byte m) (get_or (members (byte m)) 0 0) =
    c.without_card.ensures ∙ ap (without_card (byte m)) c.first_member.ensures.0 in
    (ap members e ∙ rest-is m (omega arith), e)
