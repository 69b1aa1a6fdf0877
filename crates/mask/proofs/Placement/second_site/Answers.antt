-- By whether there is a member across. Assumes nothing.
use mathlib.Core.Path.{◌∙◌, ap, sym}
use mathlib.Core.List.{[], ◌∷◌}
use Prim.Native.Nat.{ℕ}
use borrow.Author.Rules.{rules}
use borrow.Author.Tests.{eq-eqb, ne_eqb}
use Rattle.mask.proofs.MaskSites.{sites-found}
use Rattle.mask.proofs.Placement.second_site.Goals as goal

pub returns-then-across-eq0 : goal.returns-then-across-eq0
returns-then-across-eq0 c =
    let p = c.args.self in
    let at : ℕ = c.args.block.0 in
    rw (eq-eqb c.across-across.result 0 c.if-across-eq0.true)
    at (sites-found p.mask p.rails at c.args.first.0 c.across-across.result (search rules) c.requires.copy_count_bound c.requires.first_value c.across-across.ensures)
    ∙ ap (λ (x : ℕ). c.args.first.0 ∷ x ∷ []) (sym c.next_member.ensures)

pub returns : goal.returns
returns c =
    let p = c.args.self in
    rw (ne_eqb c.across-across.result 0 c.if-across-eq0.false)
    at (sites-found p.mask p.rails c.args.block.0 c.args.first.0 c.across-across.result (search rules) c.requires.copy_count_bound c.requires.first_value c.across-across.ensures)
