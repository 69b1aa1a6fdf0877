-- By whether as many placements are active as there can be. Assumes nothing.
use mathlib.Core.Path.{◌≡◌, ◌∙◌, sym, ap}
use mathlib.Core.Bool.{Bool, cond, not, true, false}
use mathlib.Core.List.{List}
use Prim.Native.Nat.{ℕ, ◌-◌}
use lib.Dec.{eqb}
use lib.ListN.{get_or}
use borrow.Author.Tests.{eq-eqb, ne_eqb}
use Rattle.image.specs.Layout.{most_active}
use Rattle.mask.specs.Masks.{byte, is_one_more}
use Rattle.control.specs.ControlBytes.{count_in, failed_at}
use Rattle.control_form.specs.ControlForm.{count_ok}
use Rattle.control_form.specs.Reading.{chain_in, mask_at}
use Rattle.control_form.proofs.Checks.{chain_by}
use Rattle.control_form.proofs.ZeroFields.{count-few, count-some}
use Rattle.control_form.proofs.fourth_ok.Goals as goal

-- the clause, by whether the count is the greatest
decided : (l : List ℕ) → count_ok (λ n. get_or l n 0) ≡ true → (t : Bool) → eqb (count_in (get_or l 0 0)) most_active ≡ t
    → cond t (is_one_more (byte (get_or l failed_at 0)) (mask_at l (most_active - 1)) (mask_at l (most_active - 2))) true ≡ chain_in l
unfolding chain_in
decided l ok t e =
    ap (λ (b : Bool). cond b (is_one_more (byte (get_or l failed_at 0)) (mask_at l (most_active - 1)) (mask_at l (most_active - 2))) true) (sym e)
    ∙ chain_by (byte (get_or l failed_at 0)) (mask_at l) (count_in (get_or l 0 0)) (count-some l ok) (count-few l ok)

pub returns-then-s-ne-MOST_ACTIVE : goal.returns-then-s-ne-MOST_ACTIVE
returns-then-s-ne-MOST_ACTIVE c =
    let e = ne_eqb _ _ c.if-s-ne-MOST_ACTIVE.true in
    ap not e ∙ decided c.args.s.now c.requires.n_value false e

pub returns-else-s-ne-MOST_ACTIVE : goal.returns-else-s-ne-MOST_ACTIVE
returns-else-s-ne-MOST_ACTIVE c = c.one_more.ensures ∙ decided c.args.s.now c.requires.n_value true (eq-eqb _ _ c.if-s-ne-MOST_ACTIVE.false)
