-- Examples of request A.2, computed from the rules: what state answers. Assumes nothing.
use mathlib.Core.List.{[], ◌∷◌}
use mathlib.Core.Path.{◌≡◌, refl}
use Rattle.lists.specs.Tabulate.{tabulate}
use Rattle.mask.specs.Masks.{byte, has_card, is_within, size, with_card, without_card}
use Rattle.slot.specs.Blocks.{is_held}
use Rattle.method.specs.Rules.{settled_by}
use Rattle.method.specs.Rules.{act, answer_of, apply, clear_card, drop_held, fail, fit, is_protected, look, lost_of, next_state}
use Rattle.method.specs.Rules.{place, plan, refusal, settle, settled, state, stopping}
use Rattle.cabinet_rules.specs.Cabinet.{place_rows, start_row}
use Rattle.cabinet_rules.specs.Places.{by_mask, placed_row}
use Rattle.cabinet_rules.proofs.Examples.{answers_by, final}

-- Two cards; three; two, and a third outside the placement; four, and a plain load move onto three of them, and onto two; four of which
-- one failed, before and after settle; three of which one failed, after settle. 8 is protected, 9 unprotected.
protection-examples :
    final 0xC0 (state ∷ [])
    ∷ final 0xE0 (state ∷ [])
    ∷ final 0xC0 (fit 2 ∷ state ∷ [])
    ∷ final 0xF0 (place (by_mask (byte 0x70)) ∷ state ∷ [])
    ∷ final 0xF0 (place (by_mask (byte 0x60)) ∷ state ∷ [])
    ∷ final 0xF0 (fail 0 ∷ state ∷ [])
    ∷ final 0xF0 (fail 0 ∷ settle ∷ state ∷ [])
    ∷ final 0xE0 (fail 0 ∷ settle ∷ state ∷ [])
    ∷ []
    ≡ (9 ∷ [])
    ∷ (8 ∷ [])
    ∷ (9 ∷ [])
    ∷ (8 ∷ [])
    ∷ (9 ∷ [])
    ∷ (9 ∷ [])
    ∷ (8 ∷ [])
    ∷ (9 ∷ [])
    ∷ []
unfolding final answers_by answer_of next_state apply plan refusal act look lost_of stopping settled settled_by is_protected clear_card drop_held has_card with_card without_card is_within size
    start_row place_rows placed_row is_held tabulate
protection-examples = refl
