-- The cards below c have their tables ended; with an empty set nothing is picked. Assumes nothing.
use Prim.Native.Nat.{◌+◌, ℕ}
use borrow.Author.Rules.{rules}
use mathlib.Core.List.{List}
use mathlib.Core.Path.{◌∙◌, ◌≡◌, ap, sym}
use native.Mathlib.Omega.{arith}
use Rattle.lists.specs.Segments.{within}
use Rattle.lists.proofs.Each.{each_more, each_none}
use Rattle.image.specs.Layout.{card_count, control_size, table_size, table_start}
use Rattle.mask.specs.Masks.{byte, has_card}
use Rattle.slot.specs.Blocks.{in_set}
use Rattle.tables.proofs.Ends.{all-ended, card-off, card-on, card_wise, none-ended, up_to}
use Rattle.tables.proofs.end_held.Goals as goal
use Rattle.tables.proofs.end_held.Goals.{else-has, then-has}

pub returns-then-set-eq0 : goal.returns-then-set-eq0
returns-then-set-eq0 c =
    let a = c.args in
    none-ended (byte a.working) a.take a.set a.image.now (search rules) c.if-set-eq0.true

pub loop-c-init : goal.loop-c-init
loop-c-init c =
    let a = c.args in
    sym (each_none (card_wise (byte a.working) a.take (in_set a.set)) control_size table_size a.image.now)

pub loop-c-preserved : goal.loop-c-preserved
loop-c-preserved c =
    let l = c.loop-c in
    let a = c.args in
    let f = card_wise (byte a.working) a.take (in_set a.set) in
    let on = has_card (byte a.working) l.c in
    let start : ℕ = table_start l.c in
    let turned : within l.image start table_size (f l.c) ≡ up_to (byte a.working) a.take (in_set a.set) (l.c + 1) a.image.now =
    ap (λ (g : List ℕ). within g start table_size (f l.c)) l.invariant ∙ each_more f control_size table_size l.c a.image.now in
    elim c.if-has.branch [
      | then-has w ↦ w.image-is ∙ w.end_card.ensures ∙ card-on a.take (in_set a.set) l.image start on (sym c.has.ensures ∙ w.if-has.true) ∙ turned
      | else-has w ↦ w.image-is ∙ card-off a.take (in_set a.set) l.image start on (sym c.has.ensures ∙ w.if-has.false) (omega arith) ∙ turned
    ]

pub returns : goal.returns
returns c =
    let a = c.args in
    let e : c.loop-c.c ≡ card_count = omega arith in
    c.loop-c.invariant ∙ ap (λ (n : ℕ). up_to (byte a.working) a.take (in_set a.set) n a.image.now) e
    ∙ all-ended (byte a.working) a.take (in_set a.set) a.image.now c.requires
