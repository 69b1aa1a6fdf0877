-- The tests of the lent block are those of the rules' rows 11 and 12. Assumes nothing.
use Prim.Native.Nat.{◌+◌, ◌-◌, ◌≤◌, ℕ}
use borrow.Rule.Slice.PartMut.{mid_of}
use lib.ListN.{length}
use Rattle.refusals.proofs.HandedOn.{row-handed-on}
use Rattle.refusals.proofs.Numbers.{not-none}
use mathlib.Core.Bool.{Bool, not}
use mathlib.Core.List.{List}
use mathlib.Core.Path.{◌∙◌, ◌≡◌, refl}
use native.Mathlib.Omega.{arith}
use Rattle.image.specs.Layout.{block_size}
use Rattle.slot.specs.Blocks.{some_locked, of_list}
use Rattle.method.specs.Rules.{move, row}
use Rattle.promise.proofs.SharedRows.{card-given}
use Rattle.promise.specs.Given.{rows_on}
use Rattle.reorganise.proofs.MoveRows.{copy-card, copy-end, copy-rows, refused-block, refused-card}
use Rattle.reorganise.proofs.moving.check.Goals as goal

pub returns-then-block-ge-BLOCK_COUNT : goal.returns-then-block-ge-BLOCK_COUNT
returns-then-block-ge-BLOCK_COUNT c = let a = c.args in refused-block a.image.now a.card.0 a.block.0 c.if-block-ge-BLOCK_COUNT.true

pub returns-in_err-check_card : goal.returns-in_err-check_card
returns-in_err-check_card c =
    let a = c.args in
    row-handed-on _ _ c.from_residual.ensures
    ∙ refused-card a.image.now a.card.0 a.block.0 _ c.if-block-ge-BLOCK_COUNT.false (c.in_err-check_card.ensures ∙ card-given c.requires a.card.0) (not-none _)

pub block_address-start-requires : goal.block_address-start-requires
block_address-start-requires c =
    let a = c.args in
    (copy-card a.k a.image.now c.requires a.card.0 a.block.0 c.if-block-ge-BLOCK_COUNT.false c.in_ok-check_card.ensures, c.if-block-ge-BLOCK_COUNT.false)

pub slice_bounds-is_held-end : goal.slice_bounds-is_held-end
slice_bounds-is_held-end c =
    -- the block lies in the image
    let ends : c.block_address-start.result + block_size ≤ length c.args.image.now = let a = c.args in
    copy-end a.k a.image.now c.requires a.card.0 a.block.0 c.if-block-ge-BLOCK_COUNT.false c.in_ok-check_card.ensures
    c.block_address-start.result c.block_address-start.ensures in
    ends

pub returns-then-not-is_held : goal.returns-then-not-is_held
returns-then-not-is_held c =
    -- the lent part
    let lent : List ℕ = let t = c.block_address-start.result in
    mid_of t (t + block_size - t) c.args.image.now in
    -- rows 11 and 12 by the tests of it
    let rows : (locked : Bool) → locked ≡ some_locked (of_list lent)
    → let a = c.args in row 11 (not c.is_held.result) (row 12 locked 0) ≡ rows_on (move a.card.0 a.block.0) a.image.now = λ locked e. let a = c.args in
    let t = c.block_address-start.result in
    copy-rows a.k a.image.now c.requires a.card.0 a.block.0 c.if-block-ge-BLOCK_COUNT.false c.in_ok-check_card.ensures
    t c.block_address-start.ensures (t + block_size - t) (omega arith) c.is_held.result locked c.is_held.ensures e in
    rw c.if-not-is_held.true at (rows (some_locked (of_list lent)) refl)

pub slice_bounds-any_locked-end : goal.slice_bounds-any_locked-end
slice_bounds-any_locked-end c =
    -- the block lies in the image
    let ends : c.block_address-start.result + block_size ≤ length c.args.image.now = let a = c.args in
    copy-end a.k a.image.now c.requires a.card.0 a.block.0 c.if-block-ge-BLOCK_COUNT.false c.in_ok-check_card.ensures
    c.block_address-start.result c.block_address-start.ensures in
    ends

pub returns-then-any_locked : goal.returns-then-any_locked
returns-then-any_locked c =
    -- the lent part
    let lent : List ℕ = let t = c.block_address-start.result in
    mid_of t (t + block_size - t) c.args.image.now in
    -- rows 11 and 12 by the tests of it
    let rows : (locked : Bool) → locked ≡ some_locked (of_list lent)
    → let a = c.args in row 11 (not c.is_held.result) (row 12 locked 0) ≡ rows_on (move a.card.0 a.block.0) a.image.now = λ locked e. let a = c.args in
    let t = c.block_address-start.result in
    copy-rows a.k a.image.now c.requires a.card.0 a.block.0 c.if-block-ge-BLOCK_COUNT.false c.in_ok-check_card.ensures
    t c.block_address-start.ensures (t + block_size - t) (omega arith) c.is_held.result locked c.is_held.ensures e in
    rw (c.if-not-is_held.false, c.if-any_locked.true) at (rows c.any_locked.result c.any_locked.ensures)

pub returns : goal.returns
returns c =
    -- the lent part
    let lent : List ℕ = let t = c.block_address-start.result in
    mid_of t (t + block_size - t) c.args.image.now in
    -- rows 11 and 12 by the tests of it
    let rows : (locked : Bool) → locked ≡ some_locked (of_list lent)
    → let a = c.args in row 11 (not c.is_held.result) (row 12 locked 0) ≡ rows_on (move a.card.0 a.block.0) a.image.now = λ locked e. let a = c.args in
    let t = c.block_address-start.result in
    copy-rows a.k a.image.now c.requires a.card.0 a.block.0 c.if-block-ge-BLOCK_COUNT.false c.in_ok-check_card.ensures
    t c.block_address-start.ensures (t + block_size - t) (omega arith) c.is_held.result locked c.is_held.ensures e in
    rw (c.if-not-is_held.false, c.if-any_locked.false) at (rows c.any_locked.result c.any_locked.ensures)
