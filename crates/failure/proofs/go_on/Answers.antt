-- Once what was begun at the card has closed, each return is a law of going on: with a placement without the card, or with none. Assumes nothing.
use Prim.Native.Nat.{◌≤◌}
use lib.ListN.{length}
use native.Mathlib.Omega.{arith}
use Rattle.image.specs.Layout.{control_size}
use Rattle.promise.proofs.Finish.{form-long}
use Rattle.failure.proofs.Marking.{in-range}
use Rattle.failure.proofs.GoingOn.{closing, out-whole, placed-done, room, serial-closing, unplaced-done, whole-added}
use Rattle.failure.proofs.go_on.Goals as goal

pub end_held-requires : goal.end_held-requires
end_held-requires c = form-long _ c.requires.failing.formed

pub without_card-mask-requires : goal.without_card-mask-requires
without_card-mask-requires c = in-range c.requires.failing

pub add-added-requires : goal.add-added-requires
add-added-requires c =
    let closed_at = closing c.begun_at.ensures c.end_held.ensures c.close_at-closed.ensures in
    record {
      counted = closed_at.closes.counted;
      count_lt_most_active = room c.requires.failing c.requires.card_value closed_at c.newest_mask-newest.ensures c.has.ensures c.if-has.true;
      serial_lt_serial_bound = serial-closing c.requires.failing c.requires.card_value closed_at;
    }

pub write-requires : goal.write-requires
write-requires c =
    let closed_at = closing c.begun_at.ensures c.end_held.ensures c.close_at-closed.ensures in
    -- there is room for the control part in the image
    let long : control_size ≤ length c.end_held.new.image = omega (arith, out-whole c.requires.failing c.requires.card_value closed_at) in
    record { control_size_in_bounds = long; counted = c.add-added.ensures.counted }

pub put_all-requires : goal.put_all-requires
put_all-requires c =
    let closed_at = closing c.begun_at.ensures c.end_held.ensures c.close_at-closed.ensures in
    whole-added c.requires.failing c.requires.card_value closed_at _ c.newest_mask-newest.ensures c.without_card-mask.ensures c.add-added.ensures _ c.write.ensures

pub returns-then-has : goal.returns-then-has
returns-then-has c =
    let closed_at = closing c.begun_at.ensures c.end_held.ensures c.close_at-closed.ensures in
    placed-done c.requires.failing c.requires.card_value closed_at _ c.newest_mask-newest.ensures c.without_card-mask.ensures c.add-added.ensures
    c.has.ensures c.if-has.true _ _ c.write.ensures c.stamp.ensures c.put_all.ensures

pub write-requires-2 : goal.write-requires-2
write-requires-2 c =
    let closed_at = closing c.begun_at.ensures c.end_held.ensures c.close_at-closed.ensures in
    -- there is room for the control part in the image
    let long : control_size ≤ length c.end_held.new.image = omega (arith, out-whole c.requires.failing c.requires.card_value closed_at) in
    record { control_size_in_bounds = long; counted = closed_at.closes.counted }

pub returns : goal.returns
returns c =
    let closed_at = closing c.begun_at.ensures c.end_held.ensures c.close_at-closed.ensures in
    unplaced-done c.requires.failing c.requires.card_value closed_at c.newest_mask-newest.ensures c.has.ensures c.if-has.false _ c.write-2.ensures
